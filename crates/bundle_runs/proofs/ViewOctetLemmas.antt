-- The record of a bundle whose bodies are octets has octets, and both views of it are spelled by octets.
use Rattle.std.proofs.Common.{◌≡◌, ℕ, ◌+◌, ◌<◌, ◌≤◌, Bool, true, false, ◌||◌, if◌then◌else◌, List, [], ◌∷◌, ◌++◌, length, map, take, drop, get_or, Option, Some, None, Result, Ok, Err, refl, sym, subst, arith}
use Rattle.std.specs.List.{All, flat_map}
use Rattle.std.proofs.lemmas.List.Elements.{All-nil, All-cons, All-head, All-tail, All-append, All-take, All-drop}
use Rattle.sdnv.specs.Shortest.{spelling}
use Rattle.cbor_lite.specs.Head.{head}
use Rattle.endpoint.specs.declared.name.Endpoint.{Endpoint}
use Rattle.endpoint.specs.Endpoints.{IsEndpoint, text_of}
use Rattle.wire_fields.specs.Format.{Format, Spells, give, ◌>>=◌}
use Rattle.wire_fields.specs.Reading.{IsOctets}
use Rattle.wire_fields.specs.Refusal.{Stop}
use Rattle.wire_fields.specs.Whole.{read_whole}
use Rattle.wire_fields.proofs.StayLemmas.{octets-parts}
use Rattle.wire_fields.proofs.WholeLemmas.{whole-found}
use Rattle.bundle6.specs.declared.block.Block6.{Block6}
use Rattle.bundle6.specs.declared.bundle.Bundle6.{Bundle6}
use Rattle.bundle6.specs.Spelling.{canon6}
use Rattle.bundle6.specs.Table.{is_payload}
use Rattle.bundle7.specs.declared.block.Block7.{Block7}
use Rattle.bundle7.specs.declared.bundle.Bundle7.{Bundle7}
use Rattle.bundle7.specs.Spelling.{octets7, eid_octets}
use Rattle.bundle_meaning.specs.declared.blocks.Block6Like.{Block6Like}
use Rattle.bundle_meaning.specs.declared.blocks.Block7Like.{Block7Like}
use Rattle.bundle_meaning.specs.declared.blocks.Ext.{Ext}
use Rattle.bundle_meaning.specs.declared.blocks.Ext.TheVariants.{Six, Seven}
use Rattle.bundle_meaning.specs.declared.fault.BlockFault.{BlockFault}
use Rattle.bundle_meaning.specs.declared.fault.BlockFault.TheVariants.{Bad}
use Rattle.bundle_meaning.specs.declared.full.Full.{Full}
use Rattle.bundle_meaning.specs.declared.report.Part.{Part}
use Rattle.bundle_meaning.specs.declared.report.Stamp.{Stamp}
use Rattle.bundle_meaning.specs.declared.report.Stamp.TheVariants.{No, Yes, At}
use Rattle.bundle_meaning.specs.declared.residue.ResidueOld.{ResidueOld}
use Rattle.bundle_meaning.specs.declared.residue_new.ResidueNew.{ResidueNew}
use Rattle.bundle_meaning.specs.declared.shared.Content.{Content}
use Rattle.bundle_meaning.specs.declared.shared.Content.TheVariants as contents
use Rattle.bundle_meaning.specs.Blocks.{IsExt, mark, residue_kind}
use Rattle.bundle_meaning.specs.Body.{all_left, name_octets}
use Rattle.bundle_meaning.specs.Residue.{residue_old_octets, residue_old_of, residue_new_octets, residue_new_of}
use Rattle.bundle_meaning.specs.Valid.{IsContent}
use Rattle.bundle_meaning.specs.Wrap.{wrap_old, wrap_new, wrap_old_octets, wrap_new_octets}
use Rattle.bundle_meaning.proofs.FactLemmas.{wrap_old-octets}
use Rattle.status_reports.specs.declared.report6.Report6.{Report6}
use Rattle.status_reports.specs.declared.report6.Time6.{Time6}
use Rattle.status_reports.specs.declared.report7.Report7.{Report7}
use Rattle.status_reports.specs.Fields.{is_set}
use Rattle.status_reports.specs.Pairing.{bit_of, statuses_of, report6_of, report7_of}
use Rattle.status_reports.specs.Table7.{no_octet, yes_octet}
use Rattle.status_reports.specs.Spelling.{items_of, lead_octet, part6_octets, part7_octets, report6_octets, report7_octets, stamp_octets, stamps_octets, time_octets, times_octets}
use Rattle.translate.specs.Admin.{content6, content7}
use Rattle.translate.specs.Private.{is_residue, is_wrap}
use Rattle.translate.specs.Reading6.{carried6, exts_in6, ext6_of, full6_of, held7, payload_in, residue6_of}
use Rattle.translate.specs.Reading7.{carried7, exts_in7, ext7_of, full7_of, held6, residue7_of}
use Rattle.translate.specs.Sound.{IsSound}
use Rattle.translate.specs.Translation.{HoldsOctets6, HoldsOctets7}
use Rattle.translate.specs.View6.{before_payload, block6_of, blocks6_of, needs_residue6, octets6_of, payload6_of, residue6, view6_of}
use Rattle.translate.specs.View7.{block7_at, blocks7_of, exts7_of, needs_residue7, next_free7, number_after7, octets7_of, residue7_at, view7_of}
use Rattle.translate.proofs.Blocks6Lemmas.{six_of}
use Rattle.bundle_runs.proofs.OctetLemmas.{no-octets, more-octets, joined-octets, one-octet, tested-octets, spelling-octets, head-octets, text-octets, eid-octets, IsOctetBlock, canon-octets, octets7-octets}

-- ---- what is spelled by octets

-- what octets spell by a format has this
record Has {C A : Type 0} (f : Format C A) (P : A → Type 0) : Type 0 where
  each : (front w : List ℕ) (a : A) → IsOctets w → Spells f front w a → P a

has-given : {C A : Type 0} (P : A → Type 0) (x : A) → P x → Has {C = C} (give x) P
has-given P x holds = record { each = λ front w a fits s. subst P (sym s.1) holds }

has-then : {C A B : Type 0} (f : Format C A) (g : A → Format C B) (Q : A → Type 0) (P : B → Type 0)
    → Has f Q → ((x : A) → Q x → Has (g x) P) → Has (f >>= g) P
has-then f g Q P first rest = record {
  each = λ front w a fits s.
      let parts = octets-parts w s.0 s.1 s.3 fits in
      (rest s.2 (first.each front s.0 s.2 parts.0 s.4)).each (front ++ s.0) s.1 a parts.1 s.5;
}

has-after : {C A B : Type 0} (f : Format C A) (g : A → Format C B) (P : B → Type 0) → ((x : A) → Has (g x) P) → Has (f >>= g) P
has-after f g P rest = has-then f g (λ _. Unit {0}) P (record { each = λ front w a fits s. tt }) (λ x _. rest x)

has-left : (size : ℕ) → Has (all_left size) IsOctets
unfolding all_left
has-left size = has-after _ _ IsOctets (λ at. record { each = λ front w a fits s. subst IsOctets s.0 fits })

BodyOctets : Block6Like → Type 0
BodyOctets block = IsOctets block.body

-- the body that a wrap holds is octets
has-body : (size : ℕ) → Has (wrap_new size) BodyOctets
unfolding wrap_new BodyOctets
has-body size =
    has-after _ _ BodyOctets (λ front. has-after _ _ BodyOctets (λ kind. has-after _ _ BodyOctets (λ flags. has-after _ _ BodyOctets (λ refs.
    has-then _ _ IsOctets BodyOctets (has-left size) (λ body fits. has-given BodyOctets _ fits)))))

-- ---- a record

abbrev ExtOctets : Ext → Type 0
ExtOctets (Six block) = IsOctets block.body
ExtOctets (Seven block) = IsOctets block.body

abbrev ContentOctets : Content → Type 0
ContentOctets (contents.Bytes octets) = IsOctets octets
ContentOctets (contents.Report report) = Unit {0}

pub record IsOfOctets (full : Full) : Type 0 where
  pub content : ContentOctets full.shared.content
  pub exts : All ExtOctets full.exts

one-ext : (ext : Ext) → ExtOctets ext → All ExtOctets (ext ∷ [])
one-ext ext fits = All-cons ExtOctets ext [] fits (All-nil ExtOctets)

either-exts : (t : Bool) (one other : List Ext) → All ExtOctets one → All ExtOctets other → All ExtOctets (if t then one else other)
either-exts true one other first second = first
either-exts false one other first second = second

-- ---- of version 6

held7-octets : (size : ℕ) (body : List ℕ) (r : Result Block7Like (ℕ × Stop BlockFault)) → read_whole (wrap_old size) Bad body ≡ r
    → IsOctets body → All ExtOctets (held7 r)
held7-octets size body (Ok block) is fits =
    one-ext (Seven block) (wrap_old-octets size body block (whole-found (wrap_old size) Bad body block fits is) fits)
held7-octets size body (Err fault) is fits = All-nil ExtOctets

ext6-octets : (block : Block6) → IsOctets block.body → All ExtOctets (ext6_of block)
ext6-octets block fits =
    either-exts (is_payload block || is_residue block.kind block.body) _ _ (All-nil ExtOctets)
    (either-exts (is_wrap block.kind block.body) _ _
    (held7-octets (length block.body) block.body (read_whole (wrap_old (length block.body)) Bad block.body) refl fits)
    (one-ext (Six (six_of block)) fits))

exts6-octets : (blocks : List Block6) → All (λ block. IsOctets block.body) blocks → All ExtOctets (exts_in6 blocks)
exts6-octets [] are = All-nil ExtOctets
exts6-octets (block ∷ blocks) are =
    All-append ExtOctets (ext6_of block) (exts_in6 blocks)
    (ext6-octets block (All-head (λ x. IsOctets x.body) block blocks are))
    (exts6-octets blocks (All-tail (λ x. IsOctets x.body) block blocks are))

payload-octets : (blocks : List Block6) → All (λ block. IsOctets block.body) blocks → IsOctets (payload_in blocks).body
unfolding payload_in
payload-octets [] are = no-octets
payload-octets (block ∷ blocks) are =
    by (is_payload block) (payload-octets blocks (All-tail (λ x. IsOctets x.body) block blocks are))
  where
    by : (t : Bool) → IsOctets (payload_in blocks).body → IsOctets (if t then block else payload_in blocks).body
    by true rest = All-head (λ x. IsOctets x.body) block blocks are
    by false rest = rest

content6-octets : (carried : Option Report6) (bare : ℕ) (octets : List ℕ) → IsOctets octets → ContentOctets (content6 carried bare octets)
content6-octets (Some report) bare octets fits = tt
content6-octets None bare octets fits = fits

pub full6-octets : (b : Bundle6) → HoldsOctets6 b → IsOfOctets (full6_of b)
full6-octets b hold = record {
  content = content6-octets (carried6 b) (residue6_of b).no_time (payload_in b.blocks).body (payload-octets b.blocks hold);
  exts = exts6-octets b.blocks hold;
}

-- ---- of version 7

held6-octets : (size : ℕ) (body : List ℕ) (r : Result Block6Like (ℕ × Stop BlockFault)) → read_whole (wrap_new size) Bad body ≡ r
    → IsOctets body → All ExtOctets (held6 r)
unfolding BodyOctets
held6-octets size body (Ok block) is fits =
    one-ext (Six block) ((has-body size).each [] body block fits (whole-found (wrap_new size) Bad body block fits is))
held6-octets size body (Err fault) is fits = All-nil ExtOctets

ext7-octets : (block : Block7) → IsOctets block.body → All ExtOctets (ext7_of block)
ext7-octets block fits =
    either-exts (is_residue block.kind block.body) _ _ (All-nil ExtOctets)
    (either-exts (is_wrap block.kind block.body) _ _
    (held6-octets (length block.body) block.body (read_whole (wrap_new (length block.body)) Bad block.body) refl fits)
    (one-ext (Seven (record { kind = block.kind; number = block.number; flags = block.flags; crc = block.crc; body = block.body })) fits))

exts7-octets : (blocks : List Block7) → All (λ block. IsOctets block.body) blocks → All ExtOctets (exts_in7 blocks)
exts7-octets [] are = All-nil ExtOctets
exts7-octets (block ∷ blocks) are =
    All-append ExtOctets (ext7_of block) (exts_in7 blocks)
    (ext7-octets block (All-head (λ x. IsOctets x.body) block blocks are))
    (exts7-octets blocks (All-tail (λ x. IsOctets x.body) block blocks are))

content7-octets : (carried : Option Report7) (rests octets : List ℕ) → IsOctets octets → ContentOctets (content7 carried rests octets)
content7-octets (Some report) rests octets fits = tt
content7-octets None rests octets fits = fits

pub full7-octets : (b : Bundle7) → HoldsOctets7 b → IsOfOctets (full7_of b)
full7-octets b hold = record {
  content = content7-octets (carried7 b) (residue7_of b).rests b.payload.body hold.payload;
  exts = exts7-octets b.exts hold.exts;
}

-- ---- private bodies

numbers-octets : (numbers : List ℕ) → IsOctets (flat_map spelling numbers)
numbers-octets [] = no-octets
numbers-octets (n ∷ numbers) = joined-octets (spelling n) (flat_map spelling numbers) (spelling-octets n) (numbers-octets numbers)

named-octets : (e : Endpoint) → IsEndpoint e → IsOctets (name_octets e)
named-octets e legal =
    joined-octets (spelling (length (text_of e))) (text_of e) (spelling-octets (length (text_of e))) (text-octets e legal)

names-octets : (refs : List Endpoint) → All IsEndpoint refs → IsOctets (flat_map name_octets refs)
names-octets [] legal = no-octets
names-octets (e ∷ refs) legal =
    joined-octets (name_octets e) (flat_map name_octets refs) (named-octets e (All-head IsEndpoint e refs legal))
    (names-octets refs (All-tail IsEndpoint e refs legal))

-- one number, and what follows it
number-then : (n : ℕ) (w : List ℕ) → IsOctets w → IsOctets (spelling n ++ w)
number-then n w fits = joined-octets (spelling n) w (spelling-octets n) fits

marked-octets : (w : List ℕ) → IsOctets w → IsOctets (mark ++ w)
marked-octets w fits = joined-octets mark w (tested-octets mark refl) fits

residue_old-octets : (r : ResidueOld) → IsOctets (residue_old_octets r)
unfolding residue_old_octets
residue_old-octets r =
    marked-octets _ (number-then r.slack _ (number-then r.extra7.flags _ (number-then r.extra7.crc _ (number-then r.extra7.payload_crc _
    (number-then r.extra7.payload_flags _ (spelling-octets r.no_time))))))

residue_new-octets : (r : ResidueNew) → IsEndpoint r.extra6.custodian → IsOctets (residue_new_octets r)
unfolding residue_new_octets
residue_new-octets r legal =
    marked-octets _ (number-then r.extra6.flags _ (joined-octets (name_octets r.extra6.custodian) _ (named-octets r.extra6.custodian legal)
    (number-then r.extra6.payload_flags _ (number-then r.extra6.after _ (numbers-octets r.rests)))))

wrapped7-octets : (block : Block7Like) → IsOctets block.body → IsOctets (wrap_old_octets block)
unfolding wrap_old_octets
wrapped7-octets block fits =
    marked-octets _ (number-then block.kind _ (number-then block.number _ (number-then block.flags _ (number-then block.crc block.body fits))))

wrapped6-octets : (block : Block6Like) → All IsEndpoint block.refs → IsOctets block.body → IsOctets (wrap_new_octets block)
unfolding wrap_new_octets
wrapped6-octets block legal fits =
    marked-octets _ (number-then block.kind _ (number-then block.flags _
    (joined-octets (spelling (length block.refs) ++ flat_map name_octets block.refs) block.body
    (number-then (length block.refs) _ (names-octets block.refs legal)) fits)))

-- ---- reports

bit-le : (stamp : Stamp) (bit : ℕ) → bit_of stamp bit ≤ bit
bit-le No bit = omega arith
bit-le Yes bit = omega arith
bit-le (At millis) bit = omega arith

status-octet : (stamps : List Stamp) → statuses_of stamps < 256
unfolding statuses_of
status-octet stamps =
    let a = bit-le (get_or stamps 0 No) 1 in
    let b = bit-le (get_or stamps 1 No) 4 in
    let c = bit-le (get_or stamps 2 No) 8 in
    let d = bit-le (get_or stamps 3 No) 16 in
    omega (arith, a, b, c, d)

time-octets : (set : Bool) (time : Time6) → IsOctets (time_octets set time)
time-octets true time = number-then time.seconds _ (spelling-octets time.nanos)
time-octets false time = no-octets

times-octets : (statuses : ℕ) (times : List Time6) → IsOctets (times_octets statuses times)
unfolding times_octets
times-octets statuses times =
    joined-octets (time_octets (is_set 1 statuses) _) _ (time-octets (is_set 1 statuses) _)
    (joined-octets (time_octets (is_set 4 statuses) _) _ (time-octets (is_set 4 statuses) _)
    (joined-octets (time_octets (is_set 8 statuses) _) _ (time-octets (is_set 8 statuses) _) (time-octets (is_set 16 statuses) _)))

lead-octet : (part : Option Part) → lead_octet part < 256
lead-octet None = omega arith
lead-octet (Some part) = omega arith

part6-octets : (part : Option Part) → IsOctets (part6_octets part)
part6-octets None = no-octets
part6-octets (Some part) = number-then part.offset _ (spelling-octets part.length)

report6-octets : (report : Report6) → report.status < 256 → report.reason < 256 → IsEndpoint report.source → IsOctets (report6_octets report)
unfolding report6_octets
report6-octets report status reason legal =
    let name = spelling report.seconds ++ (spelling report.sequence ++ name_octets report.source) in
    let rest = part6_octets report.fragment ++ (times_octets report.status report.times ++ name) in
    more-octets (lead_octet report.fragment) (report.status ∷ report.reason ∷ rest) (lead-octet report.fragment)
    (more-octets report.status (report.reason ∷ rest) status (more-octets report.reason rest reason
    (joined-octets (part6_octets report.fragment) (times_octets report.status report.times ++ name) (part6-octets report.fragment)
    (joined-octets (times_octets report.status report.times) name (times-octets report.status report.times)
    (number-then report.seconds _ (number-then report.sequence _ (named-octets report.source legal)))))))

-- a head, and what follows it
head-then : (kind n : ℕ) (w : List ℕ) → kind < 8 → IsOctets w → IsOctets (head kind n ++ w)
head-then kind n w small fits = joined-octets (head kind n) w (head-octets kind n small) fits

stamp-octets : (stamp : Stamp) → IsOctets (stamp_octets stamp)
stamp-octets No = head-then 4 1 (no_octet ∷ []) (omega arith) (one-octet no_octet (omega arith))
stamp-octets Yes = head-then 4 1 (yes_octet ∷ []) (omega arith) (one-octet yes_octet (omega arith))
stamp-octets (At millis) =
    head-then 4 2 (yes_octet ∷ head 0 millis) (omega arith) (more-octets yes_octet (head 0 millis) (omega arith) (head-octets 0 millis (omega arith)))

stamps-octets : (stamps : List Stamp) → IsOctets (stamps_octets stamps)
unfolding stamps_octets
stamps-octets stamps =
    head-then 4 4 _ (omega arith)
    (joined-octets (stamp_octets (get_or stamps 0 No)) _ (stamp-octets (get_or stamps 0 No))
    (joined-octets (stamp_octets (get_or stamps 1 No)) _ (stamp-octets (get_or stamps 1 No))
    (joined-octets (stamp_octets (get_or stamps 2 No)) _ (stamp-octets (get_or stamps 2 No)) (stamp-octets (get_or stamps 3 No)))))

part7-octets : (part : Option Part) → IsOctets (part7_octets part)
part7-octets None = no-octets
part7-octets (Some part) = head-then 0 part.offset _ (omega arith) (head-octets 0 part.length (omega arith))

report7-octets : (report : Report7) → IsEndpoint report.source → IsOctets (report7_octets report)
unfolding report7_octets
report7-octets report legal =
    let subject = head 4 2 ++ (head 0 report.millis ++ (head 0 report.sequence ++ part7_octets report.fragment)) in
    let stamped = stamps_octets report.stamps ++ (head 0 report.reason ++ (eid_octets report.source ++ subject)) in
    head-then 4 2 (head 0 1 ++ (head 4 (items_of report.fragment) ++ stamped)) (omega arith)
    (head-then 0 1 (head 4 (items_of report.fragment) ++ stamped) (omega arith)
    (head-then 4 (items_of report.fragment) stamped (omega arith)
    (joined-octets (stamps_octets report.stamps) (head 0 report.reason ++ (eid_octets report.source ++ subject)) (stamps-octets report.stamps)
    (head-then 0 report.reason (eid_octets report.source ++ subject) (omega arith)
    (joined-octets (eid_octets report.source) subject (eid-octets report.source legal)
    (head-then 4 2 (head 0 report.millis ++ (head 0 report.sequence ++ part7_octets report.fragment)) (omega arith)
    (head-then 0 report.millis (head 0 report.sequence ++ part7_octets report.fragment) (omega arith)
    (head-then 0 report.sequence (part7_octets report.fragment) (omega arith) (part7-octets report.fragment)))))))))

-- ---- the view of version 6

written6-octets : (content : Content) → IsContent content → ContentOctets content → IsOctets (octets6_of content)
written6-octets (contents.Bytes octets) is fits = fits
written6-octets (contents.Report report) is fits =
    report6-octets (report6_of report) (status-octet report.stamps) is.reason is.source

block6-octets : (ext : Ext) → IsExt ext → ExtOctets ext → IsOctetBlock (block6_of ext)
block6-octets (Six block) is fits = record { kind = is.kind; refs = is.refs; body = fits }
block6-octets (Seven block) is fits = record {
  kind = omega arith;
  refs = All-nil IsEndpoint;
  body = wrapped7-octets block fits;
}

blocks6-octets : (exts : List Ext) → All IsExt exts → All ExtOctets exts → All IsOctetBlock (map block6_of exts)
blocks6-octets [] are fits = All-nil IsOctetBlock
blocks6-octets (ext ∷ exts) are fits =
    All-cons IsOctetBlock (block6_of ext) (map block6_of exts)
    (block6-octets ext (All-head IsExt ext exts are) (All-head ExtOctets ext exts fits))
    (blocks6-octets exts (All-tail IsExt ext exts are) (All-tail ExtOctets ext exts fits))

residue6-octets : (full : Full) → All IsOctetBlock (residue6 full)
residue6-octets full = by (needs_residue6 full)
  where
    block : Block6
    block = record { kind = residue_kind; flags = 1; refs = []; body = residue_old_octets (residue_old_of full) }

    by : (t : Bool) → All IsOctetBlock (if t then block ∷ [] else [])
    by true =
        All-cons IsOctetBlock block [] (record {
          kind = omega arith;
          refs = All-nil IsEndpoint;
          body = residue_old-octets (residue_old_of full);
        }) (All-nil IsOctetBlock)
    by false = All-nil IsOctetBlock

all6-octets : (full : Full) → IsSound full → IsOfOctets full → All IsOctetBlock (blocks6_of full)
all6-octets full sound fits =
    let n = before_payload full in
    let exts = full.exts in
    let are = sound.valid.exts in
    All-append IsOctetBlock (residue6 full) _ (residue6-octets full)
    (All-append IsOctetBlock (map block6_of (take n exts)) _
    (blocks6-octets (take n exts) (All-take IsExt n exts are) (All-take ExtOctets n exts fits.exts))
    (All-cons IsOctetBlock (payload6_of full) (map block6_of (drop n exts))
    (record {
      kind = omega arith;
      refs = All-nil IsEndpoint;
      body = written6-octets full.shared.content sound.valid.shared.content fits.content;
    })
    (blocks6-octets (drop n exts) (All-drop IsExt n exts are) (All-drop ExtOctets n exts fits.exts))))

pub view6-octets : (full : Full) → IsSound full → IsOfOctets full → IsOctets (canon6 (view6_of full))
view6-octets full sound fits =
    let shared = sound.valid.shared in
    canon-octets (view6_of full)
    (record {
      destination = shared.destination;
      source = shared.source;
      report_to = shared.report_to;
      custodian = sound.valid.extra6.custodian;
    })
    (all6-octets full sound fits)

-- ---- the view of version 7

written7-octets : (content : Content) → IsContent content → ContentOctets content → IsOctets (octets7_of content)
written7-octets (contents.Bytes octets) is fits = fits
written7-octets (contents.Report report) is fits = report7-octets (report7_of report) is.source

Holds7 : List Block7 → Type 0
Holds7 blocks = All (λ block. IsOctets block.body) blocks

block7-octets : (all : List Ext) (next : ℕ) (ext : Ext) → IsExt ext → ExtOctets ext → IsOctets (block7_at all next ext).body
block7-octets all next (Six block) is fits = wrapped6-octets block is.refs fits
block7-octets all next (Seven block) is fits = fits

blocks7-octets : (all : List Ext) (next : ℕ) (exts : List Ext) → All IsExt exts → All ExtOctets exts → Holds7 (blocks7_of all next exts)
unfolding blocks7_of Holds7
blocks7-octets all next [] are fits = All-nil (λ (block : Block7). IsOctets block.body)
blocks7-octets all next (ext ∷ exts) are fits =
    All-cons (λ (block : Block7). IsOctets block.body) (block7_at all next ext) (blocks7_of all (number_after7 all next ext) exts)
    (block7-octets all next ext (All-head IsExt ext exts are) (All-head ExtOctets ext exts fits))
    (blocks7-octets all (number_after7 all next ext) exts (All-tail IsExt ext exts are) (All-tail ExtOctets ext exts fits))

exts7_of-octets : (full : Full) → IsSound full → IsOfOctets full → Holds7 (exts7_of full)
unfolding Holds7
exts7_of-octets full sound fits = by (needs_residue7 full)
  where
    first : Block7
    first = residue7_at (next_free7 full.exts 2) full

    by : (t : Bool) → Holds7 (if t then first ∷ blocks7_of full.exts (next_free7 full.exts 2 + 1) full.exts else blocks7_of full.exts 2 full.exts)
    by true =
        All-cons (λ (block : Block7). IsOctets block.body) first (blocks7_of full.exts (next_free7 full.exts 2 + 1) full.exts)
        (residue_new-octets (residue_new_of full) sound.valid.extra6.custodian)
        (blocks7-octets full.exts (next_free7 full.exts 2 + 1) full.exts sound.valid.exts fits.exts)
    by false = blocks7-octets full.exts 2 full.exts sound.valid.exts fits.exts

pub view7-octets : (full : Full) → IsSound full → IsOfOctets full → IsOctets (octets7 (view7_of full))
unfolding Holds7
view7-octets full sound fits =
    let shared = sound.valid.shared in
    octets7-octets (view7_of full)
    (record { destination = shared.destination; source = shared.source; report_to = shared.report_to })
    (record {
      exts = exts7_of-octets full sound fits;
      payload = written7-octets full.shared.content sound.valid.shared.content fits.content;
    })
