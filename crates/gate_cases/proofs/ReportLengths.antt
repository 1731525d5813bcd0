-- The bundle of a report is short.
use Rattle.std.proofs.Common.{◌≡◌, ℕ, ◌+◌, ◌/◌, ◌<◌, ◌≤◌, Bool, true, false, ◌&&◌, if◌then◌else◌, List, [], ◌∷◌, ◌++◌, length, length-append, codes, Option, Some, None, get_or, Result, Ok, Err, IfOk, refl, sym, ap, subst, arith}
use Rattle.std.specs.Fmt.{decimal}
use Rattle.std.specs.List.{flat_map, list_all}
use Rattle.std.proofs.lemmas.Bool.{leb-true}
use Rattle.std.proofs.lemmas.Grind.{flat_map-append}
use Rattle.std.proofs.lemmas.Fmt.{length-decimal-le}
use Rattle.sdnv.specs.Shortest.{spelling}
use Rattle.sdnv.proofs.ShortestLemmas.{length-leading, length-spelling}
use Rattle.cbor_lite.specs.Head.{head}
use Rattle.endpoint.specs.declared.name.Endpoint.{Endpoint}
use Rattle.endpoint.specs.declared.name.Endpoint.TheVariants.{Null, Ipn, Dtn}
use Rattle.endpoint.specs.Endpoints.{IsEndpoint, is_ssp, scheme_of, ssp_of, text_of}
use Rattle.bundle6.specs.declared.bundle.Bundle6.{Bundle6}
use Rattle.bundle6.specs.declared.primary.Primary6.{Primary6}
use Rattle.bundle6.specs.Spelling as six
use Rattle.bundle7.specs.declared.bundle.Bundle7.{Bundle7}
use Rattle.bundle7.specs.Check.{check16}
use Rattle.bundle7.specs.Spelling as seven
use Rattle.bundle_meaning.specs.declared.creation.Id6.{Id6}
use Rattle.bundle_meaning.specs.declared.creation.Id7.{Id7}
use Rattle.bundle_meaning.specs.declared.report.Part.{Part}
use Rattle.bundle_meaning.specs.declared.report.Stamp.{Stamp}
use Rattle.bundle_meaning.specs.declared.report.Stamp.TheVariants.{No, Yes, At}
use Rattle.status_reports.specs.declared.report6.Report6.{Report6}
use Rattle.status_reports.specs.declared.report6.Time6.{Time6}
use Rattle.status_reports.specs.declared.report7.Report7.{Report7}
use Rattle.status_reports.specs.Fields.{is_set}
use Rattle.status_reports.specs.Spelling as reports
use Rattle.status_reports.specs.Table6.{zero_time}
use Rattle.gate_cases.specs.declared.case.TheConstants.{BLOCK_MAX}
use Rattle.gate_cases.specs.declared.report.AskedReport.{AskedReport}
use Rattle.gate_cases.specs.Bundles.{report6_of, bundle6_of, report7_of, bundle7_with, bundle7_of}
use Rattle.gate_cases.specs.Promises.{IsAskable, IsBlock}
use Rattle.gate_cases.proofs.LengthLemmas.{length-head}

-- ---- parts

record AtMost (most : ℕ) (octets : List ℕ) : Type 0 where
  within : length octets ≤ most

both : {xs ys : List ℕ} {a b : ℕ} → AtMost a xs → AtMost b ys → AtMost (a + b) (xs ++ ys)
both {xs} {ys} x y = record { within = omega (arith, length-append xs ys, x.within, y.within) }

after : {xs : List ℕ} {a : ℕ} (x : ℕ) → AtMost a xs → AtMost (a + 1) (x ∷ xs)
after x more = record { within = omega (arith, more.within) }

none : AtMost 0 []
none = record { within = omega arith }

fewer : {xs : List ℕ} {a : ℕ} (b : ℕ) → a ≤ b → AtMost a xs → AtMost b xs
fewer b less few = record { within = omega (arith, less, few.within) }

carried : {xs : List ℕ} → AtMost 6000 xs → length xs ≤ BLOCK_MAX
carried few = omega (arith, few.within)

number : (n : ℕ) → AtMost 10 (spelling n)
number n = record { within = omega (arith, length-spelling n, length-leading 9 (n / 128)) }

one-head : (kind n : ℕ) → AtMost 9 (head kind n)
one-head kind n = record { within = length-head kind n }

ssp-short : (endpoint : Endpoint) → IsEndpoint endpoint → length (ssp_of endpoint) ≤ 1023
unfolding is_ssp
ssp-short Null legal = omega arith
ssp-short (Ipn node service) legal =
    omega (
      arith,
      length-append (decimal node) (codes "." ++ decimal service),
      length-decimal-le 20 node (omega arith) (omega arith) legal.0,
      length-decimal-le 20 service (omega arith) (omega arith) legal.1,
    )
ssp-short (Dtn ssp) legal = leb-true (length ssp) 1023 (second _ _ _ _ legal)
  where
    second : (a b d e : Bool) → (a && b && d && e) ≡ true → b ≡ true
    second true true d e is = refl
    second true false d e is = absurd (cc)
    second false b d e is = absurd (cc)

scheme-short : (endpoint : Endpoint) → length (scheme_of endpoint) ≤ 3
scheme-short Null = omega arith
scheme-short (Ipn node service) = omega arith
scheme-short (Dtn ssp) = omega arith

text-short : (endpoint : Endpoint) → IsEndpoint endpoint → AtMost 1027 (text_of endpoint)
text-short endpoint legal = record {
  within = omega (arith, length-append (scheme_of endpoint) (codes ":" ++ ssp_of endpoint), scheme-short endpoint, ssp-short endpoint legal);
}

-- ---- version 6

text-added : (texts : List (List ℕ)) (text : List ℕ)
    → length (six.dictionary_of (six.with_text texts text)) ≤ length (six.dictionary_of texts) + length text + 1
unfolding six.dictionary_of
text-added texts text = by (six.has_text texts text)
  where
    by : (t : Bool) → length (flat_map (λ text. text ++ 0 ∷ []) (if t then texts else texts ++ text ∷ []))
        ≤ length (flat_map (λ text. text ++ 0 ∷ []) texts) + length text + 1
    by true = omega arith
    by false =
        omega (
          arith,
          ap length (flat_map-append (λ text. text ++ 0 ∷ []) texts (text ∷ [])),
          length-append (flat_map (λ text. text ++ 0 ∷ []) texts) ((text ++ 0 ∷ []) ++ []),
          length-append (text ++ 0 ∷ []) [],
          length-append text (0 ∷ []),
        )

name-added : (texts : List (List ℕ)) (endpoint : Endpoint) → IsEndpoint endpoint
    → length (six.dictionary_of (six.with_name texts endpoint)) ≤ length (six.dictionary_of texts) + 1028
name-added texts endpoint legal =
    omega (
      arith,
      text-added texts (scheme_of endpoint),
      text-added (six.with_text texts (scheme_of endpoint)) (ssp_of endpoint),
      scheme-short endpoint,
      ssp-short endpoint legal,
    )

names-added : (texts : List (List ℕ)) (one two : Endpoint) → IsEndpoint one → IsEndpoint two
    → length (six.dictionary_of (six.with_names texts (one ∷ two ∷ Null ∷ Null ∷ []))) ≤ length (six.dictionary_of texts) + 4112
unfolding six.with_names
names-added texts one two legal1 legal2 =
    let a = six.with_name texts one in
    let b = six.with_name a two in
    let c = six.with_name b Null in
    omega (arith, name-added texts one legal1, name-added a two legal2, name-added b Null tt, name-added c Null tt)

abbrev four : Endpoint → Endpoint → List Endpoint
four one two = one ∷ two ∷ Null ∷ Null ∷ []

texts-short : (one two : Endpoint) → IsEndpoint one → IsEndpoint two
    → AtMost 4112 (six.dictionary_of (if list_all six.is_numbered (four one two) then [] else six.with_names [] (four one two)))
unfolding six.dictionary_of
texts-short one two legal1 legal2 = by (list_all six.is_numbered (four one two))
  where
    by : (t : Bool) → AtMost 4112 (six.dictionary_of (if t then [] else six.with_names [] (four one two)))
    by true = record { within = omega arith }
    by false = record { within = omega (arith, names-added [] one two legal1 legal2) }

name-short : (texts : List (List ℕ)) (endpoint : Endpoint) → AtMost 20 (six.name_octets texts endpoint)
name-short texts endpoint = both (number (six.offsets_of texts endpoint).scheme) (number (six.offsets_of texts endpoint).ssp)

rest-short : (texts : List (List ℕ)) (primary : Primary6) → primary.fragment ≡ None → AtMost 4112 (six.dictionary_of texts)
    → AtMost 4232 (six.rest_octets texts primary)
unfolding six.rest_octets
rest-short texts p whole short =
    let names = both (name-short texts p.destination) (both (name-short texts p.source)
    (both (name-short texts p.report_to) (name-short texts p.custodian))) in
    let part : AtMost 0 (six.part_octets p.fragment) = subst (λ f. AtMost 0 (six.part_octets f)) (sym whole) none in
    both names (both (number p.seconds) (both (number p.sequence) (both (number p.lifetime)
    (both (both (number (length (six.dictionary_of texts))) short) part))))

main-short : (texts : List (List ℕ)) (primary : Primary6) → primary.fragment ≡ None → AtMost 4112 (six.dictionary_of texts)
    → AtMost 4253 (six.primary_octets texts primary)
unfolding six.primary_octets
main-short texts p whole short =
    after 6 (both (number p.flags) (both (number (length (six.rest_octets texts p))) (rest-short texts p whole short)))

part-short : (part : Option Part) → AtMost 20 (reports.part6_octets part)
part-short None = fewer 20 (omega arith) none
part-short (Some part) = both (number part.offset) (number part.length)

time-short : (set : Bool) (time : Time6) → AtMost 20 (reports.time_octets set time)
time-short true time = both (number time.seconds) (number time.nanos)
time-short false time = fewer 20 (omega arith) none

times-short : (statuses : ℕ) (times : List Time6) → AtMost 80 (reports.times_octets statuses times)
unfolding reports.times_octets
times-short statuses times =
    both (time-short (is_set 1 statuses) (get_or times 0 zero_time)) (both (time-short (is_set 4 statuses) (get_or times 1 zero_time))
    (both (time-short (is_set 8 statuses) (get_or times 2 zero_time)) (time-short (is_set 16 statuses) (get_or times 3 zero_time))))

report6-short : (report : Report6) → IsEndpoint report.source → AtMost 1160 (reports.report6_octets report)
unfolding reports.report6_octets
report6-short report legal =
    let name = both (number (length (text_of report.source))) (text-short report.source legal) in
    after (reports.lead_octet report.fragment) (after report.status (after report.reason
    (both (part-short report.fragment) (both (times-short report.status report.times)
    (both (number report.seconds) (both (number report.sequence) name))))))

block-short : (texts : List (List ℕ)) (body : List ℕ) → AtMost 1160 body
    → AtMost 1181 (six.blocks_octets texts (record { kind = 1; flags = 0; refs = []; body = body } ∷ []))
unfolding six.blocks_octets six.block_octets
block-short texts body short =
    both (after 1 (both (number (six.marked true (record { kind = 1; flags = 0; refs = []; body = body })))
    (both none (both (number (length body)) short)))) none

canon-some : (b : Bundle6) → 0 < length (six.canon6 b)
unfolding six.canon6 six.primary_octets
canon-some b = omega arith

pub report6-block : (gate : Endpoint) (counter now : ℕ) (asked : AskedReport) (subject : Id6) → IsAskable asked → IsEndpoint gate
    → IsBlock (six.canon6 (bundle6_of gate counter now asked subject))
unfolding six.canon6 six.texts_of
report6-block gate counter now asked subject askable legal =
    let b = bundle6_of gate counter now asked subject in
    let dictionary : AtMost 4112 (six.dictionary_of (six.texts_of b)) = texts-short asked.report_to gate askable.report_to legal in
    let body = report6-short (report6_of asked subject now) askable.source in
    let all = both (main-short (six.texts_of b) b.primary refl dictionary) (block-short (six.texts_of b) _ body) in
    record { some = canon-some b; small = carried (fewer 6000 (omega arith) all) }

-- ---- version 7

eid-short : (endpoint : Endpoint) → IsEndpoint endpoint → AtMost 1050 (seven.eid_octets endpoint)
eid-short Null legal = fewer 1050 (omega arith) (both (one-head 4 2) (both (one-head 0 1) (one-head 0 0)))
eid-short (Ipn node service) legal =
    fewer 1050 (omega arith) (both (one-head 4 2) (both (one-head 0 2) (both (one-head 4 2) (both (one-head 0 node) (one-head 0 service)))))
eid-short (Dtn ssp) legal =
    let body : AtMost 1023 ssp = record { within = ssp-short (Dtn ssp) legal } in
    both (one-head 4 2) (both (one-head 0 1) (both (one-head 3 (length ssp)) body))

stamp-short : (stamp : Stamp) → AtMost 19 (reports.stamp_octets stamp)
stamp-short No = fewer 19 (omega arith) (both (one-head 4 1) (after 0xF4 none))
stamp-short Yes = fewer 19 (omega arith) (both (one-head 4 1) (after 0xF5 none))
stamp-short (At millis) = both (one-head 4 2) (after 0xF5 (one-head 0 millis))

stamps-short : (stamps : List Stamp) → AtMost 85 (reports.stamps_octets stamps)
unfolding reports.stamps_octets
stamps-short stamps =
    both (one-head 4 4) (both (stamp-short (get_or stamps 0 No)) (both (stamp-short (get_or stamps 1 No))
    (both (stamp-short (get_or stamps 2 No)) (stamp-short (get_or stamps 3 No)))))

part7-short : (part : Option Part) → AtMost 18 (reports.part7_octets part)
part7-short None = fewer 18 (omega arith) none
part7-short (Some part) = both (one-head 0 part.offset) (one-head 0 part.length)

report7-short : (report : Report7) → IsEndpoint report.source → AtMost 1216 (reports.report7_octets report)
unfolding reports.report7_octets
report7-short report legal =
    let name = both (one-head 4 2) (both (one-head 0 report.millis) (both (one-head 0 report.sequence) (part7-short report.fragment))) in
    let rest = both (stamps-short report.stamps) (both (one-head 0 report.reason) (both (eid-short report.source legal) name)) in
    both (one-head 4 2) (both (one-head 0 1) (both (one-head 4 (reports.items_of report.fragment)) rest))

check-short : (block : List ℕ) → AtMost 11 (seven.crc_octets 1 block)
unfolding seven.crc_octets
check-short block =
    let two : AtMost 2 (check16 (block ++ head 2 2)) = record { within = omega arith } in
    both (one-head 2 2) two

primary-short : (gate : Endpoint) (counter now : ℕ) (asked : AskedReport) (body : List ℕ) → IsAskable asked → IsEndpoint gate
    → AtMost 3233 (seven.primary_octets (bundle7_with gate counter now asked body).primary)
unfolding seven.with_check seven.main_octets
primary-short gate counter now asked body askable legal =
    let opening = both (one-head 4 9) (both (one-head 0 7) (both (one-head 0 2) (one-head 0 1))) in
    let names = both (eid-short asked.report_to askable.report_to) (both (eid-short gate legal) (eid-short Null tt)) in
    let creation = both (one-head 4 2) (both (one-head 0 now) (one-head 0 counter)) in
    both (both opening (both names (both creation (both (one-head 0 86400000) none)))) (check-short _)

payload-short : (body : List ℕ) → AtMost 1216 body
    → AtMost 1270 (seven.block_octets (record { kind = 1; number = 1; flags = 0; crc = 0; body = body }))
unfolding seven.with_check seven.bare_octets seven.crc_octets
payload-short body short =
    both (both (one-head 4 5) (both (one-head 0 1) (both (one-head 0 1) (both (one-head 0 0) (both (one-head 0 0)
    (both (one-head 2 (length body)) short)))))) none

octets-some : (b : Bundle7) → 0 < length (seven.octets7 b)
unfolding seven.octets7
octets-some b = omega arith

pub report7-block : (gate : Endpoint) (counter now : ℕ) (asked : AskedReport) (subject : Id7) → IsAskable asked → IsEndpoint gate
    → IsBlock (seven.octets7 (bundle7_of gate counter now asked subject))
unfolding seven.octets7 seven.blocks_octets
report7-block gate counter now asked subject askable legal =
    let b = bundle7_of gate counter now asked subject in
    let body = report7-short (report7_of asked subject now) askable.source in
    let all = after 0x9F (both (primary-short gate counter now asked b.payload.body askable legal)
    (both none (both (payload-short b.payload.body body) (after 0xFF none)))) in
    record { some = octets-some b; small = carried (fewer 6000 (omega arith) all) }

-- ---- what code spelled

pub is-block : {E : Type 0} (octets : List ℕ) (result : Result (List ℕ) E) → IsBlock octets → IfOk result (λ o. o ≡ octets) → IfOk result IsBlock
is-block octets (Ok o) block is = subst IsBlock (sym is) block
is-block octets (Err e) block is = tt
