-- The primary block: what is spelled is legal, and has one spelling; what is legal is spelled.
use Rattle.std.proofs.Common.{◌≡◌, ℕ, ◌+◌, ◌^◌, ◌<◌, ◌≤◌, ◌==◌, nat_lt, nat_le, Bool, true, false, ◌&&◌, if◌then◌else◌, List, [], ◌++◌, length, drop, Option, Some, None, is_some, refl, sym, ap, ◌∙◌, append_assoc, arith}
use Rattle.std.proofs.lemmas.Bool.{le-leb, eqb-true, eq-eqb, ltb-true, lt-ltb, false≢true}
use Rattle.std.proofs.lemmas.List.{append-nil}
use Rattle.std.proofs.Math.Seq.{drop-append_seam}
use Rattle.std.specs.Str.{bytes_eq}
use Rattle.std.proofs.lemmas.Slice.Eq.{bytes_eq-Decides}
use Rattle.cbor_lite.specs.Head.{head}
use Rattle.endpoint.specs.declared.extent.Fragment.{Fragment}
use Rattle.endpoint.specs.Endpoints.{IsEndpoint}
use Rattle.wire_fields.specs.Format.{Spells, give}
use Rattle.wire_fields.specs.Words.{needs, ◌also◌, choice, optional}
use Rattle.bundle7.specs.declared.fault.Cause7.{Cause7}
use Rattle.bundle7.specs.declared.fault.Cause7.TheVariants as causes
use Rattle.bundle7.specs.declared.primary.Opening.{Opening}
use Rattle.bundle7.specs.Table.{Names}
use Rattle.bundle7.specs.declared.primary.Creation.{Creation}
use Rattle.bundle7.specs.declared.primary.Primary7.{Primary7}
use Rattle.bundle7.specs.Check.{check16, check32, check_field, crc_field}
use Rattle.bundle7.specs.Table.{is_fragment, fragment_items, check_items, opening, names, creation, fragment, primary}
use Rattle.bundle7.specs.Spelling.{eid_octets, check_octets, crc_octets, with_check, part_octets, opening_octets, names_octets, creation_octets, main_octets, primary_octets}
use Rattle.bundle7.specs.Legal.{IsPart, IsLegalPrimary}
use Rattle.bundle7.proofs.SpellingLaws.{needs-true, also-first, also-second, joined, ended, exact-head, eid-spelled, eid-spells, head-spells}

bytes_eq-true : (xs ys : List ℕ) → bytes_eq xs ys ≡ true → xs ≡ ys
bytes_eq-true xs ys is = (bytes_eq-Decides xs ys).0 is

pub needs-none : (b : Bool) (c : Cause7) → b ≡ true → needs b c ≡ None
needs-none b c is = rw is refl

-- ---- the check after a block

-- since the start of a block: its octets, and the head of its check
since-start : (before text u block front : List ℕ) (start : ℕ) → start ≡ length before → front ≡ before ++ text
    → block ≡ drop start (front ++ u) → block ≡ text ++ u
since-start before text u block front start begins parts is =
    is ∙ (ap (λ (k : ℕ). drop k (front ++ u)) begins
    ∙ (ap (λ (t : List ℕ). drop (length before) (t ++ u)) parts
    ∙ (ap (drop (length before)) (append_assoc before text u) ∙ drop-append_seam before (text ++ u))))

check-spelled : (n start : ℕ) (check : List ℕ → List ℕ) (front before text w : List ℕ) (c : Unit {0}) → start ≡ length before → front ≡ before ++ text
    → Spells (check_field n check start) front w c → w ≡ check_octets n check text
check-spelled n start check front before text w c begins parts
    (u, v, size, parts_u, (heads, long), (u1, v1, block, parts1, (none, block_is), (u2, v2, octets, parts2, ((same, _), equal), (nothing, is)))) =
    let first : u ≡ head 2 n = exact-head 2 n u size causes.Crc heads long in
    let here : block ≡ text ++ head 2 n = since-start before text u block front start begins parts block_is ∙ ap (λ (t : List ℕ). text ++ t) first in
    let summed : octets ≡ check block = bytes_eq-true octets (check block) (needs-true (bytes_eq octets (check block)) causes.Crc equal) in
    joined w u (head 2 n) v (check (text ++ head 2 n)) parts_u first
    (parts1 ∙ (ap (λ (t : List ℕ). t ++ v1) none ∙ ended v1 u2 (check (text ++ head 2 n)) v2 parts2 (same ∙ (summed ∙ ap check here)) nothing))

-- the same by the two tests of a check's type
by-type-spelled : (none one : Bool) (start : ℕ) (front before text w : List ℕ) (c : Unit {0}) → start ≡ length before → front ≡ before ++ text
    → Spells (choice none (give tt) (choice one (check_field 2 check16 start) (check_field 4 check32 start))) front w c
    → w ≡ (if none then [] else if one then check_octets 2 check16 text else check_octets 4 check32 text)
by-type-spelled true one start front before text w c begins parts (nothing, is) = nothing
by-type-spelled false true start front before text w c begins parts spells = check-spelled 2 start check16 front before text w c begins parts spells
by-type-spelled false false start front before text w c begins parts spells = check-spelled 4 start check32 front before text w c begins parts spells

pub crc-spelled : (crc start : ℕ) (front before text w : List ℕ) (c : Unit {0}) → start ≡ length before → front ≡ before ++ text
    → Spells (crc_field crc start) front w c → w ≡ crc_octets crc text
unfolding crc_field crc_octets
crc-spelled crc start front before text w c begins parts spells = by-type-spelled (crc == 0) (crc == 1) start front before text w c begins parts spells

-- ---- groups

pub record OpeningIs (w : List ℕ) (o : Opening) : Type 0 where
  pub flags : o.flags < 2 ^ 64
  pub crc : o.crc < 3
  pub octets : w ≡ opening_octets o.flags o.crc

pub opening-spelled : (front w : List ℕ) (o : Opening) → Spells opening front w o → OpeningIs w o
unfolding opening
opening-spelled front w o (
  u,
  v,
  items,
  parts,
  (items_is, few),
  (
    u1,
    v1,
    version,
    parts1,
    (version_is, seven),
    (
      u2,
      v2,
      flags,
      parts2,
      flags_is,
      (u3, v3, kind, parts3, (kind_is, conditions), (nothing, is)),
    ),
  ),
) =
    let known : nat_lt kind 3 ≡ true = needs-true (nat_lt kind 3) causes.CrcType (also-first _ _ conditions) in
    let count : items ≡ 8 + fragment_items (is_fragment flags) + check_items kind =
    eqb-true items (8 + fragment_items (is_fragment flags) + check_items kind)
    (needs-true (items == 8 + fragment_items (is_fragment flags) + check_items kind) causes.ItemCount (also-second _ _ conditions)) in
    rw is (record {
      flags = flags_is.small;
      crc = ltb-true kind 3 known;
      octets =
          joined w u (head 4 (8 + fragment_items (is_fragment flags) + check_items kind)) v (head 0 7 ++ (head 0 flags ++ head 0 kind)) parts (items_is.spelt ∙ ap (head 4) count)
          (joined v u1 (head 0 7) v1 (head 0 flags ++ head 0 kind) parts1 (exact-head 0 7 u1 version causes.Version version_is seven)
          (joined v1 u2 (head 0 flags) v2 (head 0 kind) parts2 flags_is.spelt (ended v2 u3 (head 0 kind) v3 parts3 kind_is.spelt nothing)));
    })

pub record NamesAre (w : List ℕ) (n : Names) : Type 0 where
  pub destination : IsEndpoint n.destination
  pub source : IsEndpoint n.source
  pub report_to : IsEndpoint n.report_to
  pub octets : w ≡ names_octets n.destination n.source n.report_to

pub names-spelled : (front w : List ℕ) (n : Names) → Spells names front w n → NamesAre w n
unfolding names
names-spelled front w n (u, v, destination, parts, first, (u1, v1, source, parts1, second, (u2, v2, report_to, parts2, third, (nothing, is)))) =
    let a = eid-spelled front u destination first in
    let b = eid-spelled (front ++ u) u1 source second in
    let c = eid-spelled (front ++ u ++ u1) u2 report_to third in
    rw is (record {
      destination = a.legal;
      source = b.legal;
      report_to = c.legal;
      octets = joined w u (eid_octets destination) v (eid_octets source ++ eid_octets report_to) parts a.octets
          (joined v u1 (eid_octets source) v1 (eid_octets report_to) parts1 b.octets (ended v1 u2 (eid_octets report_to) v2 parts2 c.octets nothing));
    })

pub record CreationIs (w : List ℕ) (m : Creation) : Type 0 where
  pub millis : m.millis < 2 ^ 64
  pub sequence : m.sequence < 2 ^ 64
  pub octets : w ≡ creation_octets m.millis m.sequence

pub creation-spelled : (front w : List ℕ) (m : Creation) → Spells creation front w m → CreationIs w m
unfolding creation
creation-spelled front w m (u, v, items, parts, (heads, two), (u1, v1, millis, parts1, millis_is, (u2, v2, sequence, parts2, sequence_is, (nothing, is)))) =
    rw is (record {
      millis = millis_is.small;
      sequence = sequence_is.small;
      octets = joined w u (head 4 2) v (head 0 millis ++ head 0 sequence) parts (exact-head 4 2 u items causes.Timestamp heads two)
          (joined v u1 (head 0 millis) v1 (head 0 sequence) parts1 millis_is.spelt (ended v1 u2 (head 0 sequence) v2 parts2 sequence_is.spelt nothing));
    })

pub record PartIs (here : Bool) (w : List ℕ) (p : Option Fragment) : Type 0 where
  pub present : here ≡ is_some p
  pub legal : IsPart p
  pub octets : w ≡ part_octets p

pub fragment-spelled : (front w : List ℕ) (f : Fragment) → Spells fragment front w f → PartIs true w (Some f)
unfolding fragment
fragment-spelled front w f (u, v, offset, parts, offset_is, (u1, v1, total, parts1, total_is, (nothing, is))) =
    rw is (record {
      present = refl;
      legal = (offset_is.small, total_is.small);
      octets = joined w u (head 0 offset) v (head 0 total) parts offset_is.spelt (ended v u1 (head 0 total) v1 parts1 total_is.spelt nothing);
    })

pub part-spelled : (here : Bool) (front w : List ℕ) (p : Option Fragment) → Spells (optional here fragment) front w p → PartIs here w p
part-spelled false front w p (nothing, is) = rw is (record { present = refl; legal = tt; octets = nothing })
part-spelled true front w p (u, v, f, parts, fragment_is, (nothing, is)) =
    let one = fragment-spelled front u f fragment_is in
    rw is (record { present = refl; legal = one.legal; octets = ended w u (part_octets (Some f)) v parts one.octets nothing })

-- ---- the whole block

pub primary-spelled : (front w : List ℕ) (p : Primary7) → Spells primary front w p → IsLegalPrimary p × (w ≡ primary_octets p)
unfolding primary with_check main_octets
primary-spelled front w p (
  u0,
  v0,
  start,
  parts0,
  (none, begins),
  (
    u1,
    v1,
    head_of,
    parts1,
    opening_is,
    (
      u2,
      v2,
      who,
      parts2,
      names_are,
      (
        u3,
        v3,
        made,
        parts3,
        creation_is,
        (
          u4,
          v4,
          lifetime,
          parts4,
          lifetime_is,
          (
            u5,
            v5,
            part,
            parts5,
            part_is,
            (u6, v6, check, parts6, check_is, (nothing, is)),
          ),
        ),
      ),
    ),
  ),
) =
    let o = opening-spelled (front ++ u0) u1 head_of opening_is in
    let n = names-spelled (front ++ u0 ++ u1) u2 who names_are in
    let m = creation-spelled (front ++ u0 ++ u1 ++ u2) u3 made creation_is in
    let f = part-spelled (is_fragment head_of.flags) (front ++ u0 ++ u1 ++ u2 ++ u3 ++ u4) u5 part part_is in
    let text : List ℕ = u1 ++ (u2 ++ (u3 ++ (u4 ++ u5))) in
    let before : front ++ u0 ++ u1 ++ u2 ++ u3 ++ u4 ++ u5 ≡ front ++ text = rw none (simp (append_assoc, append-nil)) in
    let crc_is : u6 ≡ crc_octets head_of.crc text = crc-spelled head_of.crc start (front ++ u0 ++ u1 ++ u2 ++ u3 ++ u4 ++ u5) front text u6 check begins before check_is in
    let whole : w ≡ text ++ u6 = rw (parts0, none, parts1, parts2, parts3, parts4, parts5, parts6, nothing) (simp (append_assoc, append-nil)) in
    let text_is : text ≡ opening_octets head_of.flags head_of.crc ++ (names_octets who.destination who.source who.report_to
    ++ (creation_octets made.millis made.sequence ++ (head 0 lifetime ++ part_octets part))) =
    joined text u1 (opening_octets head_of.flags head_of.crc) (u2 ++ (u3 ++ (u4 ++ u5)))
    (names_octets who.destination who.source who.report_to ++ (creation_octets made.millis made.sequence ++ (head 0 lifetime ++ part_octets part))) refl o.octets
    (joined (u2 ++ (u3 ++ (u4 ++ u5))) u2 (names_octets who.destination who.source who.report_to) (u3 ++ (u4 ++ u5))
    (creation_octets made.millis made.sequence ++ (head 0 lifetime ++ part_octets part)) refl n.octets
    (joined (u3 ++ (u4 ++ u5)) u3 (creation_octets made.millis made.sequence) (u4 ++ u5) (head 0 lifetime ++ part_octets part) refl m.octets
    (joined (u4 ++ u5) u4 (head 0 lifetime) u5 (part_octets part) refl lifetime_is.spelt f.octets))) in
    rw is (
      record {
        flags = o.flags;
        crc = o.crc;
        destination = n.destination;
        source = n.source;
        report_to = n.report_to;
        millis = m.millis;
        sequence = m.sequence;
        lifetime = lifetime_is.small;
        fragment_bit = f.present;
        fragment = f.legal;
      },
      whole ∙ (ap (λ (t : List ℕ). text ++ t) crc_is ∙ ap (λ (t : List ℕ). t ++ crc_octets head_of.crc t) text_is),
    )

-- ---- what is legal is spelled

check-spells : (n start : ℕ) (check : List ℕ → List ℕ) (front before text : List ℕ) → n < 2 ^ 64 → length (check (text ++ head 2 n)) ≡ n
    → start ≡ length before → front ≡ before ++ text → Spells (check_field n check start) front (check_octets n check text) tt
check-spells n start check front before text small long begins parts =
    let here : drop start (front ++ head 2 n) ≡ text ++ head 2 n = since-start before text (head 2 n) (drop start (front ++ head 2 n)) front start begins parts refl in
    let equal : bytes_eq (check (text ++ head 2 n)) (check (drop start (front ++ head 2 n))) ≡ true =
    (bytes_eq-Decides (check (text ++ head 2 n)) (check (drop start (front ++ head 2 n)))).1 (ap check (sym here)) in (
      head 2 n,
      check (text ++ head 2 n),
      n,
      refl,
      (head-spells 2 n small, needs-none _ causes.Crc (eq-eqb n n refl)),
      (
        [],
        check (text ++ head 2 n),
        drop start (front ++ head 2 n),
        refl,
        (refl, refl),
        (
          check (text ++ head 2 n),
          [],
          check (text ++ head 2 n),
          sym (append-nil (check (text ++ head 2 n))),
          ((refl, long), needs-none _ causes.Crc equal),
          (refl, refl),
        ),
      ),
    )

by-type-spells : (none one : Bool) (start : ℕ) (front before text : List ℕ) → start ≡ length before → front ≡ before ++ text
    → Spells (choice none (give tt) (choice one (check_field 2 check16 start) (check_field 4 check32 start))) front
    (if none then [] else if one then check_octets 2 check16 text else check_octets 4 check32 text) tt
by-type-spells true one start front before text begins parts = (refl, refl)
by-type-spells false true start front before text begins parts = check-spells 2 start check16 front before text (omega arith) refl begins parts
by-type-spells false false start front before text begins parts = check-spells 4 start check32 front before text (omega arith) refl begins parts

pub crc-spells : (crc start : ℕ) (front before text : List ℕ) → start ≡ length before → front ≡ before ++ text
    → Spells (crc_field crc start) front (crc_octets crc text) tt
unfolding crc_field crc_octets
crc-spells crc start front before text begins parts = by-type-spells (crc == 0) (crc == 1) start front before text begins parts

-- a number of items that is as it should be
pub crc_type-holds : (kind items bare : ℕ) → kind < 3 → items ≡ bare + check_items kind
    → (needs (nat_lt kind 3) causes.CrcType also needs (items == bare + check_items kind) causes.ItemCount) ≡ None
crc_type-holds kind items bare known is = rw (lt-ltb kind 3 known, eq-eqb items (bare + check_items kind) is) refl

none-or-one : (t : Bool) → (if t then 0 else 1) ≤ 1
none-or-one true = omega arith
none-or-one false = omega arith

pub check_items-small : (kind : ℕ) → check_items kind ≤ 1
check_items-small kind = none-or-one (kind == 0)

fragment_items-small : (here : Bool) → fragment_items here ≤ 2
fragment_items-small true = omega arith
fragment_items-small false = omega arith

opening-spells : (front : List ℕ) (o : Opening) → o.flags < 2 ^ 64 → o.crc < 3 → Spells opening front (opening_octets o.flags o.crc) o
unfolding opening
opening-spells front o small known =
    let items : ℕ = 8 + fragment_items (is_fragment o.flags) + check_items o.crc in
    let few : items ≤ 11 = omega (arith, check_items-small o.crc, fragment_items-small (is_fragment o.flags)) in
    let range : needs (nat_le 8 items && nat_le items 11) causes.Head ≡ None =
    rw (le-leb 8 items (omega arith), le-leb items 11 few) refl in (
      head 4 items,
      head 0 7 ++ (head 0 o.flags ++ head 0 o.crc),
      items,
      refl,
      (head-spells 4 items (omega arith), range),
      (
        head 0 7,
        head 0 o.flags ++ head 0 o.crc,
        7,
        refl,
        (head-spells 0 7 (omega arith), refl),
        (
          head 0 o.flags,
          head 0 o.crc,
          o.flags,
          refl,
          head-spells 0 o.flags small,
          (head 0 o.crc, [], o.crc, sym (append-nil (head 0 o.crc)), (head-spells 0 o.crc (omega arith), crc_type-holds o.crc items (8 + fragment_items (is_fragment o.flags)) known refl), (refl, refl)),
        ),
      ),
    )

names-spells : (front : List ℕ) (n : Names) → IsEndpoint n.destination → IsEndpoint n.source → IsEndpoint n.report_to
    → Spells names front (names_octets n.destination n.source n.report_to) n
unfolding names
names-spells front n destination source report_to = (
  eid_octets n.destination,
  eid_octets n.source ++ eid_octets n.report_to,
  n.destination,
  refl,
  eid-spells front n.destination destination,
  (
    eid_octets n.source,
    eid_octets n.report_to,
    n.source,
    refl,
    eid-spells (front ++ eid_octets n.destination) n.source source,
    (
      eid_octets n.report_to,
      [],
      n.report_to,
      sym (append-nil (eid_octets n.report_to)),
      eid-spells (front ++ eid_octets n.destination ++ eid_octets n.source) n.report_to report_to,
      (refl, refl),
    ),
  ),
)

creation-spells : (front : List ℕ) (m : Creation) → m.millis < 2 ^ 64 → m.sequence < 2 ^ 64 → Spells creation front (creation_octets m.millis m.sequence) m
unfolding creation
creation-spells front m millis sequence = (
  head 4 2,
  head 0 m.millis ++ head 0 m.sequence,
  2,
  refl,
  (head-spells 4 2 (omega arith), refl),
  (
    head 0 m.millis,
    head 0 m.sequence,
    m.millis,
    refl,
    head-spells 0 m.millis millis,
    (head 0 m.sequence, [], m.sequence, sym (append-nil (head 0 m.sequence)), head-spells 0 m.sequence sequence, (refl, refl)),
  ),
)

fragment-spells : (front : List ℕ) (f : Fragment) → f.offset < 2 ^ 64 → f.total < 2 ^ 64 → Spells fragment front (part_octets (Some f)) f
unfolding fragment
fragment-spells front f offset total = (
  head 0 f.offset,
  head 0 f.total,
  f.offset,
  refl,
  head-spells 0 f.offset offset,
  (head 0 f.total, [], f.total, sym (append-nil (head 0 f.total)), head-spells 0 f.total total, (refl, refl)),
)

part-spells : (here : Bool) (front : List ℕ) (p : Option Fragment) → here ≡ is_some p → IsPart p → Spells (optional here fragment) front (part_octets p) p
part-spells false front None present legal = (refl, refl)
part-spells false front (Some f) present legal = absurd (false≢true present)
part-spells true front None present legal = absurd (false≢true (sym present))
part-spells true front (Some f) present (offset, total) =
    (part_octets (Some f), [], f, sym (append-nil (part_octets (Some f))), fragment-spells front f offset total, (refl, refl))

pub primary-spells : (front : List ℕ) (p : Primary7) → IsLegalPrimary p → Spells primary front (primary_octets p) p
unfolding primary with_check main_octets
primary-spells front p legal =
    let a : List ℕ = opening_octets p.flags p.crc in
    let b : List ℕ = names_octets p.destination p.source p.report_to in
    let d : List ℕ = creation_octets p.millis p.sequence in
    let e : List ℕ = head 0 p.lifetime in
    let f : List ℕ = part_octets p.fragment in
    let check : List ℕ = crc_octets p.crc (a ++ (b ++ (d ++ (e ++ f)))) in
    let whole : primary_octets p ≡ a ++ (b ++ (d ++ (e ++ (f ++ check)))) = simp append_assoc in
    let before : front ++ [] ++ a ++ b ++ d ++ e ++ f ≡ front ++ (a ++ (b ++ (d ++ (e ++ f)))) = simp (append_assoc, append-nil) in (
      [],
      primary_octets p,
      length front,
      refl,
      (refl, refl),
      (
        a,
        b ++ (d ++ (e ++ (f ++ check))),
        record { flags = p.flags; crc = p.crc },
        whole,
        opening-spells (front ++ []) (record { flags = p.flags; crc = p.crc }) legal.flags legal.crc,
        (
          b,
          d ++ (e ++ (f ++ check)),
          record { destination = p.destination; source = p.source; report_to = p.report_to },
          refl,
          names-spells (front ++ [] ++ a) (record { destination = p.destination; source = p.source; report_to = p.report_to }) legal.destination legal.source legal.report_to,
          (
            d,
            e ++ (f ++ check),
            record { millis = p.millis; sequence = p.sequence },
            refl,
            creation-spells (front ++ [] ++ a ++ b) (record { millis = p.millis; sequence = p.sequence }) legal.millis legal.sequence,
            (
              e,
              f ++ check,
              p.lifetime,
              refl,
              head-spells 0 p.lifetime legal.lifetime,
              (
                f,
                check,
                p.fragment,
                refl,
                part-spells (is_fragment p.flags) (front ++ [] ++ a ++ b ++ d ++ e) p.fragment legal.fragment_bit legal.fragment,
                (
                  check,
                  [],
                  tt,
                  sym (append-nil check),
                  crc-spells p.crc (length front) (front ++ [] ++ a ++ b ++ d ++ e ++ f) front (a ++ (b ++ (d ++ (e ++ f)))) refl before,
                  (refl, refl),
                ),
              ),
            ),
          ),
        ),
      ),
    )
