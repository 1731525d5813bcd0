-- What spells a report of version 7 is its one spelling, and the report is legal.

use Rattle.std.proofs.Common.{◌≡◌, ℕ, ◌^◌, ◌<◌, ◌==◌, ◌&&◌, ◌||◌, Bool, true, false, ltb, List, [], ◌∷◌, ◌++◌, length, Option, None, Result, Ok, Err, IfOk, refl, sym, ap, ◌∙◌}
use Rattle.std.proofs.lemmas.Bool.{eqb-true, ltb-true, and_parts, false≢true}
use Rattle.std.specs.List.{All}
use Rattle.cbor_lite.specs.Head.{head, SpellsHead}
use Rattle.wire_fields.specs.Format.{Spells, give}
use Rattle.wire_fields.specs.Words.{needs, optional, choice}
use Rattle.wire_fields.specs.Reading.{IsOctets}
use Rattle.bundle_meaning.specs.declared.report.Part.{Part}
use Rattle.bundle_meaning.specs.declared.report.Stamp.{Stamp}
use Rattle.bundle_meaning.specs.Reports.{IsStamp, IsReportPart}
use Rattle.bundle7.specs.Eid.{eid}
use Rattle.bundle7.specs.Spelling.{eid_octets}
use Rattle.bundle7.proofs.SpellingLaws.{eid-spelled}
use Rattle.status_reports.specs.declared.fault.AdminFault.TheVariants.{BadAdmin}
use Rattle.status_reports.specs.declared.report7.Report7.{Report7}
use Rattle.status_reports.specs.Table7.{no_octet, yes_octet, may_say, plain, timed, stamp, stamps, part7, inner, report7}
use Rattle.status_reports.specs.Legal.{IsReport7}
use Rattle.status_reports.specs.Spelling.{stamp_octets, stamps_octets, items_of, part7_octets, report7_octets}
use Rattle.status_reports.proofs.PairLemmas.{all-four}
use Rattle.status_reports.specs.declared.fault.AdminFault.{AdminFault}
use Rattle.status_reports.specs.declared.report7.LentReport7.{LentReport7}
use Rattle.status_reports.specs.Order.{cause7, answer7, Answers}
use Rattle.status_reports.specs.Views.{report7_lent, seen}
use Rattle.status_reports.proofs.AnswerLemmas.{answers-found}
use Rattle.status_reports.proofs.SpelledLemmas.{caused, needs-holds, joined, ended}

exact-head : {C : Type 0} (kind n : ℕ) (u : List ℕ) (x : ℕ) (c : C) → SpellsHead kind u x → needs (x == n) c ≡ None → u ≡ head kind n
exact-head kind n u x c spells only = spells.spelt ∙ ap (head kind) (eqb-true x n (needs-holds (x == n) c only))

-- ---- two values

one-of : (x a b : ℕ) (t : Bool) → (x == b) ≡ t → (x == a || t) ≡ true → t ≡ false → x ≡ a
one-of x a b true same is clear = absurd (cc)
one-of x a b false same is clear = by_cases (x == a) refl is
  where
    by_cases : (s : Bool) → (x == a) ≡ s → (s || false) ≡ true → x ≡ a
    by_cases true first is = eqb-true x a first
    by_cases false first is = absurd (cc)

-- ---- statuses

record IsStamped (w : List ℕ) (s : Stamp) : Type 0 where
  legal : IsStamp s
  octets : w ≡ stamp_octets s

-- without a time
plain-spelled : (octet : ℕ) (t : Bool) → (octet == yes_octet) ≡ t → (t || (octet == no_octet && (1 == 1))) ≡ true
    → (w u1 u2 : List ℕ) → w ≡ u1 ++ u2 → u1 ≡ head 4 1 → u2 ≡ octet ∷ [] → IsStamped w (plain octet)
plain-spelled octet true same legal w u1 u2 e one two =
    rw same (record { legal = tt; octets = joined w u1 (head 4 1) u2 (yes_octet ∷ []) e one (two ∙ ap (λ x. x ∷ []) (eqb-true octet yes_octet same)) })
plain-spelled octet false same legal w u1 u2 e one two =
    let parts = and_parts (octet == no_octet) (1 == 1) legal in
    rw same (record { legal = tt; octets = joined w u1 (head 4 1) u2 (no_octet ∷ []) e one (two ∙ ap (λ x. x ∷ []) (eqb-true octet no_octet parts.0)) })

-- with a time only true may stand
yes-only : (octet : ℕ) (t : Bool) → (octet == yes_octet) ≡ t → (t || (octet == no_octet && (2 == 1))) ≡ true → octet ≡ yes_octet
yes-only octet true same legal = eqb-true octet yes_octet same
yes-only octet false same legal =
    let parts = and_parts (octet == no_octet) (2 == 1) legal in absurd (false≢true parts.1)

stamp-by : (t : Bool) (items octet : ℕ) → (items == 2) ≡ t → (items == 1 || t) ≡ true → may_say items octet ≡ true
    → (front w u1 v1 u2 v2 : List ℕ) (s : Stamp) → w ≡ u1 ++ v1 → u1 ≡ head 4 items → v1 ≡ u2 ++ v2 → u2 ≡ octet ∷ []
    → Spells (choice t timed (give (plain octet))) front v2 s → IsStamped w s
unfolding timed
stamp-by true items octet same one_or_two may front w u1 v1 u2 v2 s e1 one e2 two spells =
    let (u3, v3, millis, e3, s3, r3) = spells in
    let is2 : items ≡ 2 = eqb-true items 2 same in
    let yes = yes-only octet (octet == yes_octet) refl (rw is2 at may) in
    rw r3.1 (record {
      legal = s3.small;
      octets = joined w u1 (head 4 2) v1 (yes_octet ∷ head 0 millis) e1 (one ∙ ap (head 4) is2)
          (joined v1 u2 (yes_octet ∷ []) v2 (head 0 millis) e2 (two ∙ ap (λ (x : ℕ). x ∷ []) yes) (ended v2 u3 (head 0 millis) v3 e3 s3.spelt r3.0));
    })
stamp-by false items octet same one_or_two may front w u1 v1 u2 v2 s e1 one e2 two spells =
    let is1 : items ≡ 1 = one-of items 1 2 false same one_or_two refl in
    let rest : v1 ≡ octet ∷ [] = ended v1 u2 (octet ∷ []) v2 e2 two spells.0 in
    rw spells.1 (plain-spelled octet (octet == yes_octet) refl (rw is1 at may) w u1 v1 e1 (one ∙ ap (head 4) is1) rest)

stamp-spelled : (front w : List ℕ) (s : Stamp) → Spells stamp front w s → IsStamped w s
unfolding stamp
stamp-spelled front w s spells =
    let (u1, v1, items, e1, s1, r1) = spells in
    let (u2, v2, octet, e2, s2, r2) = r1 in
    stamp-by (items == 2) items octet refl (needs-holds (items == 1 || items == 2) _ s1.1) (needs-holds (may_say items octet) _ s2.1)
    _ w u1 v1 u2 v2 s e1 s1.0.spelt e2 s2.0 r2

record AreStamped (w : List ℕ) (all : List Stamp) : Type 0 where
  four : length all ≡ 4
  legal : All IsStamp all
  octets : w ≡ stamps_octets all

stamps-spelled : (front w : List ℕ) (all : List Stamp) → Spells stamps front w all → AreStamped w all
unfolding stamps stamps_octets
stamps-spelled front w all spells =
    let (u0, v0, items, e0, s0, r0) = spells in
    let (u1, v1, t1, e1, s1, r1) = r0 in
    let (u2, v2, t2, e2, s2, r2) = r1 in
    let (u3, v3, t3, e3, s3, r3) = r2 in
    let (u4, v4, t4, e4, s4, r4) = r3 in
    let one = stamp-spelled _ u1 t1 s1 in
    let two = stamp-spelled _ u2 t2 s2 in
    let three = stamp-spelled _ u3 t3 s3 in
    let four = stamp-spelled _ u4 t4 s4 in
    let x4 = ended v3 u4 (stamp_octets t4) v4 e4 four.octets r4.0 in
    let x3 = joined v2 u3 (stamp_octets t3) v3 (stamp_octets t4) e3 three.octets x4 in
    let x2 = joined v1 u2 (stamp_octets t2) v2 (stamp_octets t3 ++ stamp_octets t4) e2 two.octets x3 in
    let x1 = joined v0 u1 (stamp_octets t1) v1 (stamp_octets t2 ++ (stamp_octets t3 ++ stamp_octets t4)) e1 one.octets x2 in
    let x0 = joined w u0 (head 4 4) v0 (stamp_octets t1 ++ (stamp_octets t2 ++ (stamp_octets t3 ++ stamp_octets t4))) e0 (exact-head 4 4 u0 items _ s0.0 s0.1) x1 in
    rw r4.1 (record { four = refl; legal = all-four IsStamp t1 t2 t3 t4 one.legal two.legal three.legal four.legal; octets = x0 })

-- ---- the part of a fragment

record IsPart (w : List ℕ) (part : Part) : Type 0 where
  legal : (part.offset < 2 ^ 64) × (part.length < 2 ^ 64)
  octets : w ≡ head 0 part.offset ++ head 0 part.length

part-spelled : (front w : List ℕ) (part : Part) → Spells part7 front w part → IsPart w part
unfolding part7
part-spelled front w part s =
    let (u1, v1, offset, e1, s1, r1) = s in
    let (u2, v2, size, e2, s2, r2) = r1 in
    rw r2.1 (record {
      legal = (s1.small, s2.small);
      octets = joined w u1 (head 0 offset) v1 (head 0 size) e1 s1.spelt (ended v1 u2 (head 0 size) v2 e2 s2.spelt r2.0);
    })

record IsFragment (items : ℕ) (w : List ℕ) (fragment : Option Part) : Type 0 where
  legal : IsReportPart fragment
  count : items ≡ items_of fragment
  octets : w ≡ part7_octets fragment

fragment-spelled : (items : ℕ) (t : Bool) → (items == 6) ≡ t → (items == 4 || t) ≡ true
    → (front w : List ℕ) (fragment : Option Part) → Spells (optional t part7) front w fragment → IsFragment items w fragment
fragment-spelled items true same legal front w fragment s =
    let (u, v, part, e, one, r) = s in
    let is = part-spelled front u part one in
    rw r.1 (record {
      legal = is.legal;
      count = eqb-true items 6 same;
      octets = ended w u (head 0 part.offset ++ head 0 part.length) v e is.octets r.0;
    })
fragment-spelled items false same legal front w fragment s =
    rw s.1 (record { legal = tt; count = one-of items 4 6 false same legal refl; octets = s.0 })

-- ---- the whole

inner_octets : Report7 → List ℕ
inner_octets report =
    head 4 (items_of report.fragment) ++ (stamps_octets report.stamps
    ++ (head 0 report.reason ++ (eid_octets report.source ++ (head 4 2 ++ (head 0 report.millis
    ++ (head 0 report.sequence ++ part7_octets report.fragment))))))

record IsInner (w : List ℕ) (report : Report7) : Type 0 where
  legal : IsReport7 report
  octets : w ≡ inner_octets report

inner-spelled : (front w : List ℕ) (report : Report7) → Spells inner front w report → IsInner w report
unfolding inner inner_octets
inner-spelled front w report s =
    let (u1, v1, items, e1, s1, r1) = s in
    let (u2, v2, all, e2, s2, r2) = r1 in
    let (u3, v3, code, e3, s3, r3) = r2 in
    let (u4, v4, source, e4, s4, r4) = r3 in
    let (u5, v5, pair, e5, s5, r5) = r4 in
    let (u6, v6, millis, e6, s6, r6) = r5 in
    let (u7, v7, sequence, e7, s7, r7) = r6 in
    let (u8, v8, fragment, e8, s8, r8) = r7 in
    let stamped = stamps-spelled _ u2 all s2 in
    let named = eid-spelled _ u4 source (caused BadAdmin eid _ u4 source s4) in
    let part = fragment-spelled items (items == 6) refl (needs-holds (items == 4 || items == 6) _ s1.1) _ u8 fragment s8 in
    let t7 = joined v6 u7 (head 0 sequence) v7 (part7_octets fragment) e7 s7.spelt (ended v7 u8 (part7_octets fragment) v8 e8 part.octets r8.0) in
    let t6 = joined v5 u6 (head 0 millis) v6 _ e6 s6.spelt t7 in
    let t5 = joined v4 u5 (head 4 2) v5 _ e5 (exact-head 4 2 u5 pair _ s5.0 s5.1) t6 in
    let t4 = joined v3 u4 (eid_octets source) v4 _ e4 named.octets t5 in
    let t3 = joined v2 u3 (head 0 code) v3 _ e3 s3.0.spelt t4 in
    let t2 = joined v1 u2 (stamps_octets all) v2 _ e2 stamped.octets t3 in
    let t1 = joined w u1 (head 4 (items_of fragment)) v1 _ e1 (s1.0.spelt ∙ ap (head 4) part.count) t2 in
    rw r8.1 (record {
      legal = record {
        four = stamped.four;
        stamps = stamped.legal;
        reason = ltb-true code 256 (needs-holds (ltb code 256) _ s3.1);
        source = named.legal;
        millis = s6.small;
        sequence = s7.small;
        fragment = part.legal;
      };
      octets = t1;
    })

pub record IsSpelled7 (w : List ℕ) (report : Report7) : Type 0 where
  pub legal : IsReport7 report
  pub octets : w ≡ report7_octets report

pub report7-spelled : (w : List ℕ) (report : Report7) → Spells report7 [] w report → IsSpelled7 w report
unfolding report7 report7_octets inner_octets
report7-spelled w report s =
    let (u1, v1, items, e1, s1, r1) = s in
    let (u2, v2, kind, e2, s2, r2) = r1 in
    let is = inner-spelled _ v2 report r2 in
    record {
      legal = is.legal;
      octets = joined w u1 (head 4 2) v1 (head 0 1 ++ inner_octets report) e1 (exact-head 4 2 u1 items _ s1.0 s1.1)
          (joined v1 u2 (head 0 1) v2 (inner_octets report) e2 (exact-head 0 1 u2 kind _ s2.0 s2.1) is.octets);
    }

-- ---- what a reader answers

pub answers-legal : (result : Result Report7 AdminFault) (body : List ℕ) → IsOctets body → Answers result (answer7 body)
    → IfOk result IsReport7
answers-legal (Ok report) body fits is =
    let spells : Spells report7 [] body report = answers-found report7 (cause7 body) (Ok report) body fits is in
    (report7-spelled body report spells).legal
answers-legal (Err fault) body fits is = tt

pub answers-same : (result : Result Report7 AdminFault) (body : List ℕ) → IsOctets body → Answers result (answer7 body)
    → IfOk result (λ report. body ≡ report7_octets report)
answers-same (Ok report) body fits is =
    let spells : Spells report7 [] body report = answers-found report7 (cause7 body) (Ok report) body fits is in
    (report7-spelled body report spells).octets
answers-same (Err fault) body fits is = tt

pub lent-legal : (result : Result LentReport7 AdminFault) (body : List ℕ) → IsOctets body → seen report7_lent result ≡ answer7 body
    → IfOk result (λ lent. IsReport7 (report7_lent lent))
lent-legal (Ok lent) body fits is =
    let spells : Spells report7 [] body (report7_lent lent) = answers-found report7 (cause7 body) (Ok (report7_lent lent)) body fits (sym is) in
    (report7-spelled body (report7_lent lent) spells).legal
lent-legal (Err fault) body fits is = tt
