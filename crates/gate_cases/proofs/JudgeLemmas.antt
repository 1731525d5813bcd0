-- What is found in a block, and what is decided then.
use Rattle.std.proofs.Common.{◌≡◌, ℕ, Bool, true, false, if◌then◌else◌, List, [], ◌∷◌, ◌++◌, map, length, Option, Some, None, Result, Ok, Err, IfOk, OnErr, refl, sym, ap, ◌∙◌, subst, eq-eqb, ne_eqb}
use Rattle.wire_fields.specs.Gives.{Judges}
use Rattle.wire_fields.specs.Refusal.{Stop}
use Rattle.wire_fields.specs.Reading.{read}
use Rattle.wire_fields.proofs.ResultLemmas.{ok_is}
use Rattle.bundle6.specs.declared.bundle.Bundle6.{Bundle6}
use Rattle.bundle6.specs.declared.fault.Cause6.{Cause6}
use Rattle.bundle6.specs.declared.fault.Refused6.{Refused6}
use Rattle.bundle6.specs.Cause as cause6
use Rattle.bundle6.specs.Table as table6
use Rattle.bundle7.specs.declared.bundle.Bundle7.{Bundle7}
use Rattle.bundle7.specs.declared.fault.Cause7.{Cause7}
use Rattle.bundle7.specs.declared.fault.Refused7.{Refused7}
use Rattle.bundle7.specs.Cause as cause7
use Rattle.bundle7.specs.Table as table7
use Rattle.translate.specs.declared.refused.Refused.{Refused}
use Rattle.translate.specs.Refusals.{first_that_holds}
use Rattle.gate_cases.specs.declared.case.GateCase.{GateCase}
use Rattle.gate_cases.specs.declared.case.GateCase.TheVariants.{BadBundle, Untranslated, Expired, HopLimit, Storage, Passed}
use Rattle.gate_cases.specs.declared.case.Room.{Room}
use Rattle.gate_cases.specs.declared.cause.BadCause.{BadCause}
use Rattle.gate_cases.specs.declared.cause.BadCause.TheVariants as bads
use Rattle.gate_cases.specs.declared.face.Face.{Face}
use Rattle.gate_cases.specs.declared.face.Face.TheVariants.{Old, New}
use Rattle.gate_cases.specs.Blocks.{Arrival, one, bad, alone, arrival6, arrival7, found6, found7, found_at}
use Rattle.gate_cases.specs.declared.report.AskedReport.{AskedReport}
use Rattle.gate_cases.specs.declared.sending.Sent.{Sent}
use Rattle.gate_cases.specs.Faces.{other_of}
use Rattle.gate_cases.specs.Reports.{asked}
use Rattle.gate_cases.specs.Cases.{untranslated, or_passed, case_of, Judgement, judgement_of, judged}
use Rattle.gate_cases.specs.Promises.{HaveRoom}
use Rattle.gate_cases.specs.Sending.{sent_arrival}
use Rattle.gate_cases.proofs.CaseLemmas.{cause6-same, cause7-same}
use Rattle.gate_cases.proofs.PromiseLemmas.{pieces-have-room}

-- ---- what is found

alone-end : (size end : ℕ) (arrival : Arrival) → end ≡ size → alone size end arrival ≡ one arrival
alone-end size end arrival is = rw (eq-eqb end size is) refl

alone-early : (size end : ℕ) (arrival : Arrival) → (end ≡ size → ⊥) → alone size end arrival ≡ bad end bads.Trailing
alone-early size end arrival early = rw (ne_eqb end size early) refl

-- by what judging answers for version 6
found6-early : (size end : ℕ) (r : Result (Bundle6 × ℕ) (ℕ × Stop Cause6)) → Judges cause6.stop_of (Ok end) r → (end ≡ size → ⊥)
    → found6 size r ≡ bad end bads.Trailing
found6-early size end (Ok x) is early = subst (λ k. alone size k (arrival6 x.0) ≡ bad end bads.Trailing) is (alone-early size end (arrival6 x.0) early)
found6-early size end (Err stop) is early = absurd is

found6-bad : (size : ℕ) (e : Refused6) (r : Result (Bundle6 × ℕ) (ℕ × Stop Cause6)) → r ≡ Err (cause6.stop_of e)
    → found6 size r ≡ bad e.at (bads.Six e.cause)
found6-bad size e r is = rw is (ap (λ (c : Cause6). bad e.at (bads.Six c)) (cause6-same e.cause))

pub early6 : (w : List ℕ) (end : ℕ) → Judges cause6.stop_of (Ok end) (read (table6.bundle 64) w 0) → (end ≡ length w → ⊥)
    → found_at Old w ≡ bad end bads.Trailing
unfolding found_at
early6 w end is early = found6-early (length w) end (read (table6.bundle 64) w 0) is early

pub bad6 : (w : List ℕ) (e : Refused6) → read (table6.bundle 64) w 0 ≡ Err (cause6.stop_of e) → found_at Old w ≡ bad e.at (bads.Six e.cause)
unfolding found_at
bad6 w e is = found6-bad (length w) e (read (table6.bundle 64) w 0) is

pub one6 : (w : List ℕ) (b : Bundle6) → read (table6.bundle 64) w 0 ≡ Ok (b, length w) → found_at Old w ≡ one (arrival6 b)
unfolding found_at
one6 w b is = rw is (alone-end (length w) (length w) (arrival6 b) refl)

read-one6 : (size end : ℕ) (r : Result (Bundle6 × ℕ) (ℕ × Stop Cause6)) → Judges cause6.stop_of (Ok end) r → end ≡ size
    → (b : Bundle6) × (r ≡ Ok (b, size))
read-one6 size end (Ok x) is all = (x.0, ap (λ k. Ok (x.0, k)) (sym is ∙ all))
read-one6 size end (Err stop) is all = absurd is

pub whole6 : (w : List ℕ) (end : ℕ) → Judges cause6.stop_of (Ok end) (read (table6.bundle 64) w 0) → end ≡ length w
    → (b : Bundle6) × (read (table6.bundle 64) w 0 ≡ Ok (b, length w))
whole6 w end is all = read-one6 (length w) end (read (table6.bundle 64) w 0) is all

-- for version 7
found7-early : (size end : ℕ) (r : Result (Bundle7 × ℕ) (ℕ × Stop Cause7)) → Judges cause7.stop_of (Ok end) r → (end ≡ size → ⊥)
    → found7 size r ≡ bad end bads.Trailing
found7-early size end (Ok x) is early = subst (λ k. alone size k (arrival7 x.0) ≡ bad end bads.Trailing) is (alone-early size end (arrival7 x.0) early)
found7-early size end (Err stop) is early = absurd is

found7-bad : (size : ℕ) (e : Refused7) (r : Result (Bundle7 × ℕ) (ℕ × Stop Cause7)) → r ≡ Err (cause7.stop_of e)
    → found7 size r ≡ bad e.at (bads.Seven e.cause)
found7-bad size e r is = rw is (ap (λ (c : Cause7). bad e.at (bads.Seven c)) (cause7-same e.cause))

pub early7 : (w : List ℕ) (end : ℕ) → Judges cause7.stop_of (Ok end) (read (table7.bundle 64) w 0) → (end ≡ length w → ⊥)
    → found_at New w ≡ bad end bads.Trailing
unfolding found_at
early7 w end is early = found7-early (length w) end (read (table7.bundle 64) w 0) is early

pub bad7 : (w : List ℕ) (e : Refused7) → read (table7.bundle 64) w 0 ≡ Err (cause7.stop_of e) → found_at New w ≡ bad e.at (bads.Seven e.cause)
unfolding found_at
bad7 w e is = found7-bad (length w) e (read (table7.bundle 64) w 0) is

pub one7 : (w : List ℕ) (b : Bundle7) → read (table7.bundle 64) w 0 ≡ Ok (b, length w) → found_at New w ≡ one (arrival7 b)
unfolding found_at
one7 w b is = rw is (alone-end (length w) (length w) (arrival7 b) refl)

read-one7 : (size end : ℕ) (r : Result (Bundle7 × ℕ) (ℕ × Stop Cause7)) → Judges cause7.stop_of (Ok end) r → end ≡ size
    → (b : Bundle7) × (r ≡ Ok (b, size))
read-one7 size end (Ok x) is all = (x.0, ap (λ k. Ok (x.0, k)) (sym is ∙ all))
read-one7 size end (Err stop) is all = absurd is

pub whole7 : (w : List ℕ) (end : ℕ) → Judges cause7.stop_of (Ok end) (read (table7.bundle 64) w 0) → end ≡ length w
    → (b : Bundle7) × (read (table7.bundle 64) w 0 ≡ Ok (b, length w))
whole7 w end is all = read-one7 (length w) end (read (table7.bundle 64) w 0) is all

-- ---- what is decided

pub judged-bad : (face : Face) (w : List ℕ) (now cut : ℕ) (room : Room) (at : ℕ) (cause : BadCause) → found_at face w ≡ bad at cause
    → judged face w now cut room ≡ record { case = BadBundle at cause; pieces = []; report = None }
unfolding judged case_of
judged-bad face w now cut room at cause is = rw is refl

pub judged-one : (face : Face) (w : List ℕ) (now cut : ℕ) (room : Room) (arrival : Arrival) → found_at face w ≡ one arrival
    → judgement_of face (one arrival) cut (case_of face (one arrival) now cut room) ≡ judged face w now cut room
unfolding judged
judged-one face w now cut room arrival is = rw is refl

-- a bundle is no bad one
not-bad : (at : ℕ) (cause : BadCause) (refusals : List (Refused × Bool)) (others : List (GateCase × Bool))
    → (or_passed (first_that_holds others) ≡ BadBundle at cause → ⊥)
    → or_passed (first_that_holds (map untranslated refusals ++ others)) ≡ BadBundle at cause → ⊥
not-bad at cause [] others none is = none is
not-bad at cause ((refused, holds) ∷ refusals) others none is = by holds is (λ is. not-bad at cause refusals others none is)
  where
    by : (t : Bool) → or_passed (if t then Some (Untranslated refused) else first_that_holds (map untranslated refusals ++ others)) ≡ BadBundle at cause
        → (or_passed (first_that_holds (map untranslated refusals ++ others)) ≡ BadBundle at cause → ⊥) → ⊥
    by true is rest = cc
    by false is rest = rest is

four : (at : ℕ) (cause : BadCause) (a b c d : Bool) (refused : Refused)
    → or_passed (first_that_holds ((Expired, a) ∷ (HopLimit, b) ∷ (Untranslated refused, c) ∷ (Storage, d) ∷ [])) ≡ BadBundle at cause → ⊥
four at cause true b c d refused is = cc
four at cause false true c d refused is = cc
four at cause false false true d refused is = cc
four at cause false false false true refused is = cc
four at cause false false false false refused is = cc

pub one-good : (face : Face) (w : List ℕ) (now cut : ℕ) (room : Room) (arrival : Arrival) → found_at face w ≡ one arrival
    → (at : ℕ) (cause : BadCause) → (judged face w now cut room).case ≡ BadBundle at cause → ⊥
unfolding judged case_of
one-good face w now cut room arrival is at cause same =
    not-bad at cause arrival.refusals _ (four at cause _ _ _ _ _) (rw is at same)

-- ---- what code decided

pub decided-one : (face : Face) (arrival : Arrival) (now cut : ℕ) (room : Room) (sent : Sent) (report : Option AskedReport)
    → sent ≡ sent_arrival (other_of face) arrival now cut room → report ≡ asked arrival.subject sent.case
    → judgement_of face (one arrival) cut (case_of face (one arrival) now cut room)
    ≡ record { case = sent.case; pieces = sent.pieces; report = report }
unfolding case_of
decided-one face arrival now cut room sent report is told = rw (told, is) refl

length-is : {B E : Type 0} (b c : B) (n k : ℕ) → (r : Result (B × ℕ) E) → r ≡ Ok (b, n) → r ≡ Ok (c, k) → k ≡ n
length-is {B} {E} b c n k r first second = sym (ap (λ (x : B × ℕ). x.1) (ok_is {E = E} (b, n) (c, k) (sym first ∙ second)))

pub bundle-judged6 : {E : Type 0} (w : List ℕ) (bundle : Bundle6) (k now cut : ℕ) (room : Room) (result : Result Judgement E)
    → (b : Bundle6) × (read (table6.bundle 64) w 0 ≡ Ok (b, length w)) → read (table6.bundle 64) w 0 ≡ Ok (bundle, k)
    → IfOk result (λ g. g ≡ judgement_of Old (one (arrival6 bundle)) cut (case_of Old (one (arrival6 bundle)) now cut room))
    → IfOk result (λ g. g ≡ judged Old w now cut room)
bundle-judged6 w bundle k now cut room (Ok g) (b, all) is decided =
    let same : k ≡ length w = length-is b bundle (length w) k (read (table6.bundle 64) w 0) all is in
    decided ∙ judged-one Old w now cut room (arrival6 bundle) (one6 w bundle (is ∙ ap (λ n. Ok (bundle, n)) same))
bundle-judged6 w bundle k now cut room (Err e) all is decided = tt

pub bundle-judged7 : {E : Type 0} (w : List ℕ) (bundle : Bundle7) (k now cut : ℕ) (room : Room) (result : Result Judgement E)
    → (b : Bundle7) × (read (table7.bundle 64) w 0 ≡ Ok (b, length w)) → read (table7.bundle 64) w 0 ≡ Ok (bundle, k)
    → IfOk result (λ g. g ≡ judgement_of New (one (arrival7 bundle)) cut (case_of New (one (arrival7 bundle)) now cut room))
    → IfOk result (λ g. g ≡ judged New w now cut room)
bundle-judged7 w bundle k now cut room (Ok g) (b, all) is decided =
    let same : k ≡ length w = length-is b bundle (length w) k (read (table7.bundle 64) w 0) all is in
    decided ∙ judged-one New w now cut room (arrival7 bundle) (one7 w bundle (is ∙ ap (λ n. Ok (bundle, n)) same))
bundle-judged7 w bundle k now cut room (Err e) all is decided = tt

pub given-room : {E : Type 0} (face : Face) (w : List ℕ) (now cut : ℕ) (room : Room) (result : Result Judgement E)
    → IfOk result (λ g. g ≡ judged face w now cut room) → IfOk result (λ g. g.case ≡ Passed → HaveRoom room g.pieces)
given-room face w now cut room (Ok g) is =
    subst (λ (j : Judgement). j.case ≡ Passed → HaveRoom room j.pieces) (sym is) (pieces-have-room face w now cut room)
given-room face w now cut room (Err e) is = tt

-- where it holds whatever happened
pub on-err : {A E : Type 0} {P : Type 0} (result : Result A E) → P → OnErr result P
on-err (Ok x) holds = tt
on-err (Err e) holds = holds
