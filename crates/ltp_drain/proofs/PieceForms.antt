-- What a receiver does about a piece of its own session, where nobody cancels.

use Rattle.std.proofs.Common.{◌≡◌, ℕ, zero, suc, ◌+◌, ◌≤◌, ◌^◌, Bool, true, false, not, ◌==◌}
use Rattle.std.proofs.Common.{◌&&◌, ◌||◌, List, [], ◌∷◌, length, take, Option, None, Some}
use Rattle.std.proofs.Common.{is_some, ◌⊎◌, inl, inr, refl, sym, ◌∙◌, ap, arith, subst, nat_lt}
use Rattle.std.proofs.Common.{nat_le, if◌then◌else◌}
use Rattle.std.proofs.lemmas.Bool.{eq-eqb, ne_eqb}
use Rattle.std.proofs.lemmas.Bool.Decides.{nat_tests}
use Rattle.std.specs.List.{AllByRecursion}
use Rattle.ltp_segment.specs.Kinds.{is_red, is_checkpoint, ends_red_part}
use Rattle.ltp_segment.specs.Policy.{PolicyValue}
use Rattle.ltp_segment.specs.Values.{PieceValue, ReportValue, a_piece, a_report}
use Rattle.ltp_segment.specs.declared.segment.Claim.{Claim}
use Rattle.ltp_segment.specs.declared.segment.PieceKind.{PieceKind}
use Rattle.ltp_segment.specs.declared.segment.PieceKind.TheVariants as kinds
use Rattle.ltp_session.specs.Cells.{is_misplaced, reach_of, cell, filled}
use Rattle.ltp_session.specs.Cells.{is_another, is_below, is_past, octet_in}
use Rattle.ltp_session.specs.Receiver.{bound_of, Admission, Receiving, fresh, is_cancelling}
use Rattle.ltp_session.specs.Receiver.{is_miscoloured, is_outside, on_piece, piece_for}
use Rattle.ltp_session.specs.Receiver.{piece_step, piece_stop, report_of, with_red}
use Rattle.ltp_session.specs.RedPart.{or_else}
use Rattle.ltp_session.specs.Step.{StepValue, keeps, stays}
use Rattle.ltp_session.specs.Timer.{first_timer}
use Rattle.ltp_session.specs.declared.timer.Timer.{Timer}
use Rattle.ltp_laws.specs.Blocks.{IfGreen, IfKnown, IsInPart, IsPieceOf, IsReceiverOf}
use Rattle.ltp_laws.specs.Claims.{IsWhole}
use Rattle.ltp_laws.specs.HandUps.{AllFilled}
use Rattle.ltp_laws.specs.Kept.{IfKept}
use Rattle.ltp_laws.specs.Serials.{pending_of}
use Rattle.cells.proofs.CellLemmas.{cell-filled}
use Rattle.ltp_laws.proofs.ClaimLemmas.{claims_from, report_with, report_of-with}
use Rattle.ltp_laws.proofs.HandUpLemmas.{filled-reach}
use Rattle.ltp_laws.proofs.ListLemmas.{both_arms, by_arms}
use Rattle.ltp_laws.proofs.ReceiverLemmas.{end-within, fresh-is}
use Rattle.ltp_laws.proofs.StepLemmas.{met}
use Rattle.ltp_laws.proofs.WholeLemmas.{one-claim}
use Rattle.ltp_laws.proofs.ReachLemmas.{all-some}
use Rattle.ltp_drain.specs.Rank.{has_cell}
use Rattle.ltp_drain.proofs.RankLemmas.{or_first}

-- ---- tests

pub only_false : {A : Type 0} (P : A → Type 0) (b : Bool) (x y : A) → b ≡ false → P y
    → P (if b then x else y)
only_false P true x y is holds = absurd (cc)
only_false P false x y is holds = holds

pub green-plain : (kind : PieceKind) → is_red kind ≡ false → is_checkpoint kind ≡ false
green-plain kinds.Red is = refl
green-plain kinds.RedCheckpoint is = absurd (cc)
green-plain kinds.RedEnd is = absurd (cc)
green-plain kinds.RedEndBlock is = absurd (cc)
green-plain kinds.Green is = refl
green-plain kinds.GreenEndBlock is = refl

false-or : (a b : Bool) → a ≡ false → b ≡ false → (a || b) ≡ false
false-or a b is_a is_b = rw (is_a, is_b) refl

not-lt : (a b : ℕ) → b ≤ a → nat_lt a b ≡ false
not-lt a b low = grind (arith, nat_tests)

-- ---- no piece of the session is outside or miscoloured

outside-not : (block : List ℕ) (red : ℕ) (r : Receiving) (q : PieceValue)
    → IsReceiverOf block red r → is_red q.kind ≡ true → IsPieceOf block red q
    → is_misplaced (reach_of r.cells) r.length (ends_red_part q.kind) (piece_stop q) ≡ false
outside-not block red r q is red_kind of = false-or _ _ (past r.length is.known)
    (ends (ends_red_part q.kind) refl)
  where
    part : IsInPart red true (ends_red_part q.kind) q.offset (piece_stop q)
    part = subst (λ b. IsInPart red b (ends_red_part q.kind) q.offset (piece_stop q)) red_kind
        of.part

    within : piece_stop q ≤ red
    within = end-within red (ends_red_part q.kind) q.offset (piece_stop q) part

    past : (known : Option ℕ) → IfKnown red known → is_past known (piece_stop q) ≡ false
    past None h = refl
    past (Some end) h = not-lt end (piece_stop q) (omega (arith, h, within))

    another : (known : Option ℕ) → IfKnown red known → piece_stop q ≡ red
        → is_another known (piece_stop q) ≡ false
    another None h there = refl
    another (Some end) h there = rw (eq-eqb end (piece_stop q) (h ∙ sym there)) refl

    ends : (last : Bool) → ends_red_part q.kind ≡ last
        → (last && (is_another r.length (piece_stop q) || nat_lt (piece_stop q) (length r.cells)))
        ≡ false
    ends false h = refl
    ends true h =
        let there : piece_stop q ≡ red = subst (λ b. IsInPart red true b q.offset (piece_stop q))
        h part in
        false-or _ _ (another r.length is.known there)
        (not-lt (piece_stop q) (length r.cells) (omega (arith, there, is.reach)))

colours-kept : (block : List ℕ) (red : ℕ) (r : Receiving) (q : PieceValue)
    → IsReceiverOf block red r → IsPieceOf block red q → is_miscoloured r q ≡ false
colours-kept block red r q is of = by_kind (is_red q.kind) of.part
  where
    above : (green : Option ℕ) → IfGreen red green → piece_stop q ≤ red
        → is_past green (piece_stop q) ≡ false
    above None h within = refl
    above (Some low) h within = not-lt low (piece_stop q) (omega (arith, h, within))

    before : (known : Option ℕ) → IfKnown red known → red ≤ q.offset
        → is_below known q.offset ≡ false
    before None h from = refl
    before (Some end) h from = not-lt q.offset end (omega (arith, h, from))

    by_kind : (colour : Bool) → IsInPart red colour (ends_red_part q.kind) q.offset (piece_stop q)
        → (if colour then is_past r.green (piece_stop q) else
        (nat_lt q.offset (length r.cells) || is_below r.length q.offset)) ≡ false
    by_kind true part = above r.green is.green
        (end-within red (ends_red_part q.kind) q.offset (piece_stop q) part)
    by_kind false part = false-or _ _ (not-lt q.offset (length r.cells)
        (omega (arith, part, is.reach))) (before r.length is.known part)

-- ---- what a receiver is after a piece of its own

pub record Grows (r : Receiving) (q : PieceValue) (r' : Receiving) : Type 0 where
  pub old : (i : ℕ) → is_some (cell r.cells i) ≡ true → is_some (cell r'.cells i) ≡ true
  pub here : (i : ℕ) → has_cell i (a_piece q) ≡ true → is_some (cell r'.cells i) ≡ true
  pub handed : r.handed_up ≡ true → r'.handed_up ≡ true
  pub listening : is_cancelling r'.phase ≡ false

pub data Takes (r : Receiving) (q : PieceValue) (t : StepValue Receiving) : Type 0 where
  fills_only : (r' : Receiving) → is_checkpoint q.kind ≡ false → t.next ≡ keeps r' → t.out ≡ []
      → Grows r q r'
      → r'.phase ≡ r.phase → r'.serial ≡ r.serial → Takes r q t
  answers : (r' : Receiving) (timer : Timer) → is_checkpoint q.kind ≡ true → t.next ≡ keeps r'
      → t.out ≡ a_report (report_of (with_red r q) q) ∷ [] → Grows r q r'
      → pending_of r'.phase ≡ Some (record { report = report_of (with_red r q) q; timer = timer })
      → r'.serial ≡ r.serial + 1 → Takes r q t

some_or : {X : Type 0} (first second : Option X) → is_some first ≡ true
    → is_some (or_else first second) ≡ true
some_or None second is = absurd (cc)
some_or (Some x) second is = refl

some_else : {X : Type 0} (first second : Option X) → is_some second ≡ true
    → is_some (or_else first second) ≡ true
some_else None second is = is
some_else (Some x) second is = refl

pub filled-old : (cells : List (Option ℕ)) (offset : ℕ) (body : List ℕ) (i : ℕ)
    → is_some (cell cells i) ≡ true → is_some (cell (filled cells offset body) i) ≡ true
filled-old cells offset body i is = rw (cell-filled cells offset body i)
    (some_or (cell cells i) _ is)

-- a place of a piece is filled by it
pub filled-here : (cells : List (Option ℕ)) (q : PieceValue) (i : ℕ)
    → has_cell i (a_piece q) ≡ true → is_some (cell (filled cells q.offset q.body) i) ≡ true
filled-here cells q i is = rw (cell-filled cells q.offset q.body i)
    (some_else (cell cells i) _ (has (is_red q.kind) is))
  where
    has : (colour : Bool) → (colour && nat_le q.offset i && nat_lt i (q.offset + length q.body)) ≡
        true → is_some (octet_in q.offset q.body i) ≡ true
    has true h = rw h refl
    has false h = absurd (cc)

pub piece-takes : (block : List ℕ) (red : ℕ) (policy : PolicyValue) (r : Receiving)
    (q : PieceValue) (now : ℕ) → IsReceiverOf block red r → IsPieceOf block red q
    → is_cancelling r.phase ≡ false → (is_checkpoint q.kind ≡ true → (r.serial == 2 ^ 32) ≡ false)
    → Takes r q (piece_step policy r q now)
unfolding piece_step
piece-takes block red policy r q now is of listening serials =
    only_false Form (is_outside r q) _ _ (by_red (is_red q.kind) refl)
    (only_false Form (is_miscoloured r q) _ _ (colours-kept block red r q is of)
    (by_arms Form (is_red q.kind) _ _
    (λ red_kind. by_arms Form (is_checkpoint q.kind) _ _
    (λ asks. only_false Form (r.serial == 2 ^ 32) _ _ (serials asks)
    (answers _ (first_timer policy now) asks refl refl
    (record {
      old = filled-old r.cells q.offset q.body;
      here = filled-here r.cells q;
      handed = λ h. or_first r.handed_up _ h;
      listening = refl;
    }) refl refl))
    (λ plain. fills_only _ plain refl refl
    (record {
      old = filled-old r.cells q.offset q.body;
      here = filled-here r.cells q;
      handed = λ h. or_first r.handed_up _ h;
      listening = listening;
    }) refl refl))
    (λ green_kind. fills_only _ (green-plain q.kind green_kind) refl refl
    (record {
      old = λ i h. h;
      here = λ i h. absurd (green_none i green_kind h);
      handed = λ h. h;
      listening = listening;
    }) refl refl)))
  where
    Form : StepValue Receiving → Type 0
    Form = Takes r q

    by_red : (colour : Bool) → is_red q.kind ≡ colour
        → (colour && is_misplaced (reach_of r.cells) r.length (ends_red_part q.kind)
        (piece_stop q)) ≡ false
    by_red true red_kind = outside-not block red r q is red_kind of
    by_red false green_kind = refl

    green_none : (i : ℕ) → is_red q.kind ≡ false → has_cell i (a_piece q) ≡ true → ⊥
    green_none i green_kind has = by (is_red q.kind) green_kind has
      where
        by : (colour : Bool) → colour ≡ false
            → (colour && nat_le q.offset i && nat_lt i (q.offset + length q.body)) ≡ true → ⊥
        by true h has = cc
        by false h has = cc

-- ---- a piece comes

-- nothing is kept of it, or the session takes it
pub data Comes (place : Admission) (kept : Option Receiving) (q : PieceValue)
    (t : StepValue Receiving) : Type 0 where
  passes : t.next ≡ stays → t.out ≡ [] → kept ≡ None → (is_red q.kind ≡ false)
      ⊎ (place.closed ≡ true) → Comes place kept q t
  takes : (kept ≡ None → (place.closed ≡ false) × (is_red q.kind ≡ true))
      → Takes (met place.session kept) q t → Comes place kept q t

pub piece-comes : (block : List ℕ) (red : ℕ) (policy : PolicyValue) (place : Admission)
    (kept : Option Receiving) (q : PieceValue) (now : ℕ)
    → IfKept (IsReceiverOf block red) kept → IsPieceOf block red q → 1 ≤ length q.body
    → piece_stop q ≤ place.most → (kept ≡ None → place.closed ≡ false → is_red q.kind ≡ true
    → place.full ≡ false)
    → ((r : Receiving) → kept ≡ Some r → is_cancelling r.phase ≡ false)
    → ((met place.session kept).serial == 2 ^ 32) ≡ false
    → Comes place kept q (on_piece policy place kept q now)
piece-comes block red policy place kept q now is of some within roomy listening serials =
    only_false Form (not (q.service == 1)) _ _ (rw (eq-eqb q.service 1 of.service) refl)
    (only_false Form ((length q.body == 0) || nat_lt place.most (piece_stop q)) _ _
    (false-or _ _ (ne_eqb (length q.body) 0 (λ h. absurd (omega (arith, h, some))))
    (not-lt place.most (piece_stop q) within))
    (by_kept kept refl))
  where
    Form : StepValue Receiving → Type 0
    Form = Comes place kept q

    by_kept : (o : Option Receiving) → kept ≡ o
        → Comes place kept q (piece_for policy place o q now)
    by_kept None none =
        by_arms Form (not (is_red q.kind)) _ _
        (λ green_kind. passes refl refl none (inl (is_green (is_red q.kind) green_kind)))
        (λ red_kind. by_arms Form place.closed _ _ (λ closed. passes refl refl none (inr closed))
        (λ open_number. only_false Form place.full _ _
        (roomy none open_number (is_green_not (is_red q.kind) red_kind))
        (takes (λ h. (open_number, is_green_not (is_red q.kind) red_kind))
        (subst (λ o. Takes (met place.session o) q
        (piece_step policy (fresh place.session) q now)) (sym none)
        (piece-takes block red policy (fresh place.session) q now
        (fresh-is block red place.session) of refl
        (λ h. subst (λ o. ((met place.session o).serial == 2 ^ 32) ≡ false) none serials))))))
      where
        is_green : (b : Bool) → not b ≡ true → b ≡ false
        is_green true h = absurd (cc)
        is_green false h = refl

        is_green_not : (b : Bool) → not b ≡ false → b ≡ true
        is_green_not true h = refl
        is_green_not false h = absurd (cc)
    by_kept (Some r) some_kept =
        only_false Form (is_cancelling r.phase) _ _ (listening r some_kept)
        (takes (λ h. absurd (let no : None ≡ Some r = sym h ∙ some_kept in cc))
        (subst (λ o. Takes (met place.session o) q (piece_step policy r q now)) (sym some_kept)
        (piece-takes block red policy r q now
        (subst (IfKept (IsReceiverOf block red)) some_kept is) of (listening r some_kept)
        (λ h. subst (λ o. ((met place.session o).serial == 2 ^ 32) ≡ false) some_kept
        serials))))

-- ---- a report over cells that are all filled is one whole claim

take-all : {X : Type 0} (xs : List X) (n : ℕ) → length xs ≡ n → take n xs ≡ xs
take-all [] zero is = refl
take-all [] (suc n) is = absurd (omega (arith, is))
take-all (x ∷ xs) zero is = absurd (omega (arith, is))
take-all (x ∷ xs) (suc n) is = rw (take-all xs n (omega (arith, is))) refl

claims-whole : (red : ℕ) (cells : List (Option ℕ)) → 1 ≤ red → length cells ≡ red
    → AllByRecursion (λ c. is_some c ≡ true) cells
    → claims_from 0 cells ≡ record { offset = 0; length = red } ∷ []
claims-whole red [] some size all = absurd (omega (arith, size))
claims-whole red (None ∷ cells) some size all = absurd (let h = all.0 in cc)
claims-whole red (Some octet ∷ cells) some size all =
    one-claim 0 octet cells all.1 ∙ ap (λ (n : ℕ). record { offset = 0; length = n } ∷ []) size

pub report-whole : (red : ℕ) (r : Receiving) (q : PieceValue) → 1 ≤ red → r.length ≡ Some red
    → length r.cells ≤ red → AllFilled red r.cells
    → IsWhole red (report_of r q)
report-whole red r q some known reach all =
    subst (IsWhole red) (sym (report_of-with r q))
    (subst (λ (upper : ℕ). IsWhole red (report_with 1024 r.serial q.checkpoint upper
    (claims_from 0 (take upper r.cells))))
    (sym (ap (λ (o : Option ℕ). bound_of o (piece_stop q)) known))
    (subst (λ (cs : List Claim). IsWhole red (report_with 1024 r.serial q.checkpoint red cs))
    (sym whole) (record { claims = refl; lower = refl })))
  where
    size : length r.cells ≡ red
    size = omega (arith, reach, filled-reach red r.cells all)

    whole : claims_from 0 (take red r.cells) ≡ record { offset = 0; length = red } ∷ []
    whole = ap (claims_from 0) (take-all r.cells red size)
        ∙ claims-whole red r.cells some size (all-some r.cells
        (λ i low. all i (omega (arith, size, low))))

pub report_of-names : (r : Receiving) (q : PieceValue) → (report_of r q).checkpoint ≡ q.checkpoint
report_of-names r q = ap (λ (x : ReportValue). x.checkpoint) (report_of-with r q)
    ∙ names 1024 (bound_of r.length (piece_stop q)) _
  where
    names : (most upper : ℕ) (cs : List Claim)
        → (report_with most r.serial q.checkpoint upper cs).checkpoint ≡ q.checkpoint
    names most upper cs = both_arms (λ (x : ReportValue). x.checkpoint ≡ q.checkpoint)
        (nat_lt most (length cs)) _ _ refl refl
