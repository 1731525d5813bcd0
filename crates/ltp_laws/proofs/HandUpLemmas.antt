-- A red part is handed up if and only if its length is known and all of it is filled.

use Rattle.std.proofs.Common.{◌≡◌, ℕ, zero, suc, ◌≤◌, Bool, true, false, ◌==◌, ◌||◌, List, [], ◌∷◌}
use Rattle.std.proofs.Common.{length, Option, None, Some, is_some, ◌⊎◌, inl, inr, refl, sym, ◌∙◌}
use Rattle.std.proofs.Common.{ap, arith, subst, ⊎_elim, if◌then◌else◌}
use Rattle.std.proofs.lemmas.Bool.{eqb-true, eq-eqb, cases_lt}
use Rattle.ltp_segment.specs.Values.{PieceValue, ContentValue, a_piece, a_sender_cancel_ack}
use Rattle.ltp_session.specs.Cells.{cell, filled, all_octets, length_after, whole_part}
use Rattle.ltp_session.specs.Receiver.{piece_stop, Receiving, fresh, with_red, with_handed_up}
use Rattle.ltp_session.specs.Receiver.{receiver_tick}
use Rattle.ltp_session.specs.Step.{StepValue, Change, after, stays, keeps, ends}
use Rattle.ltp_laws.specs.Blocks.{IfKnown, IsPieceOf, IsContentOf, IsReceiverOf, BlockFacts}
use Rattle.ltp_laws.specs.HandUps.{AllFilled, HasHandedUp, HandUpFacts}
use Rattle.ltp_laws.specs.Kept.{IsClosedOr, IfKept, IfKeeps}
use Rattle.ltp_laws.specs.Runs.{KeepsUnder}
use Rattle.ltp_laws.specs.Steps.{ReceiverStep, idle, over, turns, again, fills, reports_on}
use Rattle.ltp_laws.specs.View.{View, closed_after, IsIn}
use Rattle.cells.specs.Cells.{or_else}
use Rattle.cells.proofs.CellLemmas.{cell-filled, all_octets-length, all_octets-cell}
use Rattle.cells.proofs.CellLemmas.{all_octets-some}
use Rattle.ltp_laws.proofs.ReceiverLemmas.{with_red-is, fresh-is}
use Rattle.ltp_laws.proofs.SerialLemmas.{all-among}
use Rattle.ltp_laws.proofs.StepLemmas.{met, hears-form, tick-form}
use Rattle.ltp_segment.specs.Kinds.{ends_red_part}

cell-past : (cells : List (Option ℕ)) (k : ℕ) → length cells ≤ k → cell cells k ≡ None
cell-past [] k past = refl
cell-past (c ∷ cells) zero past = absurd (omega arith)
cell-past (c ∷ cells) (suc k) past = cell-past cells k (omega arith)

-- where all below the bound is filled, no cell is missing
pub filled-reach : (red : ℕ) (cells : List (Option ℕ)) → AllFilled red cells → red ≤ length cells
filled-reach red cells all =
    ⊎_elim (λ low. absurd (let some = all (length cells) low in
    let none = cell-past cells (length cells) (omega arith) in cc)) (λ high. high)
    (cases_lt (length cells) red)

pub whole-where : (red : ℕ) (cells : List (Option ℕ)) (known : Option ℕ) → IfKnown red known
    → is_some (whole_part cells known) ≡ true
    → (known ≡ Some red) × AllFilled red cells
whole-where red cells None bound is = absurd (cc)
whole-where red cells (Some end) bound is =
    (ap (λ (n : ℕ). Some n) bound, by_test (end == length cells) refl is)
  where
    by_octets : end ≡ length cells → (o : Option (List ℕ)) → all_octets cells ≡ o
        → is_some o ≡ true → AllFilled red cells
    by_octets size None octets is k low = absurd (cc)
    by_octets size (Some body) octets is k low =
        let long = all_octets-length cells body octets in
        rw (all_octets-cell cells body octets k (omega (arith, low, bound, size, long))) refl

    by_test : (all : Bool) → (end == length cells) ≡ all
        → is_some (if all then all_octets cells else None) ≡ true → AllFilled red cells
    by_test true same is = by_octets (eqb-true end (length cells) same) (all_octets cells) refl is
    by_test false same is = absurd (cc)

pub whole-once : (red : ℕ) (cells : List (Option ℕ)) → length cells ≤ red → AllFilled red cells
    → is_some (whole_part cells (Some red)) ≡ true
whole-once red cells reach all =
    let far = filled-reach red cells all in
    rw (eq-eqb red (length cells) (omega (arith, reach, far))) (all_octets-some cells
    (λ k low. all k (omega (arith, low, reach))))

still_some : {X : Type 0} (first second : Option X) → is_some first ≡ true
    → is_some (or_else first second) ≡ true
still_some None second is = absurd (cc)
still_some (Some x) second is = refl

pub still-filled : (red : ℕ) (cells : List (Option ℕ)) (offset : ℕ) (body : List ℕ)
    → AllFilled red cells → AllFilled red (filled cells offset body)
still-filled red cells offset body all k low =
    rw (cell-filled cells offset body k) (still_some (cell cells k) _ (all k low))

pub still-known : (red : ℕ) (known : Option ℕ) (q : PieceValue) → known ≡ Some red
    → length_after known (ends_red_part q.kind) (piece_stop q) ≡ Some red
still-known red None q is = absurd (cc)
still-known red (Some end) q is = is

-- a red piece was taken
took-whole : (block : List ℕ) (red : ℕ) (r r' : Receiving) (q : PieceValue)
    → IsReceiverOf block red (with_red r q) → HasHandedUp red r
    → r'.cells ≡ filled r.cells q.offset q.body → r'.length ≡ length_after r.length
    (ends_red_part q.kind) (piece_stop q)
    → r'.handed_up ≡ (with_handed_up (with_red r q)).handed_up → HasHandedUp red r'
took-whole block red r r' q is whole cells known handed = by_handed r.handed_up refl handed
  where
    by_handed : (was : Bool) → r.handed_up ≡ was
        → r'.handed_up ≡ (was || is_some (if was then None else whole_part
        (filled r.cells q.offset q.body) (length_after r.length (ends_red_part q.kind)
        (piece_stop q)))) → HasHandedUp red r'
    by_handed true was now = record {
      only = λ _.
          let before = whole.only was in (
            known ∙ still-known red r.length q before.0,
            subst (AllFilled red) (sym cells)
                (still-filled red r.cells q.offset q.body before.1),
          );
      there = λ _ _. now;
    }
    by_handed false was now = record {
      only = λ done.
          let here = whole-where red (filled r.cells q.offset q.body) (length_after r.length
          (ends_red_part q.kind) (piece_stop q)) is.known (sym now ∙ done) in
          (known ∙ here.0, subst (AllFilled red) (sym cells) here.1);
      there = λ knows all.
          let some = whole-once red (filled r.cells q.offset q.body) is.reach
          (subst (AllFilled red) cells all) in
          now ∙ subst (λ k. is_some (whole_part (filled r.cells q.offset q.body) k) ≡ true)
          (sym knows ∙ known) some;
    }

fresh-whole : (red session : ℕ) → HasHandedUp red (fresh session)
fresh-whole red session = record { only = λ done. absurd (cc); there = λ knows all. absurd (cc) }

same-whole : (red : ℕ) (r r' : Receiving) → HasHandedUp red r → r'.cells ≡ r.cells
    → r'.length ≡ r.length → r'.handed_up ≡ r.handed_up → HasHandedUp red r'
same-whole red r r' whole cells known handed = record {
  only = λ done. let before = whole.only (sym handed ∙ done) in
      (known ∙ before.0, subst (AllFilled red) (sym cells) before.1);
  there = λ knows all. handed ∙ whole.there (sym known ∙ knows) (subst (AllFilled red) cells all);
}

step-whole : (block : List ℕ) (red : ℕ) (content : ContentValue) (r : Receiving)
    (t : StepValue Receiving) → ((q : PieceValue) → content ≡ a_piece q → IsPieceOf block red q)
    → IsReceiverOf block red r → HasHandedUp red r → ReceiverStep content r t
    → IfKeeps (HasHandedUp red) t.next
step-whole block red content r t heard is whole (idle next none) =
    subst (IfKeeps (HasHandedUp red)) (sym next) tt
step-whole block red content r t heard is whole (over next none) =
    subst (IfKeeps (HasHandedUp red)) (sym next) tt
step-whole block red content r t heard is whole (turns r' next turned none) =
    subst (IfKeeps (HasHandedUp red)) (sym next)
    (same-whole red r r' whole turned.cells turned.known turned.handed)
step-whole block red content r t heard is whole (again p timer pending next out) =
    subst (IfKeeps (HasHandedUp red)) (sym next) (same-whole red r _ whole refl refl refl)
step-whole block red content r t heard is whole (fills q r' is_piece red_kind next filling none) =
    subst (IfKeeps (HasHandedUp red)) (sym next)
    (took-whole block red r r' q (with_red-is block red r q is (heard q is_piece) red_kind) whole
    filling.cells filling.known filling.handed)
step-whole block red content r t heard is whole (reports_on q r' is_piece red_kind checkpoint next
    reporting out) =
    subst (IfKeeps (HasHandedUp red)) (sym next)
    (took-whole block red r r' q (with_red-is block red r q is (heard q is_piece) red_kind) whole
    reporting.cells reporting.known reporting.handed)

-- ---- a fact of receivers

pub kept-on : {S : Type 0} (P : S → Type 0) (c : Change S) (kept : Option S) → IfKept P kept
    → IfKeeps P c → IfKept P (after c kept)
kept-on P stays kept is change = is
kept-on P (keeps s) kept is change = change
kept-on P ends kept is change = tt

pub met-kept : (P : Receiving → Type 0) (session : ℕ) (kept : Option Receiving) → P (fresh session)
    → IfKept P kept → P (met session kept)
met-kept P session None new is = new
met-kept P session (Some r) new is = is

pub heard-piece : (block : List ℕ) (red : ℕ) (v : View) (content : ContentValue)
    → BlockFacts block red v → IsIn content v.by_sender
    → (q : PieceValue) → content ≡ a_piece q → IsPieceOf block red q
heard-piece block red v content facts among q is =
    all-among (IsContentOf block red) (a_piece q) v.by_sender facts.said
    (subst (λ c. IsIn c v.by_sender) is among)

-- what is gone stays gone
pub gone-on : (P : Receiving → Type 0) (closed : Bool) (t : StepValue Receiving)
    (kept : Option Receiving) → (kept ≡ None → (t.next ≡ stays) ⊎ (closed ≡ false))
    → ((r : Receiving) → kept ≡ Some r → P r → IfKeeps P t.next) → IsClosedOr P kept closed
    → (c : Change Receiving) → t.next ≡ c → IsClosedOr P (after c kept) (closed_after c closed)
gone-on P closed t kept opens still gone stays next = gone
gone-on P closed t None opens still gone (keeps r) next = absurd (shut (opens refl))
  where
    shut : (t.next ≡ stays) ⊎ (closed ≡ false) → ⊥
    shut (inl same) = let h : keeps r ≡ stays = sym next ∙ same in cc
    shut (inr open_number) = cc
gone-on P closed t (Some s) opens still gone (keeps r) next =
    subst (IfKeeps P) next (still s refl gone)
gone-on P closed t kept opens still gone ends next = refl

pub or_open : {A : Type 0} (a b : Bool) → a ≡ b → A ⊎ (a ≡ false) → A ⊎ (b ≡ false)
or_open a b same (inl left) = inl left
or_open a b same (inr right) = inr (sym same ∙ right)

pub handed-keep : KeepsUnder BlockFacts HandUpFacts
handed-keep = record {
  begins = λ policy n block red now v cuts within unused _.
      record { handed = subst (IfKept (HasHandedUp red)) (sym unused.receiver) tt };
  sender = λ block red policy v content now t among hears f f' facts.
      record { handed = facts.handed };
  receiver = λ block red policy place v content now t closed among hears f f' facts. record {
    handed = kept-on (HasHandedUp red) t.next v.receiver facts.handed
        (step-whole block red content (met place.session v.receiver) t
        (heard-piece block red v content f among)
        (met-kept (IsReceiverOf block red) place.session v.receiver
        (fresh-is block red place.session) f.receiver)
        (met-kept (HasHandedUp red) place.session v.receiver
        (fresh-whole red place.session) facts.handed)
        (hears-form policy place v.receiver content now t hears).form);
  };
  sender_tick = λ block red policy now v s is f f' facts. record { handed = facts.handed };
  receiver_tick = λ block red policy now v r is f f' facts. record {
    handed = kept-on (HasHandedUp red) (receiver_tick policy r now).next v.receiver facts.handed
        (step-whole block red a_sender_cancel_ack r _ (λ q h. absurd (cc))
        (subst (IfKept (IsReceiverOf block red)) is f.receiver)
        (subst (IfKept (HasHandedUp red)) is facts.handed)
        (tick-form a_sender_cancel_ack policy now r));
  };
  evicted = λ block red v r is f f' facts. record { handed = tt };
}
