-- What the definitions keep: how many sessions there are, and which numbers are closed.

use Rattle.std.proofs.Common.{◌≡◌, ℕ, ◌+◌, ◌≤◌, Bool, true, false, ◌==◌, ◌&&◌, ◌||◌, nat_lt, nat_le, length, refl, sym, ◌∙◌, arith, subst, if◌then◌else◌}
use Rattle.std.specs.List.{AllByRecursion}
use Rattle.std.proofs.lemmas.Bool.{eqb-true, ne_eqb, eq-eqb}
use Rattle.std.proofs.lemmas.Bool.Decides.{nat_tests}
use Rattle.spans.specs.Places.{is_covered, with_covered, is_in}
use Rattle.spans.proofs.Places.{is_covered-with_covered}
use Rattle.ltp_segment.specs.declared.session.TheConstants.{BLOCK_MAX}
use Rattle.ltp_engine.specs.declared.closed.TheConstants.{LAST}
use Rattle.ltp_engine.specs.Values.{EngineValue}
use Rattle.ltp_engine.specs.Bounds.{IsSound, IsBounded, SendsAtMost, ReceivesAtMost}
use Rattle.ltp_engine.specs.Closed.{ClosedValue, is_among, also_closed}

-- closing a number closes it and no other
pub among-also : (n : ℕ) (c : ClosedValue) (m : ℕ) → n ≤ LAST → length c.places ≡ LAST → is_among (also_closed n c) m ≡ ((n == m) || is_among c m)
unfolding also_closed
among-also n c m most limit = by_last (n == LAST) refl where
  by_last : (last : Bool) → (n == LAST) ≡ last
      → (is_covered (if last then c.places else with_covered n (n + 1) c.places) m || ((c.last || last) && (m == LAST))) ≡ ((n == m) || is_among c m)
  by_last true is = by_same (m == LAST) refl where
    by_same : (same : Bool) → (m == LAST) ≡ same → (is_covered c.places m || ((c.last || true) && same)) ≡ ((n == m) || (is_covered c.places m || (c.last && same)))
    by_same true here = let h : n ≡ m = eqb-true n LAST is ∙ sym (eqb-true m LAST here) in rw (eq-eqb n m h) (ors (is_covered c.places m) c.last) where
      ors : (a b : Bool) → (a || ((b || true) && true)) ≡ true
      ors true b = refl
      ors false true = refl
      ors false false = refl
    by_same false here =
        let apart : (n == m) ≡ false = ne_eqb n m (λ h. absurd (other h)) in
        rw apart (ors (is_covered c.places m) c.last) where
          other : n ≡ m → ⊥
          other h = let same : (m == LAST) ≡ true = eq-eqb m LAST (sym h ∙ eqb-true n LAST is) in absurd (cc (same, here))

          ors : (a b : Bool) → (a || ((b || true) && false)) ≡ (a || (b && false))
          ors true b = refl
          ors false true = refl
          ors false false = refl
  by_last false is =
      let below : n + 1 ≤ length c.places = rw limit (next n LAST most is) in
      rw (is_covered-with_covered n (n + 1) c.places m (omega arith) below) (by_in (is_in n (n + 1) m) (n == m) (same_test m)) where
        next : (a b : ℕ) → a ≤ b → (a == b) ≡ false → a + 1 ≤ b
        next a b most is = grind (arith, nat_tests)

        same_test : (m : ℕ) → is_in n (n + 1) m ≡ (n == m)
        same_test m = by_eq (n == m) refl where
          by_eq : (same : Bool) → (n == m) ≡ same → (nat_le n m && nat_lt m (n + 1)) ≡ same
          by_eq true h = grind (arith, nat_tests)
          by_eq false h = grind (arith, nat_tests)

        by_in : (inside same : Bool) → inside ≡ same → ((is_covered c.places m || inside) || ((c.last || false) && (m == LAST))) ≡ (same || (is_covered c.places m || (c.last && (m == LAST))))
        by_in true true h = ors (is_covered c.places m) ((c.last || false) && (m == LAST)) (is_covered c.places m || (c.last && (m == LAST))) where
          ors : (a b d : Bool) → ((a || true) || b) ≡ (true || d)
          ors true b d = refl
          ors false b d = refl
        by_in false false h = ors (is_covered c.places m) c.last (m == LAST) where
          ors : (a b d : Bool) → ((a || false) || ((b || false) && d)) ≡ (false || (a || (b && d)))
          ors true b d = refl
          ors false true d = refl
          ors false false d = refl
        by_in true false h = absurd (cc)
        by_in false true h = absurd (cc)

-- the bounds are among what is kept
pub sound-bounded : (v : EngineValue) → v.party.most ≡ BLOCK_MAX → IsSound v → IsBounded v
sound-bounded v greatest sound = record {
  numbers = sound.numbers;
  senders = sound.senders;
  receivers = sound.inbound.receivers;
  history = sound.inbound.history;
  sent = subst (λ m. AllByRecursion (SendsAtMost m) v.senders) greatest sound.sent;
  received = subst (λ m. AllByRecursion (ReceivesAtMost m) v.inbound.receivers) greatest sound.received;
}
