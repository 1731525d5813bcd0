-- Ranges that are passed over.

use Rattle.std.proofs.Common.{◌≡◌, ℕ, ◌+◌, ◌<◌, Bool, true, false, List, [], ◌∷◌, length, drop, Option, None, Some, nat_lt, nat_le, refl, sym, ◌∙◌, arith}
use Rattle.std.specs.Prelude.{◌↔◌, if◌then◌else◌}
use Rattle.std.proofs.lemmas.Bool.{and_parts, and_from, ltb-true, ltb-false, leb-true, le-leb}
use Rattle.spans.specs.declared.range.Run.{Run}
use Rattle.spans.specs.Places.{is_in}
use Rattle.spans.specs.Runs.{AreApart, HasAll, FirstHasAll, FirstReaches}
use Rattle.spans.proofs.Apart.{AreApart-lower}
use Rattle.spans.proofs.Covering.{is_in-false, HasAll-first, FirstHasAll-all}
use Rattle.std.specs.Iterator.{YieldsFirst}
use Rattle.ltp_sender.specs.Ranges.{from_here, ends_before, reaching, first_has, Forgets}

-- the first range, where it ends before the place, is passed over
pub reaching-advance : (place : ℕ) (runs : List Run) → ends_before place runs ≡ true
    → reaching place (drop 1 runs) ≡ reaching place runs
unfolding reaching
reaching-advance place [] ends = refl
reaching-advance place (run ∷ runs) ends = rw ends refl

pub reaching-done : (place : ℕ) (runs : List Run) → ends_before place runs ≡ false
    → reaching place runs ≡ runs
unfolding reaching
reaching-done place [] ends = refl
reaching-done place (run ∷ runs) ends = rw ends refl

reaching-forgets-by : (place : ℕ) (run : Run) (runs : List Run) (b : Bool) → nat_lt run.to place ≡ b
    → Forgets place runs (reaching place runs) → Forgets place (run ∷ runs) (if b then reaching place runs else run ∷ runs)
reaching-forgets-by place run runs true ends rest k low =
    let out : is_in run.from run.to k ≡ false = is_in-false run.from run.to k (λ from to. let before = ltb-true run.to place ends in omega (arith, before, low, to)) in
    rw out (rest k low)
reaching-forgets-by place run runs false ends rest k low = refl

pub reaching-forgets : (place : ℕ) (runs : List Run) → Forgets place runs (reaching place runs)
unfolding reaching
reaching-forgets place [] k low = refl
reaching-forgets place (run ∷ runs) k low =
    reaching-forgets-by place run runs (nat_lt run.to place) refl (λ k low. reaching-forgets place runs k low) k low

reaching-reaches-by : (place : ℕ) (run : Run) (runs : List Run) (b : Bool) → nat_lt run.to place ≡ b → FirstReaches place (reaching place runs)
    → FirstReaches place (if b then reaching place runs else run ∷ runs)
reaching-reaches-by place run runs true ends rest = rest
reaching-reaches-by place run runs false ends rest = ltb-false run.to place ends

pub reaching-reaches : (place : ℕ) (runs : List Run) → FirstReaches place (reaching place runs)
unfolding reaching
reaching-reaches place [] = tt
reaching-reaches place (run ∷ runs) = reaching-reaches-by place run runs (nat_lt run.to place) refl (reaching-reaches place runs)

-- what the first range has
pub first_has-true : (from to : ℕ) (runs : List Run) → first_has from to runs ≡ true → FirstHasAll from to runs
first_has-true from to [] has = absurd (cc)
first_has-true from to (run ∷ runs) has =
    let both = and_parts (nat_le run.from from) (nat_le to run.to) has in
    (leb-true run.from from both.0, leb-true to run.to both.1)

pub first_has-from : (from to : ℕ) (runs : List Run) → FirstHasAll from to runs → first_has from to runs ≡ true
first_has-from from to [] has = absurd has
first_has-from from to (run ∷ runs) has =
    and_from (nat_le run.from from) (nat_le to run.to) (le-leb run.from from has.0) (le-leb to run.to has.1)

-- the ranges have some places where the first one that reaches them has
pub has-reaching : (from to : ℕ) (runs : List Run) → from < to → AreApart 0 (reaching from runs)
    → (first_has from to (reaching from runs) ≡ true) ↔ HasAll from to runs
has-reaching from to runs some apart = (
  λ has. λ k low high.
      sym (reaching-forgets from runs k low)
      ∙ HasAll-first from to [] (reaching from runs) (first_has-true from to (reaching from runs) has) k low high,
  λ all. first_has-from from to (reaching from runs)
      (FirstHasAll-all from to [] (reaching from runs) some apart tt (reaching-reaches from runs)
      (λ k low high. reaching-forgets from runs k low ∙ all k low high)),
)

-- ---- the next range

pub ends_before-some : (place : ℕ) (runs : List Run) → ends_before place runs ≡ true → 0 < length runs
ends_before-some place [] ends = absurd (cc)
ends_before-some place (run ∷ runs) ends = omega arith

pub from_here-next : (old : List Run) (next : Option Run) (later : List Run) → YieldsFirst (λ r. r) old next later
    → from_here next later ≡ old
from_here-next old None later yields = sym yields.0
from_here-next old (Some run) later yields = sym yields

pub from_here-drop : (here : Option Run) (later : List Run) → 0 < length (from_here here later) → later ≡ drop 1 (from_here here later)
from_here-drop None later some = absurd (omega (arith, some))
from_here-drop (Some run) later some = refl

pub AreApart-drop : (runs : List Run) → AreApart 0 runs → AreApart 0 (drop 1 runs)
AreApart-drop [] apart = tt
AreApart-drop (run ∷ runs) apart = AreApart-lower (run.to + 1) 0 runs (omega arith) apart.2
