-- All steps into octets that are there.

use Rattle.std.proofs.Common.{◌≡◌, ℕ, ◌+◌, ◌*◌, ◌<◌, ◌≤◌, List, length, drop, refl, sym, ap, ◌∙◌, arith}
use Rattle.std.proofs.lemmas.List.{length-drop, drop-drop}
use Rattle.bundle7.specs.declared.fault.Fail7.{Fail7}
use Rattle.bundle7.specs.declared.fault.Fail7.TheVariants.{Refused, Memory}
use Rattle.bundle_judges.specs.declared.stand7.Stage.TheVariants.{Primary}
use Rattle.bundle_judges.specs.declared.stand7.Stand.{Stand}
use Rattle.bundle_judges.specs.Stand7.{IsAt, Fails7, Moves, Stays, Ends, steps_left}

-- of the octets that were there these are left
pub record SoFar (text : List ℕ) (start now : Stand) (rest : List ℕ) : Type 0 where
  pub stands : IsAt text now
  pub left : rest ≡ drop now.came text
  pub later : start.came ≤ now.came
  pub before : now.before ≡ start.before
  pub stage : now.stage ≡ Primary → (start.stage ≡ Primary) × (start.came ≡ 0 → now.came ≡ 0)

pub so_far-start : (text : List ℕ) (s : Stand) (rest : List ℕ) → IsAt text s → rest ≡ drop s.came text → SoFar text s s rest
so_far-start text s rest stands is = record {
  stands = stands;
  left = is;
  later = omega arith;
  before = refl;
  stage = λ same. (same, λ none. none);
}

pub so_far-more : (text : List ℕ) (start now later : Stand) (rest : List ℕ) (n : ℕ) → SoFar text start now rest → Moves text now n later
    → SoFar text start later (drop n rest)
so_far-more text start now later rest n so_far moves = record {
  stands = moves.stands;
  left = ap (drop n) so_far.left ∙ drop-drop n now.came text ∙ ap (λ k. drop k text) (sym moves.came);
  later = omega (arith, so_far.later, moves.came);
  before = moves.before ∙ so_far.before;
  stage = λ is.
      let first = moves.stage is in
      let second = so_far.stage first.0 in
      (second.0, λ none. absurd (omega (arith, second.1 none, first.1)));
}

-- a step takes no more than there is, and fewer can follow
pub step-within : (text : List ℕ) (now later : Stand) (rest : List ℕ) (n : ℕ) → IsAt text now → rest ≡ drop now.came text → Moves text now n later
    → (n ≤ length rest) × (4 * length (drop n rest) + steps_left later.stage < 4 * length rest + steps_left now.stage)
step-within text now later rest n stands is moves =
    let long = ap length is ∙ length-drop now.came text in
    let within : n ≤ length rest = omega (arith, long, moves.came, moves.stands.within, stands.within) in
    (within, omega (arith, within, length-drop n rest, moves.fewer))

pub so_far-end : (text : List ℕ) (start now new : Stand) (rest : List ℕ) → SoFar text start now rest → Stays text now new → Stays text start new
so_far-end text start now new rest so_far stays = record { come = stays.come; before = stays.before ∙ so_far.before }

pub so_far-ended : (text : List ℕ) (start now new : Stand) (rest : List ℕ) (end : ℕ) → SoFar text start now rest → Ends text now end new
    → Ends text start end new
so_far-ended text start now new rest end so_far ends = record {
  ended = ends.ended;
  late = omega (arith, ends.late, so_far.later);
  before = ends.before ∙ so_far.before;
}

pub so_far-fails : (text : List ℕ) (start now : Stand) (rest : List ℕ) (fail : Fail7) → SoFar text start now rest → Fails7 text now fail
    → Fails7 text start fail
so_far-fails text start now rest (Refused at cause) so_far fails = fails
so_far-fails text start now rest Memory so_far fails =
    let first = so_far.stage fails.0 in (first.0, λ none. fails.1 (first.1 none))
