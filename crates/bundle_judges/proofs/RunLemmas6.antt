-- All steps into octets that are there.

use Rattle.std.proofs.Common.{◌≡◌, ℕ, ◌<◌, ◌≤◌, List, length, drop, refl, sym, ap, ◌∙◌, arith}
use Rattle.std.proofs.lemmas.List.{length-drop, drop-drop}
use Rattle.bundle6.specs.declared.fault.Fail6.{Fail6}
use Rattle.bundle6.specs.declared.fault.Fail6.TheVariants.{Refused, Memory}
use Rattle.bundle_judges.specs.declared.stand6.Stage.TheVariants.{Primary}
use Rattle.bundle_judges.specs.declared.stand6.Stand.{Stand}
use Rattle.bundle_judges.specs.Stand6.{IsAt, HasCome, Fails6, Moves, Ends}

-- of the octets that were there these are left
pub record SoFar (text : List ℕ) (start now : Stand) (rest : List ℕ) : Type 0 where
  pub stands : IsAt text now
  pub left : rest ≡ drop now.came text
  pub later : start.came ≤ now.came
  pub before : now.before ≡ start.before
  pub stage : now.stage ≡ Primary → start.stage ≡ Primary

pub so_far-start : (text : List ℕ) (s : Stand) (rest : List ℕ) → IsAt text s → rest ≡ drop s.came text → SoFar text s s rest
so_far-start text s rest stands is = record {
  stands = stands;
  left = is;
  later = omega arith;
  before = refl;
  stage = λ same. same;
}

pub so_far-more : (text : List ℕ) (start now later : Stand) (rest : List ℕ) (n : ℕ) → SoFar text start now rest → Moves text now n later
    → SoFar text start later (drop n rest)
so_far-more text start now later rest n so_far moves = record {
  stands = moves.stands;
  left = ap (drop n) so_far.left ∙ drop-drop n now.came text ∙ ap (λ k. drop k text) (sym moves.came);
  later = omega (arith, so_far.later, moves.came);
  before = moves.before ∙ so_far.before;
  stage = λ is. so_far.stage (moves.stage is);
}

-- a step takes no more than there is
pub step-within : (text : List ℕ) (now later : Stand) (rest : List ℕ) (n : ℕ) → IsAt text now → rest ≡ drop now.came text → Moves text now n later
    → (0 < n) × (n ≤ length rest)
step-within text now later rest n stands is moves =
    let long = ap length is ∙ length-drop now.came text in
    (moves.some, omega (arith, long, moves.came, moves.stands.within, stands.within))

pub so_far-end : (text : List ℕ) (start now : Stand) (rest : List ℕ) → SoFar text start now rest → length rest ≡ 0
    → HasCome text now × (now.before ≡ start.before)
so_far-end text start now rest so_far none =
    let long = ap length so_far.left ∙ length-drop now.came text in
    (record { stands = so_far.stands; all = omega (arith, long, none, so_far.stands.within) }, so_far.before)

pub so_far-ended : (text : List ℕ) (start now new : Stand) (rest : List ℕ) (end : ℕ) → SoFar text start now rest → Ends text now end new
    → Ends text start end new
so_far-ended text start now new rest end so_far ends = record {
  ended = ends.ended;
  late = omega (arith, ends.late, so_far.later);
  before = ends.before ∙ so_far.before;
}

pub so_far-fails : (text : List ℕ) (start now : Stand) (rest : List ℕ) (fail : Fail6) → SoFar text start now rest → Fails6 text now fail
    → Fails6 text start fail
so_far-fails text start now rest (Refused at cause) so_far fails = fails
so_far-fails text start now rest Memory so_far fails = so_far.stage fails
