-- What the last line of an output says of a refusal: `refused line LINE [PLACE] CAUSE`, or
-- `refused BUNDLE PLACE CAUSE`. Other lines say none, and those of bundles without a place neither.
use Rattle.std.specs.Prelude.{ℕ, ◌-◌, ◌^◌, is_some, List, codes, Option, None, if◌then◌else◌}
use Rattle.std.specs.Option.{option_map}
use Rattle.replay_script.specs.Events.{number_in}
use Rattle.console.specs.declared.refusal.Spot.{Spot}
use Rattle.console.specs.declared.refusal.Spot.TheVariants.{Line, Place}
use Rattle.console.specs.Looks.{begins, first_word, after_word}

-- a number that a line writes
abbrev pub number_of : ℕ → List ℕ → Option ℕ
number_of least words = number_in least (2 ^ 64 - 1) (first_word words)

-- the cause, after the place where there is one
abbrev pub without_place : List ℕ → List ℕ
without_place words = if is_some (number_of 0 words) then after_word words else words

-- the words after `refused line`, and after `refused BUNDLE`
abbrev pub line_said : List ℕ → Option (Spot × List ℕ)
line_said words = option_map (λ number. (Line number, without_place (after_word words))) (number_of 1 words)

abbrev pub place_said : List ℕ → Option (Spot × List ℕ)
place_said words = option_map (λ place. (Place place, after_word words)) (number_of 0 words)

-- where something was refused, and the cause
abbrev pub refusal_said : List ℕ → Option (Spot × List ℕ)
refusal_said line =
    if begins line (codes "refused line ") then line_said (after_word (after_word line))
    else if begins line (codes "refused ") then place_said (after_word (after_word line))
    else None
