-- A pass that goes on where it stood: what is left of the table.

use Rattle.std.specs.Prelude.{◌≡◌, ℕ, ◌+◌, ◌-◌, ◌*◌, ◌^◌, ◌≤◌, Bool, true, false, List, length, take, drop, Option, Some, None, Result, Ok, Err}
use Rattle.endpoint.specs.declared.extent.Fragment.{Fragment}
use Rattle.wire_fields.specs.Format.{Format, give, ◌>>=◌}
use Rattle.wire_fields.specs.Reading.{read}
use Rattle.wire_fields.specs.Gives.{Continues}
use Rattle.wire_fields.specs.Words.{choice}
use Rattle.bundle6.specs.declared.fault.Cause6.{Cause6}
use Rattle.bundle6.specs.declared.fault.Refused6.{Refused6}
use Rattle.bundle6.specs.declared.block.Seen.{Seen}
use Rattle.bundle6.specs.declared.pass.Texts.{Texts}
use Rattle.bundle6.specs.declared.pass.Stage.{Stage}
use Rattle.bundle6.specs.declared.pass.Stage.TheVariants as stages
use Rattle.bundle6.specs.declared.pass.Pass.{Pass}
use Rattle.bundle6.specs.Cause.{stop_of}
use Rattle.bundle6.specs.Seen.{how_many}
use Rattle.bundle6.specs.Judging.{judged_tail, judged_blocks, judged_bundle}

-- the octets of the dictionary, which lies in the text
abbrev pub texts_in : Texts → List ℕ → List ℕ
texts_in texts text = take (texts.to - texts.from) (drop texts.from text)

-- after a block: nothing, or the other blocks, of which so many may follow
abbrev pub judged_on : ℕ → ℕ → Option Fragment → List ℕ → Seen × Bool → Format Cause6 Seen
judged_on left most part dictionary t =
    choice t.1 (give t.0) (judged_blocks left most part dictionary t.0)

-- what is left at a stage
abbrev pub left_at : ℕ → Option Fragment → List ℕ → Seen → Stage → Format Cause6 Seen
left_at most part dictionary seen stages.Primary = judged_bundle most
left_at most part dictionary seen stages.Block =
    judged_blocks (most + 1 - how_many seen) most part dictionary seen
left_at most part dictionary seen (stages.References left payload last) =
    judged_tail left part dictionary payload last seen
    >>= judged_on (most + 1 - how_many seen) most part dictionary
left_at most part dictionary seen stages.Ended = give seen

-- what is left after a pass over the text
abbrev pub left_of : ℕ → List ℕ → Pass → Format Cause6 Seen
left_of most text pass = left_at most pass.part (texts_in pass.texts text) pass.seen pass.stage

-- what stands after a block: nothing, after the last
abbrev pub next_stage : Bool → Stage
next_stage true = stages.Ended
next_stage false = stages.Block

-- the places of a pass lie in the text
pub record Fits (most : ℕ) (text : List ℕ) (pass : Pass) : Type 0 where
  pub place : pass.at ≤ length text
  pub few : pass.seen.others ≤ most
  pub order : pass.texts.from ≤ pass.texts.to
  pub inside : pass.texts.to ≤ length text

-- what is left is all of the bundle that is still to be read
abbrev pub Stands : ℕ → List ℕ → Pass → Type 0
Stands most text pass = Continues (judged_bundle most) 0 (left_of most text pass) pass.at text

-- One step from a stage: what is left goes on from the next; or it is refused, which may be that the
-- octets end.
abbrev pub Steps : ℕ → List ℕ → Pass → Stage → Result Pass Refused6 → Type 0
Steps most text pass stage (Ok next) =
    Continues (left_at most pass.part (texts_in pass.texts text) pass.seen stage) pass.at
    (left_of most text next) next.at text
Steps most text pass stage (Err e) =
    read (left_at most pass.part (texts_in pass.texts text) pass.seen stage) text pass.at
    ≡ Err (stop_of e)

-- how many more steps there can be
abbrev pub steps_left : ℕ → Seen → Stage → ℕ
steps_left most seen stages.Primary = (most + 3) * 2 ^ 65
steps_left most seen stages.Block = (most + 2 - how_many seen) * 2 ^ 65
steps_left most seen (stages.References left payload last) =
    (most + 2 - how_many seen) * 2 ^ 65 + 1 + left
steps_left most seen stages.Ended = 0

-- where a pass ended or stopped, with the refusal
abbrev pub Comes : ℕ → List ℕ → Pass → Option Refused6 → Type 0
Comes most text pass None = pass.stage ≡ stages.Ended
Comes most text pass (Some e) = read (judged_bundle most) text 0 ≡ Err (stop_of e)
