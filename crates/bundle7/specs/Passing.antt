-- A pass that goes on where it stood: what is left of the table, and the sum of a block's octets.
use Rattle.std.specs.Prelude.{◌≡◌, ℕ, zero, suc, ◌+◌, ◌-◌, ◌*◌, ◌≤◌, ◌==◌, false, List, length, take, drop, Option, Some, None, Result, Ok, Err}
use Rattle.crc_fields.specs.Crc.{take_text}
use Rattle.endpoint.specs.declared.extent.Fragment.{Fragment}
use Rattle.wire_fields.specs.Format.{Format, give, ◌>>=◌}
use Rattle.wire_fields.specs.Reading.{read}
use Rattle.wire_fields.specs.Gives.{Continues}
use Rattle.wire_fields.specs.Words.{choice}
use Rattle.bundle7.specs.declared.fault.Cause7.{Cause7}
use Rattle.bundle7.specs.declared.fault.Refused7.{Refused7}
use Rattle.bundle7.specs.declared.block.Lead.{Lead}
use Rattle.bundle7.specs.declared.seen.Seen.{Seen}
use Rattle.bundle7.specs.declared.check.Sum.{Sum}
use Rattle.bundle7.specs.declared.pass.Stage.{Stage}
use Rattle.bundle7.specs.declared.pass.Stage.TheVariants as stages
use Rattle.bundle7.specs.declared.pass.Pass.{Pass}
use Rattle.bundle7.specs.Cause.{stop_of}
use Rattle.bundle7.specs.Seen.{seen_with}
use Rattle.bundle7.specs.Judging.{judged_body, judged_check, judged_end, judged_blocks, judged_bundle}

-- ---- the sum of a block's octets

-- the octets of a text between two places
abbrev pub between : ℕ → ℕ → List ℕ → List ℕ
between from to text = take (to - from) (drop from text)

-- the register of a check of the type has run over the octets from one place to the other
pub record Sums (text : List ℕ) (sum : Sum) : Type 0 where
  pub order : sum.from ≤ sum.to
  pub within : sum.to ≤ length text
  pub sixteen : sum.crc ≡ 1 → sum.short ≡ take_text 0x8408 0xFFFF (between sum.from sum.to text)
  pub thirty_two : (sum.crc == 0) ≡ false → (sum.crc == 1) ≡ false
      → sum.long ≡ take_text 0x82F63B78 0xFFFFFFFF (between sum.from sum.to text)

-- ---- what is left

-- how many extension blocks may still stand
abbrev pub blocks_left : ℕ → Seen → ℕ
blocks_left most seen = most - length seen.kinds

-- what is left after a block before which so many could stand
abbrev pub judged_on : Option Fragment → ℕ → Seen → Lead → Format Cause7 (Unit {0})
judged_on part zero seen front = judged_end
judged_on part (suc left) seen front =
    choice (front.kind == 1) judged_end (judged_blocks part left (seen_with seen front.kind front.number))

-- what is left at a stage
abbrev pub left_at : ℕ → Option Fragment → Seen → Stage → Format Cause7 (Unit {0})
left_at most part seen stages.Primary = judged_bundle most
left_at most part seen stages.Block = judged_blocks part (blocks_left most seen) seen
left_at most part seen (stages.Body front sum) =
    judged_body front sum.from >>= judged_on part (blocks_left most seen) seen
left_at most part seen (stages.Check lead sum) =
    judged_check lead sum.from >>= judged_on part (blocks_left most seen) seen
left_at most part seen stages.Break = judged_end
left_at most part seen stages.Ended = give tt

-- what is left after a pass
abbrev pub left_of : ℕ → Pass → Format Cause7 (Unit {0})
left_of most pass = left_at most pass.part pass.seen pass.stage

-- the sum of the block that was begun, at a place
abbrev pub IsSummed : List ℕ → ℕ → Stage → Type 0
IsSummed text at (stages.Body front sum) =
    Sums text sum × (sum.crc ≡ front.lead.crc) × (at ≤ sum.to) × (sum.to ≤ at + front.size)
IsSummed text at (stages.Check lead sum) = Sums text sum × (sum.crc ≡ lead.crc) × (sum.to ≡ at)
IsSummed text at stage = Unit {0}

-- the places of a pass lie in the text
pub record Fits (most : ℕ) (text : List ℕ) (pass : Pass) : Type 0 where
  pub place : pass.at ≤ length text
  pub few : length pass.seen.kinds ≤ most
  pub each : length pass.seen.numbers ≡ length pass.seen.kinds
  pub summed : IsSummed text pass.at pass.stage

-- what is left is all of the bundle that is still to be read
abbrev pub Stands : ℕ → List ℕ → Pass → Type 0
Stands most text pass = Continues (judged_bundle most) 0 (left_of most pass) pass.at text

-- One step from a stage: what is left goes on from the next; or it is refused, which may be that the
-- octets end, and the pass stays.
abbrev pub Steps : ℕ → List ℕ → Pass → Result (Unit {0}) Refused7 → Pass → Type 0
Steps most text old (Ok x) new = Continues (left_of most old) old.at (left_of most new) new.at text
Steps most text old (Err e) new = (new ≡ old) × (read (left_of most old) text old.at ≡ Err (stop_of e))

-- how many more steps there can be
abbrev pub steps_at : ℕ → ℕ → Stage → ℕ
steps_at most left stages.Primary = 3 * most + 5
steps_at most left stages.Block = 3 * left + 4
steps_at most left (stages.Body front sum) = 3 * left + 3
steps_at most left (stages.Check lead sum) = 3 * left + 2
steps_at most left stages.Break = 1
steps_at most left stages.Ended = 0

abbrev pub steps_left : ℕ → Pass → ℕ
steps_left most pass = steps_at most (blocks_left most pass.seen) pass.stage

-- where a pass ended or stopped, with the refusal
abbrev pub Comes : ℕ → List ℕ → Pass → Option Refused7 → Type 0
Comes most text pass None = pass.stage ≡ stages.Ended
Comes most text pass (Some e) = read (judged_bundle most) text 0 ≡ Err (stop_of e)

-- a pass that has yet to begin stands for all octets
abbrev pub IsFresh : Pass → Type 0
IsFresh pass = (text : List ℕ) → Fits 64 text pass × Stands 64 text pass
