-- A field of a bundle of version 6 that is under way, and what is left of the table after it.

use Rattle.std.specs.Prelude.{◌≡◌, ℕ, ◌+◌, ◌-◌, ◌==◌, List, Option, Err}
use Rattle.endpoint.specs.declared.extent.Fragment.{Fragment}
use Rattle.wire_fields.specs.Format.{Format, give, ◌>>=◌}
use Rattle.wire_fields.specs.Refusal.{truncated}
use Rattle.wire_fields.specs.Reading.{read}
use Rattle.wire_fields.specs.Words.{any_octets, choice}
use Rattle.bundle6.specs.declared.fault.Cause6.{Cause6}
use Rattle.bundle6.specs.declared.fault.Cause6.TheVariants.{Truncated}
use Rattle.bundle6.specs.declared.block.Seen.{Seen}
use Rattle.bundle6.specs.declared.pass.Stage.TheVariants as stages
use Rattle.bundle6.specs.Seen.{how_many, Follows}
use Rattle.bundle6.specs.Table.{size_field}
use Rattle.bundle6.specs.Judging.{judged_name, judged_head, judged_bundle}
use Rattle.bundle6.specs.Passing.{judged_on, left_at}
use Rattle.bundle_judges.specs.declared.stand6.Small.{Small}
use Rattle.bundle_judges.specs.declared.stand6.Small.TheVariants.{Block, References}
use Rattle.bundle_judges.specs.declared.stand6.Stage.{Stage}
use Rattle.bundle_judges.specs.declared.stand6.Stage.TheVariants.{Primary, Field, Body}

-- A field of few octets, and what stands after it: the head of a block, a reference, or where none is
-- left the length of the block's octets.
unfoldable pub small_field : Option Fragment → List ℕ → Seen → Small → Format Cause6 (Seen × Stage)
small_field part dictionary seen Block = do
  h ← judged_head 64 seen
  give (h.seen, Field (References h.count h.payload h.last))
small_field part dictionary seen (References left payload last) =
    choice (left == 0)
    (size_field part payload >>= (λ size. give (seen, Body size last)))
    (judged_name dictionary >>= (λ name. give (seen, Field (References (left - 1) payload last))))

-- so many octets of a block
abbrev pub octets_field : ℕ → Format Cause6 (Unit {0})
octets_field size = any_octets size Truncated >>= (λ body. give tt)

-- what is left of the table at a stage
unfoldable pub left_for : Option Fragment → List ℕ → Seen → Stage → Format Cause6 Seen
left_for part dictionary seen Primary = judged_bundle 64
left_for part dictionary seen (Field Block) = left_at 64 part dictionary seen stages.Block
left_for part dictionary seen (Field (References left payload last)) =
    left_at 64 part dictionary seen (stages.References left payload last)
left_for part dictionary seen (Body size last) =
    (octets_field size >>= (λ body. give (seen, last))) >>= judged_on (64 + 1 - how_many seen) 64 part dictionary

-- the octets end inside fields that they begin
abbrev pub IsCut : {A : Type 0} → Format Cause6 A → List ℕ → Type 0
IsCut f text = (at : ℕ) × (read f text 0 ≡ Err (at, truncated))

-- the blocks so far after a field: one more after the head of a block
abbrev pub Counts : Small → Seen → Seen → Type 0
Counts Block seen next = Follows 64 seen next
Counts (References left payload last) seen next = next ≡ seen
