-- A field of a bundle of version 7 that is under way, and what is left of the table after it.

use Rattle.std.specs.Prelude.{◌≡◌, ℕ, ◌&&◌, Bool, nat_le, if◌then◌else◌, List, Option, Some, None, Err}
use Rattle.endpoint.specs.declared.extent.Fragment.{Fragment}
use Rattle.wire_fields.specs.Format.{Format, give, ◌>>=◌}
use Rattle.wire_fields.specs.Refusal.{truncated}
use Rattle.wire_fields.specs.Reading.{read}
use Rattle.wire_fields.specs.Words.{exact_octet}
use Rattle.bundle7.specs.declared.fault.Cause7.{Cause7}
use Rattle.bundle7.specs.declared.fault.Cause7.TheVariants.{Break}
use Rattle.bundle7.specs.declared.seen.Seen.{Seen}
use Rattle.bundle7.specs.declared.pass.Front.{Front}
use Rattle.bundle7.specs.Table.{is_single, body_field}
use Rattle.bundle7.specs.Judging.{judged_front, judged_body, judged_check, judged_end, judged_blocks, judged_bundle}
use Rattle.bundle7.specs.Passing.{blocks_left, judged_on}
use Rattle.bundle_judges.specs.declared.sum7.Sum.{Sum}
use Rattle.bundle_judges.specs.declared.stand7.Small.{Small}
use Rattle.bundle_judges.specs.declared.stand7.Small.TheVariants.{Block, Item, Check, Octets, End}
use Rattle.bundle_judges.specs.declared.stand7.Stage.{Stage}
use Rattle.bundle_judges.specs.declared.stand7.Stage.TheVariants.{Primary, Field, Body}
use Rattle.bundle_judges.specs.Sum7.{check_head, check_octets}

-- A field of few octets: what a block has before its body, a body of one item, the head of a check, the
-- octets of a check, or the mark that ends the bundle.
unfoldable pub small_field : Option Fragment → Seen → Small → Format Cause7 (Option Front)
small_field part seen Block = judged_front part (blocks_left 64 seen) seen >>= (λ front. give (Some front))
small_field part seen (Item front sum) = body_field front.lead.kind front.size >>= (λ body. give None)
small_field part seen (Check lead sum) = check_head sum >>= (λ head. give None)
small_field part seen (Octets lead sum) = check_octets sum >>= (λ octets. give None)
small_field part seen End = exact_octet 0xFF Break >>= (λ end. give None)

-- how many octets it has at most
abbrev pub most_octets : Small → ℕ
most_octets Block = 54
most_octets (Item front sum) = front.size
most_octets (Check lead sum) = 9
most_octets (Octets lead sum) = 4
most_octets End = 1

-- a body is kept until it is there: it is to be one item, and not longer than one can be
abbrev pub is_kept : Front → Bool
is_kept front = is_single front.lead.kind && nat_le front.size 1050

-- the body that stands next
abbrev pub body_stage : Front → Sum → Stage
body_stage front sum = if is_kept front then Field (Item front sum) else Body front sum

-- what is left of the table at a stage; the block that is under way began at a place
unfoldable pub left_for : Option Fragment → Seen → ℕ → Stage → Format Cause7 (Unit {0})
left_for part seen start Primary = judged_bundle 64
left_for part seen start (Field Block) = judged_blocks part (blocks_left 64 seen) seen
left_for part seen start (Field (Item front sum)) =
    judged_body front start >>= judged_on part (blocks_left 64 seen) seen
left_for part seen start (Field (Check lead sum)) =
    judged_check lead start >>= judged_on part (blocks_left 64 seen) seen
left_for part seen start (Field (Octets lead sum)) =
    (check_octets sum >>= (λ octets. give lead)) >>= judged_on part (blocks_left 64 seen) seen
left_for part seen start (Field End) = judged_end
left_for part seen start (Body front sum) =
    judged_body front start >>= judged_on part (blocks_left 64 seen) seen

-- the octets end inside fields that they begin
abbrev pub IsCut : {A : Type 0} → Format Cause7 A → List ℕ → Type 0
IsCut f text = (at : ℕ) × (read f text 0 ≡ Err (at, truncated))
