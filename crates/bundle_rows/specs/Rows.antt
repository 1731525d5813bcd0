-- The row of bundles that octets are: read one after the other, as long as there are octets.

use Rattle.std.specs.Prelude.{◌≡◌, ℕ, zero, suc, ◌+◌, ◌-◌, ◌<◌, ◌≤◌, ◌==◌, if◌then◌else◌, List, [], ◌∷◌, length, take, drop, Option, Some, None, Result, Ok, Err}
use Rattle.wire_fields.specs.Refusal.{Stop}
use Rattle.wire_fields.specs.Reading.{read}
use Rattle.bundle6.specs.declared.fault.Cause6.{Cause6}
use Rattle.bundle6.specs.declared.bundle.Bundle6.{Bundle6}
use Rattle.bundle6.specs.Table as table6
use Rattle.bundle7.specs.declared.fault.Cause7.{Cause7}
use Rattle.bundle7.specs.declared.bundle.Bundle7.{Bundle7}
use Rattle.bundle7.specs.Table as table7
use Rattle.gate_cases.specs.declared.cause.BadCause.{BadCause}
use Rattle.gate_cases.specs.declared.cause.BadCause.TheVariants.{Six, Seven}
use Rattle.gate_cases.specs.declared.face.Face.{Face}
use Rattle.gate_cases.specs.declared.face.Face.TheVariants.{Old, New}
use Rattle.gate_cases.specs.Blocks.{cause6_of, cause7_of}
use Rattle.bundle_rows.specs.declared.next.Next.{Next}
use Rattle.bundle_rows.specs.declared.next.Next.TheVariants as nexts
use Rattle.bundle_rows.specs.declared.next.End.{End}

-- ---- the front of some octets

-- a bundle of so many octets, or a place where a field isn't as it should be, and why
pub data Front : Type 0 where
  bundle : ℕ → Front
  wrong : ℕ → BadCause → Front

abbrev pub front6 : Result (Bundle6 × ℕ) (ℕ × Stop Cause6) → Front
front6 (Ok x) = bundle x.1
front6 (Err stop) = wrong stop.0 (Six (cause6_of stop.1))

abbrev pub front7 : Result (Bundle7 × ℕ) (ℕ × Stop Cause7) → Front
front7 (Ok x) = bundle x.1
front7 (Err stop) = wrong stop.0 (Seven (cause7_of stop.1))

-- what the table of the face's version reads, with at most 64 blocks beside the payload
unfoldable pub front_of : Face → List ℕ → Front
front_of Old octets = front6 (read (table6.bundle 64) octets 0)
front_of New octets = front7 (read (table7.bundle 64) octets 0)

-- ---- what stands at a place of a block

-- places count from the block's start
abbrev pub next_from : ℕ → Front → Next
next_from at (bundle size) = nexts.Bundle (at + size)
next_from at (wrong place cause) = nexts.End (at + place) cause

unfoldable pub next_of : Face → List ℕ → ℕ → Next
next_of face block at =
    if at == length block then nexts.Nothing else next_from at (front_of face (drop at block))

-- ---- the row

-- where a bundle stands: from a place to before another
pub record Extent : Type 0 where
  pub from : ℕ
  pub to : ℕ

-- the octets from there to there
abbrev pub octets_in : List ℕ → Extent → List ℕ
octets_in block extent = take (extent.to - extent.from) (drop extent.from block)

pub record Row : Type 0 where
  pub bundles : List Extent
  pub end : Option End

abbrev pub no_row : Row
no_row = record { bundles = []; end = None }

abbrev pub with_bundle : Extent → Row → Row
with_bundle extent row = record { bundles = extent ∷ row.bundles; end = row.end }

-- what stands at a place, and after a bundle the row that goes on there
abbrev pub row_with : ℕ → Next → (ℕ → Row) → Row
row_with at nexts.Nothing rest = no_row
row_with at (nexts.Bundle to) rest = with_bundle (record { from = at; to = to }) (rest to)
row_with at (nexts.End place cause) rest = record { bundles = []; end = Some (record { at = place; cause = cause }) }

-- from a place on at most so many bundles
unfoldable pub row_from : ℕ → Face → List ℕ → ℕ → Row
row_from zero face block at = no_row
row_from (suc more) face block at = row_with at (next_of face block at) (row_from more face block)

-- a bundle has an octet, so there are no more of them than octets
abbrev pub row_of : Face → List ℕ → Row
row_of face block = row_from (length block) face block 0

-- ---- where the next stands

-- a bundle ends after where it begins, and all places are in the block
abbrev pub IsInBlock : ℕ → ℕ → Next → Type 0
IsInBlock size at nexts.Nothing = at ≡ size
IsInBlock size at (nexts.Bundle to) = (at < to) × (to ≤ size)
IsInBlock size at (nexts.End place cause) = (at < size) × (at ≤ place) × (place ≤ size)
