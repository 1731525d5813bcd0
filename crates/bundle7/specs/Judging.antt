-- The table of a bundle without its values: it keeps what later fields look at. It is read to the same
-- places as the table, and refused alike.
use Rattle.std.specs.Prelude.{ℕ, zero, suc, ◌==◌, [], Option}
use Rattle.endpoint.specs.declared.extent.Fragment.{Fragment}
use Rattle.wire_fields.specs.Format.{Format, give, place, ◌>>=◌}
use Rattle.wire_fields.specs.Words.{exact_octet, choice}
use Rattle.bundle7.specs.declared.fault.Cause7.{Cause7}
use Rattle.bundle7.specs.declared.fault.Cause7.TheVariants.{Start, Break}
use Rattle.bundle7.specs.declared.block.Lead.{Lead}
use Rattle.bundle7.specs.declared.seen.Seen.{Seen}
use Rattle.bundle7.specs.declared.pass.Front.{Front}
use Rattle.bundle7.specs.Check.{crc_field}
use Rattle.bundle7.specs.Table.{primary, lead, size_field, body_field}
use Rattle.bundle7.specs.Seen.{seen_with}

-- the mark that opens the outer array and the primary block: where the payload lies in the whole
unfoldable pub judged_start : Format Cause7 (Option Fragment)
judged_start = do
  start ← exact_octet 0x9F Start
  main ← primary
  give main.fragment

-- ---- blocks

-- what a block has before the octets of its body
unfoldable pub judged_front : Option Fragment → ℕ → Seen → Format Cause7 Front
judged_front part left seen = do
  front ← lead left seen
  size ← size_field part front.kind
  give (record { lead = front; size = size })

-- the check of a block that began at a place
abbrev pub judged_check : Lead → ℕ → Format Cause7 Lead
judged_check front start = do
  check ← crc_field front.crc start
  give front

-- the body and the check
abbrev pub judged_body : Front → ℕ → Format Cause7 Lead
judged_body front start = do
  body ← body_field front.lead.kind front.size
  judged_check front.lead start

abbrev pub judged_block : Option Fragment → ℕ → Seen → Format Cause7 Lead
judged_block part left seen = do
  start ← place
  front ← judged_front part left seen
  judged_body front start

-- the mark that ends the outer array
abbrev pub judged_end : Format Cause7 (Unit {0})
judged_end = do
  end ← exact_octet 0xFF Break
  give tt

-- After those that were seen, the blocks of which at most so many are extension blocks, and the mark.
abbrev pub judged_blocks : Option Fragment → ℕ → Seen → Format Cause7 (Unit {0})
judged_blocks part zero seen = judged_block part 0 seen >>= (λ front. judged_end)
judged_blocks part (suc left) seen =
    judged_block part (suc left) seen >>= (λ front.
    choice (front.kind == 1) judged_end (judged_blocks part left (seen_with seen front.kind front.number)))

-- ---- the bundle

abbrev pub none_seen : Seen
none_seen = record { kinds = []; numbers = [] }

unfoldable pub judged_bundle : ℕ → Format Cause7 (Unit {0})
judged_bundle most = do
  part ← judged_start
  judged_blocks part most none_seen
