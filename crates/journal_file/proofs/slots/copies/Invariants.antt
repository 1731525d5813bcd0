use Rattle.std.proofs.Common.{◌≡◌, take}
use Rattle.std.specs.List.{flat_map}
use Rattle.journal_file.specs.Rising.{held_in}
use Rattle.journal_file.proofs.slots.copies.Given as goal

abbrev pub invariant-copying : goal.invariant-copying
invariant-copying l = l.pending.items ≡ flat_map held_in (take l.slot-index l.slots)
