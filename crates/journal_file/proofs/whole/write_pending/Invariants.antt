use Rattle.std.proofs.Common.{◌≡◌, ◌++◌, take}
use Rattle.std.specs.List.{flat_map}
use Rattle.journal_file.specs.Ties.{begun_entry}
use Rattle.journal_file.proofs.whole.write_pending.Given as goal

abbrev pub invariant-pending : goal.invariant-pending
invariant-pending l = l.out.items ≡ l.initial.out.items ++ flat_map begun_entry (take l.one-index l.pending)
