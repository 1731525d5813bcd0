use Rattle.std.proofs.Common.{◌≡◌, ◌++◌, take}
use Rattle.std.specs.List.{flat_map}
use Rattle.journal_file.specs.Ties.{entry_of}
use Rattle.journal_file.proofs.writing.write_entries.Given as goal

abbrev pub invariant-entries : goal.invariant-entries
invariant-entries l = l.out.items ≡ l.initial.out.items ++ flat_map entry_of (take l.said-index l.records)
