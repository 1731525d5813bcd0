use Rattle.std.proofs.Common.{◌≡◌, ◌++◌, take}
use Rattle.std.specs.List.{flat_map}
use Rattle.journal_file.specs.Ties.{mark_entry}
use Rattle.journal_file.proofs.whole.write_marks.Given as goal

abbrev pub invariant-marks : goal.invariant-marks
invariant-marks l = l.out.items ≡ l.initial.out.items ++ flat_map mark_entry (take l.mark-index l.marks)
