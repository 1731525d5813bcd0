use Rattle.std.proofs.Common.{◌≡◌, ◌+◌, ◌≤◌, drop}
use Rattle.journal_file.specs.Keeping.{marks_of}
use Rattle.journal_file.proofs.kept.count_of.Given as goal

abbrev pub invariant-counting : goal.invariant-counting
invariant-counting l = record {
  sum : marks_of l.face l.marks ≡ l.count + marks_of l.face (drop l.mark-index l.marks);
  bound : l.count ≤ l.mark-index;
}
