use Rattle.std.proofs.Common.{◌≡◌, ◌+◌, drop}
use Rattle.std.specs.List.{position_or_len}
use Rattle.journal_file.specs.Keeping.{is_of}
use Rattle.journal_file.proofs.kept.place_at.Given as goal

abbrev pub invariant-looking : goal.invariant-looking
invariant-looking l =
    position_or_len (is_of l.face) l.marks ≡ l.at + position_or_len (is_of l.face) (drop l.at l.marks)
