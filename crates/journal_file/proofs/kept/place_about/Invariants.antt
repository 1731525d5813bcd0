use Rattle.std.proofs.Common.{◌≡◌, ◌+◌, drop}
use Rattle.std.specs.List.{position_or_len}
use Rattle.journal_file.specs.Keeping.{is_about}
use Rattle.journal_file.proofs.kept.place_about.Given as goal

abbrev pub invariant-looking : goal.invariant-looking
invariant-looking l =
    position_or_len (is_about l.face l.session) l.marks ≡ l.at + position_or_len (is_about l.face l.session) (drop l.at l.marks)
