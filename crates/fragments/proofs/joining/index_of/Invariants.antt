use Rattle.std.proofs.Common.{◌≡◌, ◌+◌, drop}
use Rattle.std.specs.List.{position_or_len}
use Rattle.fragments.specs.Joining.{is_named}
use Rattle.fragments.proofs.joining.index_of.Given as goal

abbrev pub invariant-looking : goal.invariant-looking
invariant-looking l =
    position_or_len (is_named l.shared) l.joins ≡ l.at + position_or_len (is_named l.shared) (drop l.at l.joins)
