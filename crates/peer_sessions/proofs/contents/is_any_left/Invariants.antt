use Rattle.std.proofs.Common.{◌≡◌, drop}
use Rattle.std.specs.List.{list_any}
use Rattle.peer_sessions.specs.Contents.{is_left}
use Rattle.peer_sessions.proofs.contents.is_any_left.Given as goal

abbrev pub invariant-notes : goal.invariant-notes
invariant-notes l = list_any is_left (drop l.note-index l.notes) ≡ list_any is_left l.notes
