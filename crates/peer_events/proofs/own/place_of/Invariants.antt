use Rattle.std.proofs.Common.{◌≡◌, false, take}
use Rattle.std.specs.List.{list_any}
use Rattle.peer_events.specs.Own.{is_of}
use Rattle.peer_events.proofs.own.place_of.Given as goal

abbrev pub invariant-looking : goal.invariant-looking
invariant-looking l = list_any (is_of l.face l.session) (take l.place l.own) ≡ false
