-- The laws of room on a path, all together.

use Rattle.path_drain.proofs.CaseNotes.{path-notes}
use Rattle.path_drain.proofs.RoomLaws.{room-kept}
use Rattle.path_drain.proofs.RoomOwed.{room-starts}
use Rattle.path_drain.proofs.RunFacts.{nodes-red}
use Rattle.path_drain.specs.Completion.{PathEventsAreFew, PathRunsComplete, PathRunsEnd}
use Rattle.path_drain.proofs.CompletionLemmas.{RoomLaws, path-completes, path-ends, path-few}

room-laws : RoomLaws
room-laws =
    record { starts = room-starts; reds = nodes-red; kept = room-kept; cases = path-notes }

pub events-few : PathEventsAreFew
events-few = path-few room-laws

pub runs-complete : PathRunsComplete
runs-complete = path-completes room-laws

pub runs-end : PathRunsEnd
runs-end = path-ends room-laws
