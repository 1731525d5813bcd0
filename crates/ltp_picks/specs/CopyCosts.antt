-- What an old segment that comes once more costs by the session that it is of.

use Rattle.std.specs.List.{slice_get}
use Rattle.std.specs.Prelude.{ℕ, ◌+◌, ◌≤◌, ◌==◌, List, [], ◌∷◌, Option, None, Some}
use Rattle.std.specs.Prelude.{if◌then◌else◌}
use Rattle.ltp_segment.specs.Policy.{PolicyValue}
use Rattle.ltp_session.specs.Engine.{Party}
use Rattle.ltp_session.specs.Sender.{Sending}
use Rattle.ltp_session.specs.World.{End, Sent, World, at_end, first_end, second_end}
use Rattle.ltp_laws.specs.View.{view}
use Rattle.ltp_drain.specs.Completion.{IsReady}
use Rattle.ltp_drain.specs.Hopeful.{cost, segment_count}
use Rattle.ltp_picks.specs.Picks.{Crossing, Pick, Turn, after_pick, crosses_at, old_copy, oldest_of}
use Rattle.ltp_picks.specs.Picks.{pick_turn}
use Rattle.ltp_picks.specs.PickedRuns.{IsCopiedRun}

-- the segments of a block whose sender is kept
abbrev pub kept_segments : PolicyValue → Option Sending → ℕ
kept_segments policy None = 0
kept_segments policy (Some s) = segment_count policy s

-- the end that sends the sessions of an originator
abbrev pub end_of : Party × Party → ℕ → End
end_of parties originator = if originator == parties.0.own then first_end else second_end

-- the segments of session n of an end, where its sender is kept in w
abbrev pub session_segments : Party × Party → World → End → ℕ → ℕ
session_segments parties w o n =
    kept_segments (at_end parties o).policy (view parties w o n).sender

-- a segment costs as many events as its session has segments in w, and 8
abbrev pub segment_cost : Party × Party → World → Option Sent → ℕ
segment_cost parties w None = 8
segment_cost parties w (Some d) =
    session_segments parties w (end_of parties d.segment.originator) d.segment.session + 8

abbrev pub copy_cost : Party × Party → World → Crossing → Pick → Option Turn → ℕ
copy_cost parties w d (oldest_of from) turn = 0
copy_cost parties w d (old_copy k) None = 0
copy_cost parties w d (old_copy k) (Some t) = segment_cost parties w (slice_get d.world.sent k)

-- what all old segments cost that come once more by these picks
unfoldable pub copies_cost : Party × Party → World → Crossing → List Pick → ℕ
copies_cost parties w d [] = 0
copies_cost parties w d (pick ∷ picks) =
    copy_cost parties w d pick (pick_turn d pick)
    + copies_cost parties w (after_pick parties d (pick_turn d pick)) picks

-- the events are no more than the sessions cost, and what the old segments do
abbrev pub CopiesCostTheirSessions : Type 0
CopiesCostTheirSessions =
    (parties : Party × Party) (w : World) (picks : List Pick) (n : ℕ) (v : World)
    → IsReady parties w → IsCopiedRun parties w picks n v
    → n ≤ cost parties w v + copies_cost parties w (crosses_at w) picks
