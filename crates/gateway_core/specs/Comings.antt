-- What comes to the engine of each face with what happens to a gate: datagrams, the blocks that the
-- gate itself submits there, and moments.

use Rattle.std.specs.Prelude.{ℕ, List, [], ◌∷◌, length, Option, None, Some}
use Rattle.std.specs.Prelude.{if◌then◌else◌}
use Rattle.ltp_session.specs.Engine.{UpValue}
use Rattle.ltp_engine.specs.RedParts.{Coming, a_block_comes, a_datagram_comes, a_moment_comes}
use Rattle.gate_cases.specs.declared.face.Face.{Face}
use Rattle.gate_cases.specs.declared.judged.Judged.{Judged}
use Rattle.gate_cases.specs.declared.report.AskedReport.{AskedReport}
use Rattle.gate_cases.specs.Faces.{other_of}
use Rattle.gate_cases.specs.Bundles.{status_bundle}
use Rattle.gateway_core.specs.Gate.{Gate, GateSetup, GateEvent, a_datagram_at, a_moment_at_both}
use Rattle.gateway_core.specs.Gate.{gate_after, does_at, hears_at, in_turn, sends_at, judged_at}
use Rattle.gateway_core.specs.Gate.{if_same, passes_at, is_unreported}

-- ---- what comes to the engine of a face, after what came before; the newest first

-- blocks that are submitted, all of them red
unfoldable pub blocks_come : ℕ → List (List ℕ) → List Coming → List Coming
blocks_come now [] earlier = earlier
blocks_come now (block ∷ blocks) earlier =
    blocks_come now blocks (a_block_comes block (length block) now ∷ earlier)

-- a report, where one is made
unfoldable pub report_comes :
    GateSetup → Face → ℕ → Option AskedReport → Gate → List Coming → List Coming
report_comes s face now None g earlier = earlier
report_comes s face now (Some asked) g earlier =
    if is_unreported face now g then earlier
    else
    blocks_come now (status_bundle s.gate g.counter now asked ∷ []) earlier

-- with what is decided about a block: the report to the face at which the block came, and the pieces
-- to the other one
abbrev pub decision_comes :
    GateSetup → Face → ℕ → Judged → Gate → Face → List Coming → List Coming
decision_comes s face now j g at earlier =
    if_same face at
    (report_comes s face now j.report (in_turn (sends_at s (other_of face) now) j.pieces g).gate
    earlier)
    (blocks_come now j.pieces earlier)

-- with blocks that came whole at a face, one after the other
unfoldable pub passages_come :
    GateSetup → Face → ℕ → List UpValue → Gate → Face → List Coming → List Coming
passages_come s face now [] g at earlier = earlier
passages_come s face now (up ∷ ups) g at earlier =
    passages_come s face now ups (passes_at s face now up g).gate at
    (decision_comes s face now (judged_at s face now up.body g) g at earlier)

-- with an event
unfoldable pub event_comes : GateSetup → Gate → GateEvent → Face → List Coming → List Coming
event_comes s g (a_datagram_at face read now) at earlier =
    passages_come s face now (hears_at s face g read now).effects.ups
    (does_at face g (hears_at s face g read now)).gate at
    (if_same face at (a_datagram_comes read now ∷ earlier) earlier)
event_comes s g (a_moment_at_both now) at earlier = a_moment_comes now ∷ earlier

-- all that came to a face with some events
unfoldable pub comings_at : GateSetup → Face → List GateEvent → List Coming
comings_at s at [] = []
comings_at s at (event ∷ earlier) =
    event_comes s (gate_after s earlier) event at (comings_at s at earlier)
