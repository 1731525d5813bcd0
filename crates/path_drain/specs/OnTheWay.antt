-- What a gate will begin, by what is on its way to it: the pieces of each block that comes to one
-- face, at the other; and a report on it, at the face itself.

use Rattle.std.specs.Prelude.{ℕ, ◌+◌, Bool, false, not, List, [], ◌∷◌, length, Option, None, Some}
use Rattle.std.specs.Prelude.{is_some, if◌then◌else◌}
use Rattle.translate.specs.Refusals.{first_that_holds}
use Rattle.gate_cases.specs.declared.face.Face.{Face}
use Rattle.gate_cases.specs.Faces.{other_of}
use Rattle.gate_cases.specs.Blocks.{Found, one, bad, found_at}
use Rattle.gate_cases.specs.Passage.{pieces_on}
use Rattle.gateway_core.specs.Gate.{at_face}
use Rattle.ltp_session.specs.Engine.{Engine}
use Rattle.ltp_session.specs.Receiver.{Receiving}
use Rattle.ltp_session.specs.Sender.{Sending}
use Rattle.ltp_session.specs.Table.{find}
use Rattle.path_laws.specs.Path.{Path, PathSetup, at_path_end}
use Rattle.path_laws.specs.Places.{end_of}

-- ---- the engines of a face's link

-- the node's
abbrev pub node_at : Path → Face → Engine
node_at w face = at_path_end w.nodes (end_of face)

-- the gate's
abbrev pub gate_at : Path → Face → Engine
gate_at w face = at_face w.gate.engines face

-- ---- pieces

-- none, where what came isn't exactly one bundle, or isn't translated; a bundle that would have to
-- be cut, and must not be, is one piece
abbrev pub pieces_found : ℕ → Found → ℕ
pieces_found cut (bad at cause) = 0
pieces_found cut (one arrival) =
    if is_some (first_that_holds arrival.refusals) then 0 else length (pieces_on arrival.full cut)

-- how many pieces, with so many octets of payload each, a block is that comes to a face
unfoldable pub piece_count : Face → ℕ → List ℕ → ℕ
piece_count face cut block = pieces_found cut (found_at face block)

-- there is a report on each block
abbrev pub report_count : List ℕ → ℕ
report_count block = 1

-- ---- sessions on their way

abbrev pub is_handed_up : Option Receiving → Bool
is_handed_up None = false
is_handed_up (Some r) = r.handed_up

-- session n hasn't been handed up by an engine that keeps these receivers
abbrev pub is_on_its_way : List (ℕ × Receiving) → ℕ → Bool
is_on_its_way receivers n = not (is_handed_up (find n receivers))

-- the sum of a number of each block, over the sessions of these senders that are on their way
unfoldable pub sum_on_way :
    (List ℕ → ℕ) → List (ℕ × Receiving) → List (ℕ × Sending) → ℕ
sum_on_way count receivers [] = 0
sum_on_way count receivers (entry ∷ entries) =
    (if is_on_its_way receivers entry.0 then count entry.1.block else 0)
    + sum_on_way count receivers entries

-- ---- what a face will begin

-- the pieces of all sessions that are on their way to a face
abbrev pub pieces_coming : PathSetup → Path → Face → ℕ
pieces_coming s w face =
    sum_on_way (piece_count face s.gate.cut) (gate_at w face).receivers (node_at w face).senders

-- the reports on them
abbrev pub reports_coming : PathSetup → Path → Face → ℕ
reports_coming s w face =
    sum_on_way report_count (gate_at w face).receivers (node_at w face).senders

-- at most so many sessions will a face begin: the pieces of what comes to the other face, and the
-- reports on what comes to it
abbrev pub will_begin : PathSetup → Path → Face → ℕ
will_begin s w face = pieces_coming s w (other_of face) + reports_coming s w face
