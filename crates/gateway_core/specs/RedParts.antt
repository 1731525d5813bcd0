-- What a gate hands up at each face, whoever is at the other ends (RFC 5326, section 6.9).

use Rattle.std.specs.Prelude.{◌≡◌, ℕ, ◌↔◌, List, [], ◌∷◌, ◌++◌}
use Rattle.ltp_session.specs.RedPart.{BecomesWhole}
use Rattle.ltp_session.specs.Engine.{UpValue}
use Rattle.ltp_engine.specs.RedParts.{engine_after, pieces_of, EachOnce}
use Rattle.ltp_laws.specs.View.{IsIn}
use Rattle.gate_cases.specs.declared.face.Face.{Face}
use Rattle.gateway_core.specs.declared.effects.FaceUp.{FaceUp}
use Rattle.gateway_core.specs.Gate.{GateSetup, GateEvent, at_face, if_same, gate_with, gate_after}
use Rattle.gateway_core.specs.Comings.{comings_at}

-- the red parts that are handed up with an event
abbrev pub ups_with_event : GateSetup → List GateEvent → GateEvent → List FaceUp
ups_with_event s earlier event = (gate_with s (gate_after s earlier) event).effects.ups

-- those of a face
unfoldable pub ups_on : Face → List FaceUp → List UpValue
ups_on at [] = []
ups_on at (up ∷ ups) =
    if_same up.face at (record { session = up.session; body = up.body } ∷ ups_on at ups)
    (ups_on at ups)

-- all that a face handed up with some events, the newest first
unfoldable pub face_ups : GateSetup → Face → List GateEvent → List UpValue
face_ups s at [] = []
face_ups s at (event ∷ earlier) = ups_on at (ups_with_event s earlier event) ++ face_ups s at earlier

-- ---- the laws

-- each face's engine is what comes to it makes of one at its beginning
abbrev pub AreEngines : Type 0
AreEngines =
    (s : GateSetup) (at : Face) (events : List GateEvent)
    → at_face (gate_after s events).engines at
    ≡ engine_after (at_face s.parties at) (comings_at s at events)

-- a session's red part is handed up at a face with the event that makes it whole, and with no other:
-- place by place the first octet that came
abbrev pub HandsUpRedParts : Type 0
HandsUpRedParts =
    (s : GateSetup) (at : Face) (n : ℕ) (earlier : List GateEvent) (event : GateEvent)
    (body : List ℕ)
    → IsIn (record { session = n; body = body }) (ups_on at (ups_with_event s earlier event))
    ↔ BecomesWhole (pieces_of (at_face s.parties at) n (comings_at s at earlier))
    (pieces_of (at_face s.parties at) n (comings_at s at (event ∷ earlier))) body

-- no session's red part is handed up twice at a face
abbrev pub HandsUpEachOnce : Type 0
HandsUpEachOnce =
    (s : GateSetup) (at : Face) (events : List GateEvent) → EachOnce (face_ups s at events)
