-- What is passed on from a face is what its own events make whole.

use Rattle.std.proofs.Common.{◌≡◌, ℕ, ◌↔◌, List, [], ◌∷◌, refl, sym, ◌∙◌, ap, subst}
use Rattle.ltp_session.specs.Engine.{UpValue}
use Rattle.ltp_session.specs.RedPart.{RedPiece, BecomesWhole}
use Rattle.ltp_laws.specs.View.{IsIn}
use Rattle.gate_cases.specs.declared.face.Face.{Face}
use Rattle.gate_cases.specs.declared.face.Face.TheVariants.{Old, New}
use Rattle.gateway_core.specs.Gate.{if_same, at_face}
use Rattle.peer_sessions.specs.Sessions.{Sessions, hears}
use Rattle.peer_sessions.specs.Runs as faces
use Rattle.peer_once.specs.Runs as once
use Rattle.peer_once.specs.Runs.{TimedEvent, sessions_in, ups_with}
use Rattle.peer_once.specs.Pieces.{pieces_of, HandsUpRedParts}
use Rattle.peer_once.proofs.PieceLemmas.{never-whole}
use Rattle.peer_gateway.specs.Gate.{BegunAt, PeerGate, PeerMoments}
use Rattle.peer_gateway.specs.Steps.{PeerEvent, a_datagram, a_kept_piece, a_tick, with_outboxes}
use Rattle.peer_half.specs.Runs.{EventIn}
use Rattle.peer_session_laws.specs.Events.{Beginning, events_at, face_of, gate_after, heard_first, passed_on, sessions_of, step_with, ups_at, with_begun}
use Rattle.peer_session_laws.specs.Sessions.{PassesOnWhatIsHandedUp, PassesWhole, pieces_found}
use Rattle.peer_session_laws.proofs.FaceLemmas.{are-of-their-faces}

abbrev up : ℕ → List ℕ → UpValue
up n body = record { session = n; body = body }

-- ---- pieces

-- blocks bring none
pieces-begun : (f : once.Face) (at : Face) (n now : ℕ) (begun : List BegunAt) (earlier : List TimedEvent)
    → pieces_of f n (with_begun at now begun earlier) ≡ pieces_of f n earlier
unfolding with_begun pieces_of
pieces-begun f at n now [] earlier = refl
pieces-begun f at n now (b ∷ more) earlier =
    pieces-begun f at n now more (if_same b.face at ((now, faces.a_block b.block) ∷ earlier) earlier) ∙ one b.face at
  where
    one : (face at : Face) → pieces_of f n (if_same face at ((now, faces.a_block b.block) ∷ earlier) earlier) ≡ pieces_of f n earlier
    one Old Old = refl
    one Old New = refl
    one New Old = refl
    one New New = refl

pieces-with : (b : Beginning) (at : Face) (n : ℕ) (event : EventIn) (earlier : List EventIn)
    → pieces_of (face_of b at) n (events_at b at (event ∷ earlier))
    ≡ pieces_of (face_of b at) n (heard_first at event.0 (event.1.0.at at) (events_at b at earlier))
unfolding events_at
pieces-with b at n event earlier =
    pieces-begun (face_of b at) at n (event.1.0.at at) (step_with b event earlier).effects.begun
    (heard_first at event.0 (event.1.0.at at) (events_at b at earlier))

-- ---- red parts

-- where no piece came, none becomes whole
none-whole : (pieces : List RedPiece) (body : List ℕ) → BecomesWhole pieces pieces body → ⊥
none-whole pieces body whole = never-whole body pieces whole.not_before whole.part

-- by what the face heard
abbrev Whole : once.Face → Face → ℕ → PeerEvent → ℕ → List TimedEvent → List ℕ → Type 0
Whole f at n event now earlier body =
    BecomesWhole (pieces_found f at n event now earlier) (pieces_of f n (heard_first at event now earlier)) body

whole-by : HandsUpRedParts → (b : Beginning) (at : Face) (n : ℕ) (event : PeerEvent) (m : PeerMoments) (octets : ℕ × ℕ) (g : PeerGate)
    → (earlier : List TimedEvent) (body : List ℕ) → (at_face g.faces at).sessions ≡ sessions_in (face_of b at) earlier
    → IsIn (up n body) (passed_on b.setup at event m (with_outboxes octets g)) ↔ Whole (face_of b at) at n event (m.at at) earlier body
unfolding pieces_of
whole-by law b Old n (a_datagram Old read) m octets g earlier body same =
    subst (λ (t : Sessions). IsIn (up n body) (hears b.setup.keys.0 t read (m.at Old)).effects.ups
    ↔ Whole (face_of b Old) Old n (a_datagram Old read) (m.at Old) earlier body) (sym same) (law (face_of b Old) n (m.at Old) read earlier body)
whole-by law b New n (a_datagram New read) m octets g earlier body same =
    subst (λ (t : Sessions). IsIn (up n body) (hears b.setup.keys.1 t read (m.at New)).effects.ups
    ↔ Whole (face_of b New) New n (a_datagram New read) (m.at New) earlier body) (sym same) (law (face_of b New) n (m.at New) read earlier body)
whole-by law b New n (a_datagram Old read) m octets g earlier body same =
    ((λ no. absurd no), none-whole (pieces_of (face_of b New) n earlier) body)
whole-by law b Old n (a_datagram New read) m octets g earlier body same =
    ((λ no. absurd no), none-whole (pieces_of (face_of b Old) n earlier) body)
whole-by law b at n a_tick m octets g earlier body same = ((λ no. absurd no), none-whole (pieces_of (face_of b at) n earlier) body)
whole-by law b at n (a_kept_piece face piece came) m octets g earlier body same =
    ((λ no. absurd no), none-whole (pieces_of (face_of b at) n earlier) body)

pub passes-whole : HandsUpRedParts → PassesWhole
passes-whole law b at n event earlier body =
    subst (λ (pieces : List RedPiece). IsIn (up n body) (ups_at b at event earlier)
    ↔ BecomesWhole (pieces_found (face_of b at) at n event.0 (event.1.0.at at) (events_at b at earlier)) pieces body) (sym (pieces-with b at n event earlier))
    (whole-by law b at n event.0 event.1.0 event.1.1 (gate_after b earlier) (events_at b at earlier) body (are-of-their-faces b at earlier))

pub passes-on : PassesOnWhatIsHandedUp
passes-on b at read m octets earlier = by at (are-of-their-faces b at earlier) where
  by : (at : Face) → sessions_of b at earlier ≡ sessions_in (face_of b at) (events_at b at earlier)
      → ups_at b at (a_datagram at read, (m, octets)) earlier
      ≡ ups_with (face_of b at).keys (m.at at) (faces.a_datagram read) (sessions_in (face_of b at) (events_at b at earlier))
  by Old same = ap (λ (t : Sessions). (hears b.setup.keys.0 t read (m.at Old)).effects.ups) same
  by New same = ap (λ (t : Sessions). (hears b.setup.keys.1 t read (m.at New)).effects.ups) same
