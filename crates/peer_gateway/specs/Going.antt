-- Pieces wait at a face until a session is free, and go in blocks.

use Rattle.std.specs.Prelude.{ℕ, zero, suc, ◌-◌, ◌^◌, ◌==◌, Bool, true, false, ◌&&◌, not, nat_lt, if◌then◌else◌, List, [], ◌∷◌, length, Option, Some, None}
use Rattle.std.specs.List.{flat_map}
use Rattle.std.specs.Option.{is_none}
use Rattle.ltp_session.specs.Engine.{EngineStep}
use Rattle.translate.specs.Refusals.{first_that_holds}
use Rattle.bundle_age.specs.Raised.{raised_by, has_age}
use Rattle.piece_gathering.specs.declared.piece.Piece.{Piece}
use Rattle.piece_gathering.specs.Gathered.{ready, added_to, going, gone_from}
use Rattle.gate_cases.specs.declared.face.Face.{Face}
use Rattle.gateway_core.specs.Gate.{at_face, with_face}
use Rattle.face_room.specs.declared.bounds.TheConstants.{NUMBERS}
use Rattle.peer_cases.specs.declared.settings.PeerSettings.{PeerSettings}
use Rattle.peer_cases.specs.declared.pieces.SizedPiece.{SizedPiece}
use Rattle.peer_cases.specs.Arrivals.{Came}
use Rattle.peer_cases.specs.Pieces.{wire_octets}
use Rattle.peer_cases.specs.Rows.{came_in}
use Rattle.peer_sessions.specs.Keys.{FaceKeys}
use Rattle.peer_sessions.specs.Sessions.{block_begins, with_begun}
use Rattle.peer_gateway.specs.Keys.{PeerSetup}
use Rattle.peer_gateway.specs.Gate.{PeerMoments, PeerFace, PeerGate, PeerStep, FaceTold, no_effects, stays_so, and_then, routed_at, puts_out, with_queued, told_began}

-- ---- ages

-- the time for which a piece stayed that leaves at a moment of the wall clock; none where that was set back
abbrev pub stay_of : ℕ → Piece → ℕ
stay_of leaves piece = leaves - piece.came

-- the octets of a piece with its age raised, where it reads as a record that has one; else as they are
abbrev pub raised_octets : PeerSettings → Face → ℕ → List ℕ → Option Came → List ℕ
raised_octets s face stay octets None = octets
raised_octets s face stay octets (Some came) =
    if is_none (first_that_holds (came.arrival).refusals) && has_age (came.arrival).full
    then wire_octets s face (raised_by stay (came.arrival).full)
    else octets

-- after a stay
abbrev pub stayed_octets : PeerSettings → Face → ℕ → List ℕ → List ℕ
stayed_octets s face stay octets =
    if s.raises then raised_octets s face stay octets (came_in s face octets) else octets

-- as it goes
abbrev pub going_octets : PeerSettings → Face → ℕ → Piece → List ℕ
going_octets s face leaves piece = stayed_octets s face (stay_of leaves piece) piece.octets

-- how many octets it has after the longest stay that can be said
abbrev pub stayed_size : PeerSettings → Face → List ℕ → ℕ
stayed_size s face octets = length (stayed_octets s face (2 ^ 64 - 1) octets)

-- ---- the pieces in front go

-- a session is free: fewer are being sent than may be, and a number is left
abbrev pub is_free : FaceKeys → PeerFace → Bool
is_free k f =
    nat_lt (length ((f.sessions).engine).senders) (k.bounds).sessions && nat_lt ((f.sessions).engine).next NUMBERS

-- how many pieces go next in one block, where those go that are ready at a moment
abbrev pub next_count : FaceKeys → ℕ → PeerFace → ℕ
next_count k until f = if is_free k f then ready f.gathering until else 0

-- all red, in the next session
abbrev pub block_of : PeerSetup → Face → PeerMoments → ℕ → PeerFace → List ℕ
block_of s face m until f = flat_map (going_octets s.settings face (m.leaves face)) (going f.gathering until)

-- a face once the block is being sent and its pieces wait no longer, and once its datagrams were made
abbrev pub with_block : PeerFace → ℕ → EngineStep → PeerFace
with_block f until step = record {
  sessions = with_begun f.sessions step;
  gathering = gone_from f.gathering until;
  queued = f.queued;
}

abbrev pub after_block : FaceKeys → PeerFace → ℕ → EngineStep → PeerFace
after_block k f until step = with_queued k (with_block f until step) (step.effects).out

-- that a block begins is told where pieces gather
abbrev pub told_if : Bool → Face → ℕ → ℕ → ℕ → List FaceTold
told_if false face pieces octets session = []
told_if true face pieces octets session =
    record { face = face; told = told_began pieces octets session } ∷ []

abbrev pub gathers : FaceKeys → Bool
gathers k = not ((k.bounds).wanted == 0)

abbrev pub block_goes : PeerSetup → Face → ℕ → PeerGate → List ℕ → PeerFace → EngineStep → PeerStep
block_goes s face until g block f step = record {
  gate = record g { faces = with_face g.faces face (after_block (at_face s.keys face) f until step) };
  effects = record {
    out = routed_at face (step.effects).out;
    puts = puts_out (at_face s.keys face) (with_block f until step) (step.effects).out;
    told = told_if (gathers (at_face s.keys face)) face (ready f.gathering until) (length block)
        ((f.sessions).engine).next;
    added = [];
    begun = record {
      face = face;
      session = ((f.sessions).engine).next;
      block = block;
      pieces = ready f.gathering until;
    } ∷ [];
  };
}

unfoldable pub go : PeerSetup → Face → PeerMoments → ℕ → PeerGate → PeerStep
go s face m until g =
    block_goes s face until g (block_of s face m until (at_face g.faces face)) (at_face g.faces face)
    (block_begins (at_face s.keys face) (((at_face g.faces face).sessions).engine)
    (block_of s face m until (at_face g.faces face)) (m.at face))

-- blocks go, so many at most, as long as some pieces go next
unfoldable pub go_on : PeerSetup → Face → PeerMoments → ℕ → ℕ → PeerGate → PeerStep
go_on s face m until zero g = stays_so g
go_on s face m until (suc n) g =
    if next_count (at_face s.keys face) until (at_face g.faces face) == 0 then stays_so g
    else and_then (go s face m until g) (go_on s face m until n)

-- as many as can: there is a piece in each
abbrev pub go_all : PeerSetup → Face → PeerMoments → ℕ → PeerGate → PeerStep
go_all s face m until g = go_on s face m until (length ((at_face g.faces face).gathering).waiting) g

-- ---- a piece is added

-- The moment at which no piece has waited yet. What is ready then is complete: it has as many octets as are
-- wanted, or the next piece doesn't go with it.
abbrev pub no_time : ℕ
no_time = 0

abbrev pub waits_too : Face → Piece → Bool → PeerGate → PeerStep
waits_too face piece is_report g = record {
  gate = record g {
    faces = with_face g.faces face (record (at_face g.faces face) {
      gathering = added_to (at_face g.faces face).gathering piece;
    });
  };
  effects = record no_effects { added = record { face = face; piece = piece; is_report = is_report } ∷ [] };
}

-- it waits after the others, and what is complete goes while a session is free
unfoldable pub adds : PeerSetup → Face → PeerMoments → Bool → Piece → PeerGate → PeerStep
adds s face m is_report piece g = and_then (waits_too face piece is_report g) (go_all s face m no_time)

-- a piece that was made now
abbrev pub piece_at : PeerMoments → Face → SizedPiece → Piece
piece_at m face piece = record {
  octets = piece.octets;
  size = piece.size;
  came = m.wall;
  added = m.at face;
  is_dated = piece.is_dated;
}

-- ---- time

-- what is ready goes, also what has waited as long as it may, while a session is free
abbrev pub due : PeerSetup → PeerMoments → Face → PeerGate → PeerStep
due s m face g = go_all s face m (m.at face) g
