-- What an engine hands up, whoever is at the other end (RFC 5326, section 6.9): which pieces of a
-- session count, and with which event its red part is handed up.

use Rattle.std.specs.Prelude.{◌≡◌, ℕ, ◌↔◌, Bool, false, not, ◌==◌, ◌&&◌, List, []}
use Rattle.std.specs.Prelude.{◌∷◌, ◌++◌, Option, None, Some, Result, Ok, Err}
use Rattle.std.specs.Prelude.{if◌then◌else◌}
use Rattle.std.specs.List.{AllByRecursion}
use Rattle.ltp_segment.specs.Kinds.{is_red}
use Rattle.ltp_segment.specs.declared.fault.SegmentCause.{SegmentCause}
use Rattle.ltp_segment.specs.Values.{ContentValue, PieceValue, SegmentValue, a_piece, a_report}
use Rattle.ltp_segment.specs.Values.{a_report_ack, a_sender_cancel, a_sender_cancel_ack}
use Rattle.ltp_segment.specs.Values.{a_receiver_cancel, a_receiver_cancel_ack}
use Rattle.ltp_session.specs.Cells.{is_no_part}
use Rattle.ltp_session.specs.RedPart.{RedPiece, BecomesWhole}
use Rattle.ltp_session.specs.Receiver.{Receiving, Admission, fresh}
use Rattle.ltp_session.specs.Table.{find}
use Rattle.ltp_session.specs.Engine.{Party, Engine, EngineStep, SubmitFault, UpValue, starts}
use Rattle.ltp_session.specs.Engine.{admission_of, submits, submit_step, datagram_step, tick_step}
use Rattle.ltp_receiver.specs.RedPart.{is_taken, red_piece}
use Rattle.ltp_laws.specs.View.{IsIn}

-- ---- what comes to an engine, and what it does

-- a block that is to be sent, with the length of its red part; a datagram, which is a segment or
-- none; or time passes. Each comes at a moment.
pub data Coming : Type 0 where
  a_block_comes : List ℕ → ℕ → ℕ → Coming
  a_datagram_comes : Result SegmentValue (ℕ × SegmentCause) → ℕ → Coming
  a_moment_comes : ℕ → Coming

-- the engine after a submit, which a fault leaves as it was
abbrev pub unless_faulty : Engine → Result EngineStep SubmitFault → Engine
unless_faulty e (Ok step) = step.engine
unless_faulty e (Err fault) = e

abbrev pub engine_with : Party → Engine → Coming → Engine
engine_with p e (a_block_comes block red now) =
    unless_faulty e (submit_step p e (submits p e block red now))
engine_with p e (a_datagram_comes read now) = (datagram_step p e read now).engine
engine_with p e (a_moment_comes now) = (tick_step p e now).engine

-- the red parts that are handed up with it: only a datagram hands any up
abbrev pub ups_with : Party → Engine → Coming → List UpValue
ups_with p e (a_block_comes block red now) = []
ups_with p e (a_datagram_comes read now) = (datagram_step p e read now).effects.ups
ups_with p e (a_moment_comes now) = []

-- the engine, and all that was handed up, once these came, the newest first
unfoldable pub engine_after : Party → List Coming → Engine
engine_after p [] = starts p
engine_after p (coming ∷ earlier) = engine_with p (engine_after p earlier) coming

unfoldable pub ups_of : Party → List Coming → List UpValue
ups_of p [] = []
ups_of p (coming ∷ earlier) =
    ups_with p (engine_after p earlier) coming ++ ups_of p earlier

-- ---- which pieces of a session count

-- the session that a piece meets: the kept one; or a new one, where the piece is red, the number
-- isn't closed and there is room for it
abbrev pub meets : Admission → Option Receiving → PieceValue → Option Receiving
meets admission (Some r) piece = Some r
meets admission None piece =
    if not (is_red piece.kind) then None
    else if admission.closed then None
    else if admission.full then None
    else Some (fresh admission.session)

-- a piece for client service 1, which can be one of a block, is taken by the session that it meets
abbrev pub is_taken_by : Option Receiving → PieceValue → Bool
is_taken_by None piece = false
is_taken_by (Some r) piece = is_taken r piece

abbrev pub counts : Admission → Option Receiving → PieceValue → Bool
counts admission kept piece =
    (piece.service == 1) && (not (is_no_part admission.most piece.offset piece.body)
    && is_taken_by (meets admission kept piece) piece)

abbrev pub with_content :
    Admission → Option Receiving → ContentValue → List RedPiece → List RedPiece
with_content admission kept (a_piece piece) pieces =
    if counts admission kept piece then red_piece piece ∷ pieces else pieces
with_content admission kept (a_report report) pieces = pieces
with_content admission kept (a_report_ack serial) pieces = pieces
with_content admission kept (a_sender_cancel reason) pieces = pieces
with_content admission kept a_sender_cancel_ack pieces = pieces
with_content admission kept (a_receiver_cancel reason) pieces = pieces
with_content admission kept a_receiver_cancel_ack pieces = pieces

-- a segment is of session n of the peer
abbrev pub is_of_peer : Party → ℕ → SegmentValue → Bool
is_of_peer p n s =
    not (s.originator == p.own) && ((s.originator == p.peer) && (s.session == n))

abbrev pub with_coming : Party → Engine → ℕ → Coming → List RedPiece → List RedPiece
with_coming p e n (a_block_comes block red now) pieces = pieces
with_coming p e n (a_datagram_comes (Err refusal) now) pieces = pieces
with_coming p e n (a_datagram_comes (Ok s) now) pieces =
    if is_of_peer p n s then with_content (admission_of p e n) (find n e.receivers) s.content pieces
    else pieces
with_coming p e n (a_moment_comes now) pieces = pieces

-- the pieces of session n of the peer that count, the newest first
unfoldable pub pieces_of : Party → ℕ → List Coming → List RedPiece
pieces_of p n [] = []
pieces_of p n (coming ∷ earlier) =
    with_coming p (engine_after p earlier) n coming (pieces_of p n earlier)

-- ---- the law

-- a session's red part is handed up with the event that makes it whole, and with no other: place by
-- place the first octet that came
abbrev pub HandsUpRedParts : Type 0
HandsUpRedParts =
    (p : Party) (n : ℕ) (earlier : List Coming) (coming : Coming) (body : List ℕ)
    → IsIn (record { session = n; body = body }) (ups_with p (engine_after p earlier) coming)
    ↔ BecomesWhole (pieces_of p n earlier) (pieces_of p n (coming ∷ earlier)) body

-- no number's red part is among these twice
abbrev pub EachOnce : List UpValue → Type 0
EachOnce [] = Unit {0}
EachOnce (up ∷ ups) = AllByRecursion (λ other. other.session ≡ up.session → ⊥) ups × EachOnce ups

abbrev pub HandsUpEachOnce : Type 0
HandsUpEachOnce = (p : Party) (comings : List Coming) → EachOnce (ups_of p comings)
