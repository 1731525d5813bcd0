-- What a recording tells of the sessions of the engine whose exchange it is: enough that what they
-- send breaks no rule.

use Rattle.std.specs.Prelude.{◌≡◌, ℕ, ◌^◌, ◌<◌, ◌≤◌, true, List, [], length, None, Some}
use Rattle.std.specs.Prelude.{is_some}
use Rattle.std.specs.List.{AllByRecursion, list_any}
use Rattle.ltp_segment.specs.Legal.{IsPiece, IsReport}
use Rattle.ltp_segment.specs.Values.{PieceValue, ReportValue, ContentValue, a_piece, a_report}
use Rattle.ltp_segment.specs.Values.{a_report_ack, a_sender_cancel, a_sender_cancel_ack}
use Rattle.ltp_segment.specs.Values.{a_receiver_cancel, a_receiver_cancel_ack}
use Rattle.ltp_session.specs.Cells.{cell}
use Rattle.ltp_session.specs.RedPart.{first_octet}
use Rattle.ltp_session.specs.Sender.{Sending, SendingPhase, sender_open, sender_cancelling}
use Rattle.ltp_session.specs.Receiver.{Receiving, ReceivingPhase, receiver_open}
use Rattle.ltp_session.specs.Receiver.{receiver_cancelling}
use Rattle.ltp_session.specs.Table.{find, AreAscending}
use Rattle.ltp_session.specs.Engine.{Party, Engine}
use Rattle.ltp_laws.specs.Blocks.{IsOf}
use Rattle.ltp_laws.specs.Kept.{IfKept}
use Rattle.ltp_audit.specs.declared.entry.Entry.{Entry}
use Rattle.ltp_engine.specs.Values.{EngineValue}
use Rattle.ltp_engine.specs.Shows.{Shows}
use Rattle.ltp_audit.specs.Keeping.{followed_by, KeepsRules}
use Rattle.ltp_audit.specs.Recorded.{said_in, red_pieces, are_claims_held, is_checkpoint_of}
use Rattle.ltp_audit.specs.Recorded.{is_report_of, is_sender_cancel, is_receiver_cancel}

-- ---- a session that the engine sends

-- a piece of the block that can be written
pub record IsCut (block : List ℕ) (piece : PieceValue) : Type 0 where
  pub octets : IsOf block piece.offset piece.body
  pub legal : IsPiece piece

-- its sender may say this after what was said
abbrev pub SenderMay : List ℕ → List ContentValue → ContentValue → Type 0
SenderMay block said (a_piece piece) = IsCut block piece
SenderMay block said (a_report report) = ⊥
SenderMay block said (a_report_ack serial) =
    (serial < 2 ^ 64) × (list_any (is_report_of serial) said ≡ true)
SenderMay block said (a_sender_cancel reason) = reason < 256
SenderMay block said a_sender_cancel_ack = ⊥
SenderMay block said (a_receiver_cancel reason) = ⊥
SenderMay block said a_receiver_cancel_ack = list_any is_receiver_cancel said ≡ true

abbrev pub Awaits : List ℕ → SendingPhase → Type 0
Awaits block (sender_open checkpoint timer) =
    IsCut block checkpoint × (0 < checkpoint.checkpoint) × (checkpoint.checkpoint < 2 ^ 32)
Awaits block (sender_cancelling reason timer) = reason < 256

-- a piece that was said is one of the block
abbrev pub IsOfBlock : List ℕ → ContentValue → Type 0
IsOfBlock block (a_piece piece) = IsOf block piece.offset piece.body
IsOfBlock block (a_report report) = Unit {0}
IsOfBlock block (a_report_ack serial) = Unit {0}
IsOfBlock block (a_sender_cancel reason) = Unit {0}
IsOfBlock block a_sender_cancel_ack = Unit {0}
IsOfBlock block (a_receiver_cancel reason) = Unit {0}
IsOfBlock block a_receiver_cancel_ack = Unit {0}

-- what is kept of a session that this was said in
pub record SenderKnown (said : List ContentValue) (s : Sending) : Type 0 where
  pub small : length s.block < 2 ^ 64
  pub awaits : Awaits s.block s.phase
  pub pieces : AllByRecursion (IsOfBlock s.block) said

-- no piece was said yet
abbrev pub IsNoPiece : ContentValue → Type 0
IsNoPiece (a_piece piece) = ⊥
IsNoPiece (a_report report) = Unit {0}
IsNoPiece (a_report_ack serial) = Unit {0}
IsNoPiece (a_sender_cancel reason) = Unit {0}
IsNoPiece a_sender_cancel_ack = Unit {0}
IsNoPiece (a_receiver_cancel reason) = Unit {0}
IsNoPiece a_receiver_cancel_ack = Unit {0}

-- ---- a session that the peer sends

-- a report whose claims and whose checkpoint were seen
pub record IsSeen (said : List ContentValue) (report : ReportValue) : Type 0 where
  pub legal : IsReport report
  pub claims :
      are_claims_held (first_octet (red_pieces said)) report.lower report.claims ≡ true
  pub checkpoint : list_any (is_checkpoint_of report.checkpoint) said ≡ true

-- its receiver may say this after what was said
abbrev pub ReceiverMay : List ContentValue → ContentValue → Type 0
ReceiverMay said (a_piece piece) = ⊥
ReceiverMay said (a_report report) = IsSeen said report
ReceiverMay said (a_report_ack serial) = ⊥
ReceiverMay said (a_sender_cancel reason) = ⊥
ReceiverMay said a_sender_cancel_ack = list_any is_sender_cancel said ≡ true
ReceiverMay said (a_receiver_cancel reason) = reason < 256
ReceiverMay said a_receiver_cancel_ack = ⊥

abbrev pub Waits : List ContentValue → ReceivingPhase → Type 0
Waits said (receiver_open None) = Unit {0}
Waits said (receiver_open (Some pending)) = IsSeen said pending.report
Waits said (receiver_cancelling reason timer) = reason < 256

-- what is kept of a session that this was said in
pub record ReceiverKnown (said : List ContentValue) (r : Receiving) : Type 0 where
  pub octets : (k : ℕ) → is_some (cell r.cells k) ≡ true
      → is_some (first_octet (red_pieces said) k) ≡ true
  pub known : IfKept (λ end. (0 < end) × (end < 2 ^ 64)) r.length
  pub named : 0 < r.serial
  pub serial : r.serial ≤ 2 ^ 32
  pub waits : Waits said r.phase

-- ---- all sessions

-- the numbers of an engine and its peer, and the greatest length of a block
pub record IsParty (p : Party) : Type 0 where
  pub apart : p.own ≡ p.peer → ⊥
  pub own : p.own < 2 ^ 64
  pub peer : p.peer < 2 ^ 64
  pub most : p.most < 2 ^ 64

-- a session's number, and what is known of it
abbrev pub Sends : ℕ → List ContentValue → Sending → Type 0
Sends n said s = (n < 2 ^ 64) × SenderKnown said s

abbrev pub Receives : ℕ → List ContentValue → Receiving → Type 0
Receives n said r = (n < 2 ^ 64) × ReceiverKnown said r

-- a recording, its last entry first, tells of an engine: of the sessions that it keeps; and of the
-- numbers that it has not given yet nothing is kept, and no piece was sent in them
pub record Knows (p : Party) (e : Engine) (history : List Entry) : Type 0 where
  pub senders : (n : ℕ)
      → IfKept (Sends n (said_in p.own p.peer history p.own n)) (find n e.senders)
  pub receivers : (n : ℕ)
      → IfKept (Receives n (said_in p.own p.peer history p.peer n)) (find n e.receivers)
  pub fresh : (n : ℕ) → e.next ≤ n
      → (find n e.senders ≡ None)
      × AllByRecursion IsNoPiece (said_in p.own p.peer history p.own n)
  pub numbers : e.next ≤ 2 ^ 32
  pub own_ascend : AreAscending 0 e.senders
  pub others_ascend : AreAscending 0 e.receivers

-- the recording of an engine's exchange, its first entry first: no entry that went out breaks a
-- rule, and it tells of an engine that the code's stands for
pub record Records (v : EngineValue) (entries : List Entry) : Type 0 where
  pub party : IsParty v.party
  pub engine : Engine
  pub shows : Shows v engine
  pub rules : KeepsRules v.party.own v.party.peer [] entries
  pub knows : Knows v.party engine (followed_by [] entries)
