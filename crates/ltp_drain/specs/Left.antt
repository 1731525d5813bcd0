-- How much is left to deliver on a link, which ends every drain: what a delivery makes weighs less
-- than what was delivered, but where a report begins another round. A round raises the serial of
-- its session's checkpoint, and serials are bounded.

use Rattle.std.specs.Prelude.{◌≡◌, ℕ, ◌+◌, ◌-◌, ◌*◌, ◌^◌, ◌<◌, List, [], ◌∷◌, length, drop, Some}
use Rattle.ltp_segment.specs.Values.{ContentValue, a_piece, a_report, a_report_ack}
use Rattle.ltp_segment.specs.Values.{a_sender_cancel, a_sender_cancel_ack, a_receiver_cancel}
use Rattle.ltp_segment.specs.Values.{a_receiver_cancel_ack}
use Rattle.ltp_session.specs.Engine.{Party}
use Rattle.ltp_session.specs.Sender.{Sending, SendingPhase, sender_cancelling, sender_open}
use Rattle.ltp_session.specs.World.{ArePeers, Event, Sent, World, clock, deliver, happens, submit}
use Rattle.ltp_laws.specs.Deadlines.{Waits}
use Rattle.ltp_laws.specs.Writable.{HasSmallNumbers}
use Rattle.ltp_drain.specs.Clean.{clean_event}
use Rattle.ltp_drain.specs.Hopeful.{IsReached}

-- more than all that a delivery makes, but for a round
abbrev pub burden : ContentValue → ℕ
burden (a_piece piece) = 3
burden (a_report report) = 2
burden (a_report_ack serial) = 1
burden (a_sender_cancel reason) = 2
burden a_sender_cancel_ack = 1
burden (a_receiver_cancel reason) = 2
burden a_receiver_cancel_ack = 1

-- a round of a block of so many octets weighs less than this
abbrev pub round_burden : ℕ → ℕ
round_burden size = 3 * size + 2

-- the rounds that are left of a session
abbrev pub rounds_left : ℕ → SendingPhase → ℕ
rounds_left size (sender_open c timer) = (2 ^ 64 - c.checkpoint) * round_burden size
rounds_left size (sender_cancelling reason timer) = 0

abbrev pub sending_left : Sending → ℕ
sending_left s = rounds_left (length s.block) s.phase

unfoldable pub senders_left : List (ℕ × Sending) → ℕ
senders_left [] = 0
senders_left (entry ∷ entries) = sending_left entry.1 + senders_left entries

-- what was sent and isn't delivered yet
unfoldable pub sent_burden : List Sent → ℕ
sent_burden [] = 0
sent_burden (d ∷ ds) = burden d.segment.content + sent_burden ds

abbrev pub link_left : World → ℕ → ℕ
link_left w k =
    senders_left w.engines.0.senders + senders_left w.engines.1.senders
    + sent_burden (drop k w.sent)

-- ---- every drain ends

-- two engines on a link, whose numbers fit in a segment's fields, and which wait for answers
pub record AreTimed (parties : Party × Party) : Type 0 where
  pub peers : ArePeers parties
  pub first_small : HasSmallNumbers parties.0
  pub second_small : HasSmallNumbers parties.1
  pub first_waits : Waits parties.0.policy
  pub second_waits : Waits parties.1.policy

-- a delivery leaves less, and a clock is set to a later moment; nothing is submitted
abbrev pub WearsOut : Party × Party → World → ℕ → Event → Type 0
WearsOut parties w c (submit end block red) = ⊥
WearsOut parties w c (deliver k) =
    link_left (happens parties w (deliver k)) (c + 1) < link_left w c
WearsOut parties w c (clock now) = w.now < now

-- each clean event of every world that a run leads to, hopeful or not
abbrev pub DrainsWearOut : Type 0
DrainsWearOut =
    (parties : Party × Party) (w : World) (c : ℕ) (event : Event) → AreTimed parties
    → IsReached parties w → clean_event w c ≡ Some event → WearsOut parties w c event
