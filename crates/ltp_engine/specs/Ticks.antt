-- All sessions of a side tick.

use Rattle.std.specs.Prelude.{ℕ, List, ◌++◌, map}
use Rattle.ltp_segment.specs.declared.session.Note.{Note}
use Rattle.ltp_segment.specs.Policy.{PolicyValue}
use Rattle.ltp_segment.specs.Values.{SegmentValue}
use Rattle.ltp_segment.specs.Spelling.{segment_octets}
use Rattle.ltp_session.specs.Step.{Change, StepValue}
use Rattle.ltp_session.specs.Sender.{Sending, sender_tick}
use Rattle.ltp_session.specs.Receiver.{Receiving, receiver_tick}
use Rattle.ltp_engine.specs.declared.effects.Effects.{Effects}

abbrev pub sender_ticked : PolicyValue → ℕ → Sending → StepValue Sending
sender_ticked policy now s = sender_tick policy s now

abbrev pub sender_change : PolicyValue → ℕ → Sending → Change Sending
sender_change policy now s = (sender_tick policy s now).next

abbrev pub receiver_ticked : PolicyValue → ℕ → Receiving → StepValue Receiving
receiver_ticked policy now r = receiver_tick policy r now

abbrev pub receiver_change : PolicyValue → ℕ → Receiving → Change Receiving
receiver_change policy now r = (receiver_tick policy r now).next

-- what sessions send and note is added
abbrev pub with_ticks : Effects → List SegmentValue → List Note → Effects
with_ticks e segments remarks =
    record e { out = e.out ++ map segment_octets segments; notes = e.notes ++ remarks }
