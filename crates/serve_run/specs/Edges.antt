-- What calls tell of two links, a clock and a sink that are driven as one.
use Rattle.std.specs.Prelude.{◌≡◌, ℕ, List, [], ◌∷◌, Option, Result, Ok, Err, is_err}
use Rattle.edge_traits.specs.Content.{Gains}
use Rattle.edge_traits.specs.Datagrams.{Polls, SendGains, Reads}
use Rattle.edge_traits.specs.Faults.{count_after, FailsAsTold}
use Rattle.edge_traits.specs.Outcome.{SinkTells}
use Rattle.gate_cases.specs.declared.face.Face.{Face}
use Rattle.gate_cases.specs.declared.face.Face.TheVariants.{Old, New}
use Rattle.serve_run.specs.Deeds.{Deed, read_clock, polled_link, sent_or_lost, written}
use Rattle.serve_run.specs.Tells.{LinkTells, OutsideTells, BreaksOff, WroteText, polled_in}

-- what the link of a face tells, and the other one
abbrev pub told_at : Face → OutsideTells → LinkTells
told_at Old tells = tells.old
told_at New tells = tells.new

abbrev pub told_beside : Face → OutsideTells → LinkTells
told_beside Old tells = tells.new
told_beside New tells = tells.old

-- the clock was read, and shows this
pub record ClockRead (moment : ℕ) (before now : OutsideTells) : Type 0 where
  pub reading : Reads before.readings now.readings moment
  pub old : now.old ≡ before.old
  pub new : now.new ≡ before.new
  pub trace : Gains before.trace now.trace (read_clock moment ∷ [])

-- the link of a face was polled
pub record LinkPolled {E : Type 0} (face : Face) (result : Result (Option ℕ) E) (buffer : List ℕ) (before now : OutsideTells) : Type 0 where
  pub datagram : Polls (told_at face before).coming (told_at face now).coming result buffer
  pub gone : (told_at face now).gone ≡ (told_at face before).gone
  pub count : (told_at face now).faults ≡ count_after (told_at face before).faults result
  pub told : FailsAsTold (told_at face before).failing (told_at face now).failing result
  pub beside : told_beside face now ≡ told_beside face before
  pub readings : now.readings ≡ before.readings
  pub trace : Gains before.trace now.trace (polled_link face (polled_in buffer result) ∷ [])

-- a datagram was sent on the link of a face, or lost
pub record DatagramSent {E : Type 0} (face : Face) (result : Result (Unit {0}) E) (datagram : List ℕ) (before now : OutsideTells) : Type 0 where
  pub gone : SendGains (told_at face before).gone (told_at face now).gone result datagram
  pub coming : (told_at face now).coming ≡ (told_at face before).coming
  pub count : (told_at face now).faults ≡ count_after (told_at face before).faults result
  pub told : FailsAsTold (told_at face before).failing (told_at face now).failing result
  pub beside : told_beside face now ≡ told_beside face before
  pub readings : now.readings ≡ before.readings
  pub trace : Gains before.trace now.trace (sent_or_lost face (is_err result) datagram ∷ [])

-- octet by octet a text was written, or a front of it until a write failed
abbrev pub WroteOctets : {T E : Type 0} → List ℕ → Option (List Deed) → Option (List Deed) → Result T E → Type 0
WroteOctets text before now (Ok x) = Gains before now (written text)
WroteOctets text before now (Err e) = BreaksOff before now (written text)

-- a text was written to its end, or until a write failed
pub record TextWritten {T E : Type 0} (text : List ℕ) (result : Result T E) (before now : OutsideTells) (sink sink_now : SinkTells) : Type 0 where
  pub wrote : WroteText text sink sink_now result
  pub old : now.old ≡ before.old
  pub new : now.new ≡ before.new
  pub readings : now.readings ≡ before.readings
  pub trace : WroteOctets text before.trace now.trace result
