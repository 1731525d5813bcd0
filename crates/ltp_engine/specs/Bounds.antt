-- What an engine keeps at the most.

use Rattle.std.specs.Prelude.{◌≡◌, ℕ, ◌+◌, ◌^◌, ◌<◌, ◌≤◌, true, false, length}
use Rattle.std.specs.Prelude.{is_some}
use Rattle.std.specs.List.{AllByRecursion}
use Rattle.ltp_segment.specs.declared.session.TheConstants.{BLOCK_MAX}
use Rattle.ltp_session.specs.Sender.{Sending}
use Rattle.ltp_session.specs.Receiver.{Receiving}
use Rattle.ltp_session.specs.Table.{find, AreAscending}
use Rattle.ltp_session.specs.Engine.{Party}
use Rattle.ltp_engine.specs.declared.closed.TheConstants.{LAST}
use Rattle.ltp_engine.specs.Closed.{is_among}
use Rattle.ltp_engine.specs.Values.{InboundValue, EngineValue}

-- the block of a sending session isn't longer than this
abbrev pub SendsAtMost : ℕ → ℕ × Sending → Type 0
SendsAtMost most entry = length entry.1.block ≤ most

-- the octets of a receiving session's red part end here or before
abbrev pub ReceivesAtMost : ℕ → ℕ × Receiving → Type 0
ReceivesAtMost most entry = length entry.1.cells ≤ most

-- the numbers that the engine gives are below 2^32; sessions of each direction, and runs of closed
-- numbers and receiving sessions together, are no more than the party keeps; and each session's
-- octets are within the greatest block
pub record IsBounded (v : EngineValue) : Type 0 where
  pub numbers : v.next ≤ 2 ^ 32
  pub senders : length v.senders ≤ v.party.sessions
  pub receivers : length v.inbound.receivers ≤ v.party.sessions
  pub history : v.inbound.closed.runs + length v.inbound.receivers ≤ v.party.history
  pub sent : AllByRecursion (SendsAtMost BLOCK_MAX) v.senders
  pub received : AllByRecursion (ReceivesAtMost BLOCK_MAX) v.inbound.receivers

-- ---- what every call keeps, these bounds among it

-- none of the sessions that are kept is closed; their numbers ascend, and are numbers that a
-- session can have
pub record IsInboundSound (p : Party) (i : InboundValue) : Type 0 where
  pub receivers : length i.receivers ≤ p.sessions
  pub history : i.closed.runs + length i.receivers ≤ p.history
  pub unclosed : (n : ℕ) → is_some (find n i.receivers) ≡ true → is_among i.closed n ≡ false
  pub range : (n : ℕ) → is_some (find n i.receivers) ≡ true → n ≤ LAST
  pub limit : length i.closed.places ≡ LAST
  pub ascending : AreAscending 0 i.receivers

-- one session at least is kept of a direction, and the runs of closed numbers can be counted; the
-- numbers given so far; the sending sessions' numbers ascend
pub record IsSound (v : EngineValue) : Type 0 where
  pub some : 1 ≤ v.party.sessions
  pub countable : v.party.history < 2 ^ 32
  pub begun : v.party.first ≤ v.next
  pub numbers : v.next ≤ 2 ^ 32
  pub senders : length v.senders ≤ v.party.sessions
  pub ascending : AreAscending 0 v.senders
  pub inbound : IsInboundSound v.party v.inbound
  pub sent : AllByRecursion (SendsAtMost v.party.most) v.senders
  pub received : AllByRecursion (ReceivesAtMost v.party.most) v.inbound.receivers
