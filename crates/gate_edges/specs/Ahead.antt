-- What an outside will give from here on, call after call.

use Rattle.std.specs.Prelude.{ℕ, ◌+◌, ◌-◌, ◌^◌, min, Bool, List, [], ◌∷◌, Option, None, Some, if◌then◌else◌}
use Rattle.edge_traits.specs.Faults.{fails_next, after_next}
use Rattle.gate_cases.specs.declared.face.Face.{Face}
use Rattle.gate_cases.specs.declared.face.Face.TheVariants.{Old, New}
use Rattle.outbox.specs.declared.reading.Reading.{Reading}

-- ---- the clocks

-- of the readings to come the first is what the clocks show next, and the last is shown again and
-- again; where there is none, both clocks show 0
abbrev pub first_reading : List Reading → Reading
first_reading [] = record { wall = 0; monotonic = 0 }
first_reading (reading ∷ later) = reading

abbrev pub after_reading : List Reading → List Reading
after_reading [] = []
after_reading (last ∷ []) = last ∷ []
after_reading (first ∷ second ∷ later) = second ∷ later

-- ---- a link

-- what a poll gives: so many datagrams from elsewhere, which it drops, and then one of the peer's or none
abbrev pub Given : Type 0
Given = ℕ × Option (List ℕ)

-- what its polls will give, one for each poll that doesn't fail; past the end nothing is there. How many
-- datagrams from elsewhere they dropped since that was last asked, up to the greatest number that 64 bits
-- show. And which of its calls will fail, polls and sends in one list; past the end none
pub record LinkAhead : Type 0 where
  pub gives : List Given
  pub dropped : ℕ
  pub failing : List Bool

-- what a poll comes to
pub data Polled : Type 0 where
  failed : Polled
  empty : Polled
  gave : List ℕ → Polled

abbrev pub given : List Given → Polled
given [] = empty
given ((foreign, None) ∷ later) = empty
given ((foreign, Some datagram) ∷ later) = gave datagram

abbrev pub after_given : List Given → List Given
after_given [] = []
after_given (first ∷ later) = later

abbrev pub dropped_by : List Given → ℕ → ℕ
dropped_by [] dropped = dropped
dropped_by ((foreign, datagram) ∷ later) dropped = min (dropped + foreign) (2 ^ 64 - 1)

-- a poll that fails takes and drops nothing
abbrev pub polled_of : LinkAhead → Polled
polled_of link = if fails_next link.failing then failed else given link.gives

abbrev pub link_past_poll : LinkAhead → LinkAhead
link_past_poll link = record {
  gives = if fails_next link.failing then link.gives else after_given link.gives;
  dropped =
      if fails_next link.failing then link.dropped else dropped_by link.gives link.dropped;
  failing = after_next link.failing;
}

-- it is asked how many datagrams from elsewhere were dropped
abbrev pub link_past_count : LinkAhead → LinkAhead
link_past_count link = record link { dropped = 0 }

abbrev pub link_past_send : LinkAhead → LinkAhead
link_past_send link = record link { failing = after_next link.failing }

-- ---- all of it

-- the readings of the clocks, both links, and which of the texts that are shown will fail to be put
-- in place; past the end none does
pub record Ahead : Type 0 where
  pub readings : List Reading
  pub old : LinkAhead
  pub new : LinkAhead
  pub showing : List Bool

abbrev pub link_of : Face → Ahead → LinkAhead
link_of Old ahead = ahead.old
link_of New ahead = ahead.new

abbrev pub with_link : Face → LinkAhead → Ahead → Ahead
with_link Old link ahead = record ahead { old = link }
with_link New link ahead = record ahead { new = link }

-- the clocks are read
abbrev pub reading_next : Ahead → Reading
reading_next ahead = first_reading ahead.readings

abbrev pub past_reading : Ahead → Ahead
past_reading ahead = record ahead { readings = after_reading ahead.readings }

-- a face's link is polled
abbrev pub polled_at : Face → Ahead → Polled
polled_at face ahead = polled_of (link_of face ahead)

abbrev pub past_poll : Face → Ahead → Ahead
past_poll face ahead = with_link face (link_past_poll (link_of face ahead)) ahead

-- it is asked how many datagrams from elsewhere the polls of a face's link dropped
abbrev pub dropped_at : Face → Ahead → ℕ
dropped_at face ahead = (link_of face ahead).dropped

abbrev pub past_count : Face → Ahead → Ahead
past_count face ahead = with_link face (link_past_count (link_of face ahead)) ahead

-- a datagram is sent at a face
abbrev pub send_fails : Face → Ahead → Bool
send_fails face ahead = fails_next (link_of face ahead).failing

abbrev pub past_send : Face → Ahead → Ahead
past_send face ahead = with_link face (link_past_send (link_of face ahead)) ahead

-- a text is shown
abbrev pub show_fails : Ahead → Bool
show_fails ahead = fails_next ahead.showing

abbrev pub past_show : Ahead → Ahead
past_show ahead = record ahead { showing = after_next ahead.showing }
