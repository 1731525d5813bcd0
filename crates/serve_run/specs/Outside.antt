-- Two links and a clock as they go on: what their calls will give, call after call.
use Rattle.std.specs.Prelude.{ℕ, Bool, List, [], ◌∷◌, Option, None, Some, if◌then◌else◌}
use Rattle.edge_traits.specs.Faults.{fails_next, after_next}
use Rattle.gate_cases.specs.declared.face.Face.{Face}
use Rattle.gate_cases.specs.declared.face.Face.TheVariants.{Old, New}

-- ---- a link

-- the datagrams that its polls will give, one a poll that doesn't fail, or none there; past the end
-- there is none. And which of its calls will fail, polls and sends in one list; past the end none.
pub record LinkAhead : Type 0 where
  pub gives : List (Option (List ℕ))
  pub failing : List Bool

-- what a poll comes to
pub data Polled : Type 0 where
  failed : Polled
  empty : Polled
  gave : List ℕ → Polled

-- what the next poll gives where it doesn't fail, and what those after it give
abbrev pub given : List (Option (List ℕ)) → Polled
given [] = empty
given (None ∷ later) = empty
given (Some datagram ∷ later) = gave datagram

abbrev pub after_given : List (Option (List ℕ)) → List (Option (List ℕ))
after_given [] = []
after_given (first ∷ later) = later

-- what the next poll comes to, and the link after it: a poll that fails takes nothing
abbrev pub polled : LinkAhead → Polled
polled link = if fails_next link.failing then failed else given link.gives

abbrev pub past_poll : LinkAhead → LinkAhead
past_poll link = record {
  gives = if fails_next link.failing then link.gives else after_given link.gives;
  failing = after_next link.failing;
}

-- the link after a send
abbrev pub past_send : LinkAhead → LinkAhead
past_send link = record link { failing = after_next link.failing }

-- ---- a clock

-- the reading that it shows next, and those after it; the last of them again and again
pub record ClockAhead : Type 0 where
  pub shows : ℕ
  pub later : List ℕ

abbrev pub from_reading : ℕ → List ℕ → ClockAhead
from_reading last [] = record { shows = last; later = [] }
from_reading first (second ∷ later) = record { shows = second; later = later }

abbrev pub past_reading : ClockAhead → ClockAhead
past_reading clock = from_reading clock.shows clock.later

-- ---- both links and the clock

pub record Outside : Type 0 where
  pub old : LinkAhead
  pub new : LinkAhead
  pub clock : ClockAhead

-- the link of a face
abbrev pub link_at : Outside → Face → LinkAhead
link_at o Old = o.old
link_at o New = o.new

abbrev pub with_link : Outside → Face → LinkAhead → Outside
with_link o Old link = record o { old = link }
with_link o New link = record o { new = link }
