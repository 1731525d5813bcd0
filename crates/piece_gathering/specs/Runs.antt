-- Runs of a gathering: events, and what goes.

use Rattle.std.specs.Prelude.{ℕ, List, [], ◌∷◌, ◌++◌}
use Rattle.piece_gathering.specs.declared.piece.Piece.{Piece}
use Rattle.piece_gathering.specs.Gathered.{GatheringValue, added_to, going, gone_from}

-- a piece is added; or a session is free at a moment, and what is ready goes
pub data Event : Type 0 where
  adds : Piece → Event
  frees : ℕ → Event

abbrev pub after_event : Event → GatheringValue → GatheringValue
after_event (adds piece) g = added_to g piece
after_event (frees now) g = gone_from g now

abbrev pub goes_at : Event → GatheringValue → List Piece
goes_at (adds piece) g = []
goes_at (frees now) g = going g now

-- the pieces that were added, in order
abbrev pub added_by : List Event → List Piece
added_by [] = []
added_by (adds piece ∷ events) = piece ∷ added_by events
added_by (frees now ∷ events) = added_by events

-- all that went, in order, and what waits at the end
abbrev pub gone_by : List Event → GatheringValue → List Piece
gone_by [] g = []
gone_by (event ∷ events) g = goes_at event g ++ gone_by events (after_event event g)

abbrev pub after_events : List Event → GatheringValue → GatheringValue
after_events [] g = g
after_events (event ∷ events) g = after_events events (after_event event g)
