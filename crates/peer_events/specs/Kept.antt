-- Where an own session stands among others.

use Rattle.std.specs.Prelude.{◌≡◌, ℕ, ◌+◌, ◌<◌, List, ◌++◌, length, take, drop, Option, None, Some}
use Rattle.std.specs.List.{slice_get}
use Rattle.gate_cases.specs.declared.face.Face.{Face}
use Rattle.peer_events.specs.declared.own.OwnBlock.{OwnBlock}
use Rattle.peer_events.specs.Own.{find_own, without_own}

-- the session of a face with this number is the one at a place
pub record IsAt (face : Face) (session : ℕ) (own : List OwnBlock) (place : ℕ) : Type 0 where
  pub within : place < length own
  pub found : find_own face session own ≡ slice_get own place
  pub left : without_own face session own ≡ take place own ++ drop (place + 1) own

-- there is none
pub record IsNowhere (face : Face) (session : ℕ) (own : List OwnBlock) : Type 0 where
  pub found : find_own face session own ≡ None
  pub left : without_own face session own ≡ own

abbrev pub StandsAt : Face → ℕ → List OwnBlock → Option ℕ → Type 0
StandsAt face session own None = IsNowhere face session own
StandsAt face session own (Some place) = IsAt face session own place
