-- A world of the code as a value.

use Rattle.std.specs.Prelude.{ℕ, Bool, List, [], ◌∷◌, map}
use Rattle.ltp_session.specs.Engine.{Party}
use Rattle.ltp_engine.specs.declared.effects.Effects.{Effects}
use Rattle.ltp_engine.specs.Values.{EngineValue}
use Rattle.ltp_world.specs.declared.ends.End.{End}
use Rattle.ltp_world.specs.declared.ends.End.TheVariants as ends
use Rattle.ltp_world.specs.declared.effects.EndEffects.{EndEffects}
use Rattle.ltp_world.specs.declared.sent.Sent.{Sent}

-- whether memory ran out in a call, after which the value may only be dropped; both engines; every
-- datagram that was ever sent, in order; and the moment that the
-- clock shows
pub record WorldValue : Type 0 where
  pub spent : Bool
  pub engines : EngineValue × EngineValue
  pub sent : List Sent
  pub moment : ℕ

abbrev pub parties_of : WorldValue → Party × Party
parties_of v = (v.engines.0.party, v.engines.1.party)

-- datagrams that an end sent
abbrev pub sent_from : End → List (List ℕ) → List Sent
sent_from from datagrams = map (λ datagram. record { from = from; datagram = datagram }) datagrams

-- what both ends do
abbrev pub both_ends : Effects → Effects → List EndEffects
both_ends first second =
    record { end = ends.First; effects = first } ∷ record { end = ends.Second; effects = second }
    ∷ []
