-- What the code does at one of two engines.

use Rattle.std.specs.Prelude.{◌≡◌, ℕ, ◌<◌, ◌^◌, ◌||◌, Bool, false, List, Result}
use Rattle.ltp_segment.specs.Reading.{segment_of}
use Rattle.ltp_session.specs.Engine.{submits, submit_step, datagram_step}
use Rattle.ltp_session.specs.World.{at_end, other}
use Rattle.ltp_engine.specs.declared.effects.Effects.{Effects}
use Rattle.ltp_engine.specs.declared.refused.SubmitRefused.{SubmitRefused}
use Rattle.ltp_engine.specs.Values.{EngineValue}
use Rattle.ltp_engine.specs.Steps.{Steps}
use Rattle.ltp_engine.specs.Steps.{Submits as EngineSubmits}
use Rattle.ltp_world.specs.declared.ends.End.{End}
use Rattle.ltp_world.specs.declared.sent.Sent.{Sent}
use Rattle.ltp_world.specs.Ends.{link_end}
use Rattle.ltp_world.specs.Shows.{Stands}
use Rattle.ltp_world.specs.Values.{WorldValue}

-- a world of these parts; memory ran out in it, or in one of its engines, or in none
abbrev pub made_world : Bool → EngineValue × EngineValue → List Sent → ℕ → WorldValue
made_world broken engines sent now = record {
  spent = broken || (engines.0.spent || engines.1.spent);
  engines = engines;
  sent = sent;
  moment = now;
}

-- what every call keeps of a world: a clock below 2^62, and that a run leads to where it stands
pub record IsSound (v : WorldValue) : Type 0 where
  pub moment : v.moment < 2 ^ 62
  pub stands : v.spent ≡ false → Stands v

-- the engine of the other end is as it was
abbrev pub OtherStays : End → EngineValue × EngineValue → EngineValue × EngineValue → Type 0
OtherStays end old new = at_end new (other (link_end end)) ≡ at_end old (other (link_end end))

-- an end's engine submits a block
abbrev pub SubmitsAt : End → EngineValue × EngineValue → EngineValue × EngineValue → List ℕ → ℕ → ℕ
    → Result Effects SubmitRefused → Type 0
SubmitsAt end old new block red now result =
    OtherStays end old new
    × EngineSubmits (at_end old (link_end end)) (at_end new (link_end end))
    (λ e. submit_step (at_end old (link_end end)).party e
    (submits (at_end old (link_end end)).party e block red now)) result

-- a datagram comes to it
abbrev pub HearsAt : End → EngineValue × EngineValue → EngineValue × EngineValue → List ℕ → ℕ
    → Effects → Type 0
HearsAt end old new datagram now effects =
    OtherStays end old new
    × Steps (at_end old (link_end end)) (at_end new (link_end end))
    (λ e. datagram_step (at_end old (link_end end)).party e (segment_of datagram) now) effects
