-- A world of the code stands for a link after a run. The code keeps datagrams, and the definition
-- the segments that they are read as.

use Rattle.std.specs.Prelude.{◌≡◌, false, List, map}
use Rattle.ltp_segment.specs.Spelling.{segment_octets}
use Rattle.ltp_session.specs.Engine.{starts}
use Rattle.ltp_session.specs.World.{ArePeers, Event, World, run, starts_world}
use Rattle.ltp_session.specs.World.{Sent as LinkSent}
use Rattle.ltp_engine.specs.Values.{EngineValue}
use Rattle.ltp_engine.specs.Shows.{Shows}
use Rattle.ltp_engine.specs.Bounds.{IsBounded}
use Rattle.ltp_drain.specs.Hopeful.{AreAlike}
use Rattle.ltp_laws.specs.Writable.{HasSmallNumbers}
use Rattle.ltp_world.specs.declared.sent.Sent.{Sent}
use Rattle.ltp_world.specs.Ends.{named}
use Rattle.ltp_world.specs.Values.{WorldValue, parties_of}

-- an engine at its beginning, whose numbers are of 64 bits
pub record IsNew (v : EngineValue) : Type 0 where
  pub whole : v.spent ≡ false
  pub shows : Shows v (starts v.party)
  pub small : HasSmallNumbers v.party
  pub bounds : IsBounded v

-- both engines keep their bounds
abbrev pub AreBounded : EngineValue × EngineValue → Type 0
AreBounded engines = IsBounded engines.0 × IsBounded engines.1

-- a segment that an end sent, as its octets
abbrev pub spelled : LinkSent → Sent
spelled d = record { from = named d.from; datagram = segment_octets d.segment }

-- the world stands for this link
pub record ShowsLink (v : WorldValue) (w : World) : Type 0 where
  pub first : Shows v.engines.0 w.engines.0
  pub second : Shows v.engines.1 w.engines.1
  pub sent : v.sent ≡ map spelled w.sent
  pub now : w.now ≡ v.moment

-- the link after some events
abbrev pub link_after : WorldValue → List Event → World
link_after v events = run (parties_of v) (starts_world (parties_of v)) events

-- the world stands where a run of these events leads
pub record ShowsRun (v : WorldValue) (events : List Event) : Type 0 where
  pub peers : ArePeers (parties_of v)
  pub alike : AreAlike (parties_of v)
  pub first_small : HasSmallNumbers v.engines.0.party
  pub second_small : HasSmallNumbers v.engines.1.party
  pub link : ShowsLink v (link_after v events)

-- the world stands where some run leads
pub record Stands (v : WorldValue) : Type 0 where
  pub events : List Event
  pub shows : ShowsRun v events
