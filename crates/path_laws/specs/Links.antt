-- The two links of a path. What happens on each is what happens to two engines on a link.

use Rattle.std.specs.Prelude.{ℕ, List, [], ◌∷◌, ◌++◌, length, take, Option, None, Some, slice_get}
use Rattle.ltp_session.specs.Engine.{Party, Engine}
use Rattle.ltp_session.specs.World.{Event, World, clock, deliver, submit}
use Rattle.ltp_session.specs.World.{Sent as LinkSent}
use Rattle.gate_cases.specs.declared.face.Face.{Face}
use Rattle.gate_cases.specs.declared.face.Face.TheVariants as faces
use Rattle.path_laws.specs.Places.{link_of, link_end_of, if_link, on_link}
use Rattle.path_laws.specs.Path.{PathSetup, Path, SentFrom, PathEvent, sends, delivers}
use Rattle.path_laws.specs.Path.{clock_shows, path_step}
use Rattle.path_laws.specs.Log.{Begun, begun_at}

-- who is on a link, by the face that it leads to
abbrev pub link_parties : PathSetup → Face → Party × Party
link_parties s faces.Old = (s.nodes.0, s.gate.parties.0)
link_parties s faces.New = (s.gate.parties.1, s.nodes.1)

abbrev pub link_engines : Path → Face → Engine × Engine
link_engines w faces.Old = (w.nodes.0, w.gate.engines.0)
link_engines w faces.New = (w.gate.engines.1, w.nodes.1)

-- what was sent on a link
abbrev pub link_sent : SentFrom → LinkSent
link_sent d = record { from = link_end_of d.from; segment = d.segment }

abbrev pub sent_on : Face → List SentFrom → List LinkSent
sent_on face sent = on_link (λ (d : SentFrom). d.from) link_sent face sent

-- a link of a path
abbrev pub link_at : Face → Path → World
link_at face w = record {
  engines = link_engines w face;
  sent = sent_on face w.sent;
  now = w.now;
}

-- ---- what happens on a link

-- a block that is submitted on it, all red
abbrev pub submit_of : Begun → Event
submit_of b = submit (link_end_of b.place) b.block (length b.block)

abbrev pub submits_on : Face → List Begun → List Event
submits_on face begun = on_link (λ (b : Begun). b.place) submit_of face begun

-- a delivery, by the number that the segment has on its link
abbrev pub delivery_on : Face → List SentFrom → ℕ → Option SentFrom → List Event
delivery_on face sent k None = []
delivery_on face sent k (Some d) =
    if_link face (link_of d.from) (deliver (length (sent_on face (take k sent))))

-- what comes first of an event
abbrev pub first_on : Face → Path → PathEvent → List Event
first_on face w (sends end block) = []
first_on face w (delivers k) = delivery_on face w.sent k (slice_get w.sent k)
first_on face w (clock_shows now) = clock now ∷ []

-- an event of a path, on a link: a delivery there, or the clock; and then the blocks that are
-- submitted there
abbrev pub events_at : Face → PathSetup → Path → PathEvent → List Event
events_at face s w event = first_on face w event ++ submits_on face (begun_at s w event)

-- all that happens on a link
unfoldable pub link_events : Face → PathSetup → Path → List PathEvent → List Event
link_events face s w [] = []
link_events face s w (event ∷ events) =
    events_at face s w event ++ link_events face s (path_step s w event).path events
