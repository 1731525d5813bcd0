-- What happens to the gate of `serve` in a run, as the calls of the run say; so the receiver's law
-- holds of it at each face (RFC 5326, section 6.9).

use Rattle.std.specs.Prelude.{◌≡◌, ℕ, ◌↔◌, List, [], ◌∷◌, ◌++◌, map}
use Rattle.std.specs.List.{flat_map}
use Rattle.endpoint.specs.declared.name.Endpoint.{Endpoint}
use Rattle.ltp_segment.specs.Reading.{segment_of}
use Rattle.ltp_session.specs.RedPart.{BecomesWhole}
use Rattle.ltp_engine.specs.RedParts.{pieces_of, EachOnce}
use Rattle.ltp_laws.specs.View.{IsIn}
use Rattle.edge_traits.specs.Outcome.{SinkTells}
use Rattle.edge_traits.specs.declared.status.Status.{Status}
use Rattle.gate_cases.specs.declared.face.Face.{Face}
use Rattle.gateway_core.specs.declared.effects.Routed.{Routed}
use Rattle.gateway_core.specs.Gate.{GateSetup, GateEvent, a_datagram_at, a_moment_at_both, at_face, gate_with, gate_after}
use Rattle.gateway_core.specs.Effects.{routed_of}
use Rattle.gateway_core.specs.Comings.{comings_at}
use Rattle.gateway_core.specs.RedParts.{ups_with_event, ups_on, face_ups}
use Rattle.serve_run.specs.Outside.{Outside, failed, empty, gave}
use Rattle.serve_run.specs.Turns.{Call, clock_read, link_polled, datagram_sent, datagram_lost, lines_written, Made, Acted}
use Rattle.serve_run.specs.WrittenLines.{step_text}
use Rattle.serve_run.specs.Serve.{Serving, serve_turns, setup_named}
use Rattle.serve_run.specs.Tells.{OutsideTells, RanTurns}

-- ---- the events of a run

-- The events that calls are, after earlier ones, the newest first; the clock's last reading was this.
-- A reading is a moment for the sessions of both faces. A datagram that a poll gives comes at its
-- face, at the moment of the last reading.
abbrev pub events_with : (last : ℕ) → List GateEvent → Made → List GateEvent
events_with last earlier [] = earlier
events_with last earlier (clock_read now ∷ later) =
    events_with now (a_moment_at_both now ∷ earlier) later
events_with last earlier (link_polled face failed ∷ later) = events_with last earlier later
events_with last earlier (link_polled face empty ∷ later) = events_with last earlier later
events_with last earlier (link_polled face (gave datagram) ∷ later) =
    events_with last (a_datagram_at face (segment_of datagram) last ∷ earlier) later
events_with last earlier (datagram_sent face datagram ∷ later) = events_with last earlier later
events_with last earlier (datagram_lost face datagram ∷ later) = events_with last earlier later
events_with last earlier (lines_written text ∷ later) = events_with last earlier later

-- those of a run, the newest first; its first call is a reading
abbrev pub served_events : Made → List GateEvent
served_events made = events_with 0 [] made

-- ---- what the steps of a run do, in their order

-- the lines of each step
abbrev pub lines_in : Call → List (List ℕ)
lines_in (clock_read now) = []
lines_in (link_polled face polled) = []
lines_in (datagram_sent face datagram) = []
lines_in (datagram_lost face datagram) = []
lines_in (lines_written text) = text ∷ []

abbrev pub step_lines : Made → List (List ℕ)
step_lines made = flat_map lines_in made

-- the datagrams that are sent or lost
abbrev pub datagrams_in : Call → List Routed
datagrams_in (clock_read now) = []
datagrams_in (link_polled face polled) = []
datagrams_in (datagram_sent face datagram) = record { face = face; datagram = datagram } ∷ []
datagrams_in (datagram_lost face datagram) = record { face = face; datagram = datagram } ∷ []
datagrams_in (lines_written text) = []

abbrev pub step_datagrams : Made → List Routed
step_datagrams made = flat_map datagrams_in made

-- ---- what a gate does with events, the newest first, in the order in which it does it

-- the lines of each step: an `up` line for each red part that is handed up, and then its notes
abbrev pub lines_with : GateSetup → List GateEvent → List (List ℕ)
lines_with s [] = []
lines_with s (event ∷ earlier) =
    lines_with s earlier
    ++ step_text (ups_with_event s earlier event) (gate_with s (gate_after s earlier) event).effects.notes ∷ []

-- the datagrams
abbrev pub datagrams_with : GateSetup → List GateEvent → List Routed
datagrams_with s [] = []
datagrams_with s (event ∷ earlier) =
    datagrams_with s earlier ++ map routed_of (gate_with s (gate_after s earlier) event).effects.out

-- ---- the law

-- What a run of a gate made is what the gate does with these events, step by step: it is as they leave
-- it; each step's lines begin with an `up` line for each red part that is handed up with its event; and
-- these datagrams were sent or lost. At each face no session's red part is handed up twice, and one is
-- handed up with the event that makes it whole, and with no other: place by place the first octet that
-- came.
pub record ServesEvents (s : GateSetup) (run : Acted Serving) (events : List GateEvent) : Type 0 where
  pub gate : run.value ≡ record { setup = s; gate = gate_after s events }
  pub lines : step_lines run.made ≡ lines_with s events
  pub datagrams : step_datagrams run.made ≡ datagrams_with s events
  pub once : (at : Face) → EachOnce (face_ups s at events)
  pub red_parts : (at : Face) (n : ℕ) (body : List ℕ) (later earlier : List GateEvent) (event : GateEvent)
      → events ≡ later ++ event ∷ earlier
      → IsIn (record { session = n; body = body }) (ups_on at (ups_with_event s earlier event))
      ↔ BecomesWhole (pieces_of (at_face s.parties at) n (comings_at s at earlier))
      (pieces_of (at_face s.parties at) n (comings_at s at (event ∷ earlier))) body

-- whatever the outside is, a run of `serve` goes as the events have it that its calls are
abbrev pub RunsKeepLaw : Type 0
RunsKeepLaw = (gate : Endpoint) (count : ℕ) (o : Outside)
    → ServesEvents (setup_named gate) (serve_turns gate count o) (served_events (serve_turns gate count o).made)

-- so each run of `serve` went, and what was made is that or a front of it
pub record Served (gate : Endpoint) (count : ℕ) (status : Status) (before now : OutsideTells) (sink sink_now : SinkTells) : Type 0 where
  pub ran : RanTurns (serve_turns gate count) status before now sink sink_now
  pub law : ServesEvents (setup_named gate) (serve_turns gate count ran.outside) (served_events (serve_turns gate count ran.outside).made)
