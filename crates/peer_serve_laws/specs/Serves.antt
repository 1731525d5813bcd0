-- With the settings of `serve`, a run sends what `serve` sends.

use Rattle.std.specs.Prelude.{◌≡◌, ℕ, zero, suc, ◌+◌, ◌-◌, ◌^◌, ◌<◌, ◌≤◌, List, [], ◌∷◌, length}
use Rattle.std.specs.Prelude.{map}
use Rattle.std.specs.Prelude.{Option, None}
use Rattle.gate_cases.specs.declared.face.Face.{Face}
use Rattle.gate_cases.specs.declared.face.Face.TheVariants.{Old, New}
use Rattle.gateway_core.specs.Gate.{Gate, GateSetup, GateStep, arrives_at, starts_gate, stays_so}
use Rattle.gateway_core.specs.Gate.{ticks_gate}
use Rattle.outbox.specs.declared.reading.Reading.{Reading}
use Rattle.outbox.specs.Outbox.{first_of}
use Rattle.serve_run.specs.Outside.{ClockAhead, LinkAhead, Outside}
use Rattle.serve_run.specs.Serve.{serve_turns, setup_named}
use Rattle.serve_run.specs.Turns.{sent_on}
use Rattle.peer_cases.specs.Laws.{IsPlain}
use Rattle.peer_gateway.specs.Keys.{PeerSetup}
use Rattle.peer_gateway.specs.Gate.{PeerGate}
use Rattle.peer_gateway.specs.Steps.{PeerEvent, a_datagram, a_kept_piece, a_tick, peer_gate_after}
use Rattle.peer_gateway.specs.Steps.{with_outboxes}
use Rattle.peer_half.specs.Half.{Came}
use Rattle.peer_half.specs.Laws.{tried_at}
use Rattle.peer_half.specs.Runs.{EventIn, Run, acts_of, events_of, first_gate, setup_of}
use Rattle.peer_run_laws.specs.Faces.{config_of, put_into, sent_in}
use Rattle.peer_serve_laws.specs.Steps.{ComesFreely, PassFreely, plain_setup}

-- ---- the clocks and the datagrams of a run

-- from a reading on, the two clocks go on alike, and show moments that a face's time can have
abbrev pub GoAlike : Reading → List Came → Type 0
GoAlike before [] = Unit {0}
GoAlike before (came ∷ more) =
    (before.monotonic ≤ (came.reading).monotonic)
    × ((came.reading).wall ≡ before.wall + ((came.reading).monotonic - before.monotonic))
    × ((came.reading).wall < 2 ^ 62)
    × GoAlike came.reading more

-- from the first one on
abbrev pub ClocksAreOne : List Came → Type 0
ClocksAreOne [] = Unit {0}
ClocksAreOne (came ∷ more) = GoAlike came.reading more

-- to each half one datagram comes at most
abbrev pub ComeSingly : List Came → Type 0
ComeSingly [] = Unit {0}
ComeSingly (came ∷ more) = (length came.datagrams ≤ 1) × ComeSingly more

-- ---- what the gate of `serve` makes of the same events

-- of an event at a moment; it knows no pieces of earlier runs
abbrev pub plain_step : GateSetup → PeerEvent → ℕ → Gate → GateStep
plain_step s (a_datagram face read) now h = arrives_at s face read now h
plain_step s a_tick now h = ticks_gate s now h
plain_step s (a_kept_piece face octets came) now h = stays_so h

-- of events, the newest first, each at the moment of its wall clock
unfoldable pub plain_after : GateSetup → List EventIn → Gate
plain_after s [] = starts_gate s
plain_after s (event ∷ earlier) = (plain_step s event.0 (event.1.0).wall (plain_after s earlier)).gate

-- with an event neither gate meets a bound, and it is none of a piece of an earlier run
abbrev pub EventIsFree : PeerSetup → PeerEvent → EventIn → PeerGate → Gate → Type 0
EventIsFree s (a_datagram face read) event g h =
    ComesFreely s face read event.1.0 (with_outboxes event.1.1 g) h
EventIsFree s a_tick event g h = PassFreely s event.1.0 (with_outboxes event.1.1 g)
EventIsFree s (a_kept_piece face octets came) event g h = ⊥

-- nor with any of these, the newest first
unfoldable pub AreFree : PeerSetup → PeerGate → List EventIn → Type 0
AreFree s start [] = Unit {0}
AreFree s start (event ∷ earlier) =
    EventIsFree s event.0 event (peer_gate_after s start earlier) (plain_after (plain_setup s) earlier)
    × AreFree s start earlier

-- ---- a run that is as one of `serve`

-- No journal is kept. The run is set up as `serve` is: the numbers of its engines, the first sessions, how they send,
-- how many sessions there are, and the cut; the block types are the gateway's own, nothing is left out, and no age is
-- raised; each piece goes alone. Its faces have no contacts and no rate. Its clocks are one, and one datagram comes
-- to a half at most. All that is sent is put into the outboxes. And neither gate meets a bound.
pub record IsAsServe (r : Run) : Type 0 where
  pub no_journal : r.kept ≡ None
  pub setup : plain_setup (setup_of r) ≡ setup_named ((r.file).gateway).endpoint
  pub settings : IsPlain (setup_of r).settings
  pub alone : (at : Face) → (config_of r at).aggregate ≡ 0
  pub contacts : (at : Face) → (config_of r at).contacts ≡ []
  pub rates : (at : Face) → (config_of r at).rate ≡ None
  pub one_clock : ClocksAreOne r.comes
  pub singly : ComeSingly r.comes
  pub put : (at : Face) → put_into at r ≡ sent_in at r
  pub free : AreFree (setup_of r) (first_gate r) (events_of r)

-- ---- the same as `serve` sees it

-- what the polls of the halves of a face give, the first half being the old one's
abbrev pub polls_give : Face → Face → List Came → List (Option (List ℕ))
polls_give at face [] = []
polls_give Old Old (came ∷ more) = first_of came.datagrams ∷ polls_give Old New more
polls_give Old New (came ∷ more) = polls_give Old Old more
polls_give New Old (came ∷ more) = polls_give New New more
polls_give New New (came ∷ more) = first_of came.datagrams ∷ polls_give New Old more

abbrev pub wall_in : Came → ℕ
wall_in came = (came.reading).wall

-- a clock that shows the readings
abbrev pub clock_over : ℕ → List Came → ClockAhead
clock_over wall [] = record { shows = wall; later = [] }
clock_over wall (came ∷ more) = record { shows = wall_in came; later = map wall_in more }

-- links that give the datagrams, of which no call fails
abbrev pub link_over : Face → List Came → LinkAhead
link_over at comes = record { gives = polls_give at Old comes; failing = [] }

abbrev pub outside_over : Run → Outside
outside_over r = record {
  old = link_over Old r.comes;
  new = link_over New r.comes;
  clock = clock_over r.wall r.comes;
}

-- how many turns are these halves; half a turn isn't one
abbrev pub turns_in : List Came → ℕ
turns_in [] = zero
turns_in (old ∷ []) = zero
turns_in (old ∷ new ∷ more) = suc (turns_in more)

abbrev pub AreTurns : List Came → Type 0
AreTurns [] = Unit {0}
AreTurns (old ∷ []) = ⊥
AreTurns (old ∷ new ∷ more) = AreTurns more

-- what goes out in such a run of whole turns is what `serve` sends, at each face, in order
abbrev pub ServesAlike : Type 0
ServesAlike =
    (r : Run) → IsAsServe r → AreTurns r.comes → (at : Face)
    → tried_at at (acts_of r)
    ≡ sent_on at (serve_turns ((r.file).gateway).endpoint (turns_in r.comes) (outside_over r)).made
