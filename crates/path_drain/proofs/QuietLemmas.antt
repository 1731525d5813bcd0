-- A clock that is set to a moment before every deadline does nothing but show it.

use Rattle.std.proofs.Common.{◌≡◌, ℕ, ◌<◌, ◌≤◌, false, List, [], ◌∷◌, Option, None, Some}
use Rattle.std.proofs.Common.{refl, ◌∙◌, ap, arith, nat_le, nat_lt}
use Rattle.std.proofs.lemmas.Bool.Decides.{nat_tests}
use Rattle.std.proofs.lemmas.List.{append-nil}
use Rattle.gateway_core.specs.Gate.{Gate, GateSetup, and_then, stays_so, ticks_gate}
use Rattle.ltp_segment.specs.Policy.{PolicyValue}
use Rattle.ltp_session.specs.Engine.{Engine, EngineStep, Party, earlier, least_deadline}
use Rattle.ltp_session.specs.Engine.{next_deadline, receiver_ticks, sender_ticks, tick_remarks}
use Rattle.ltp_session.specs.Engine.{tick_segments, tick_step}
use Rattle.ltp_session.specs.Receiver.{Receiving, ReceivingPhase, receiver_cancelling}
use Rattle.ltp_session.specs.Receiver.{receiver_deadline, receiver_due, receiver_open}
use Rattle.ltp_session.specs.Receiver.{receiver_tick, receiving_timer}
use Rattle.ltp_session.specs.Sender.{Sending, sender_deadline, sender_tick}
use Rattle.ltp_session.specs.Step.{StepValue, sending, stays}
use Rattle.ltp_session.specs.Table.{ended, ticked}
use Rattle.std.specs.Option.{option_map}
use Rattle.path_laws.specs.declared.places.PathEnd.{PathEnd}
use Rattle.path_laws.specs.declared.places.PathEnd.TheVariants as ends
use Rattle.path_laws.specs.Path.{Path, PathSetup, PathStep, at_path_end, gate_does}
use Rattle.path_laws.specs.Path.{fragments_in, joins_then, joins_told, node_ticks, nothing_done}
use Rattle.path_laws.specs.Path.{path_step, then_does}
use Rattle.path_drain.specs.Moments.{IsBeforeAny, QuietClocksGoOn}

-- ---- one session

not-yet : (now deadline : ℕ) → now < deadline → nat_le deadline now ≡ false
not-yet now deadline before = grind (arith, nat_tests)

quiet-sender : (policy : PolicyValue) (now : ℕ) (s : Sending) → IsBeforeAny now (sender_deadline s)
    → sender_tick policy s now ≡ sending stays []
unfolding sender_tick
quiet-sender policy now s before = rw (not-yet now _ before) refl

quiet-receiver : (policy : PolicyValue) (now : ℕ) (r : Receiving)
    → IsBeforeAny now (receiver_deadline r) → receiver_tick policy r now ≡ sending stays []
unfolding receiver_tick
quiet-receiver policy now r before = by_phase r.phase before
  where
    by_phase : (phase : ReceivingPhase)
        → IsBeforeAny now (option_map (λ timer. timer.deadline) (receiving_timer phase))
        → receiver_due policy r phase now ≡ sending stays []
    by_phase (receiver_open None) before = refl
    by_phase (receiver_open (Some pending)) before = rw (not-yet now _ before) refl
    by_phase (receiver_cancelling reason timer) before = rw (not-yet now _ before) refl

-- ---- all of them

before-both : (now : ℕ) (a b : Option ℕ) → IsBeforeAny now (earlier a b)
    → IsBeforeAny now a × IsBeforeAny now b
before-both now None b before = (tt, before)
before-both now (Some a) None before = (before, tt)
before-both now (Some a) (Some b) before = (omega (arith, before), omega (arith, before))

record IsQuiet {S : Type 0} (tick : S → StepValue S) (o : ℕ) (es : List (ℕ × S)) : Type 0 where
  same : ticked (λ s. (tick s).next) es ≡ es
  none : ended (λ s. (tick s).next) es ≡ []
  segments : tick_segments tick o es ≡ []
  remarks : tick_remarks tick es ≡ []

quiet-table : {S : Type 0} (tick : S → StepValue S) (deadline : S → Option ℕ) (now o : ℕ)
    → ((s : S) → IsBeforeAny now (deadline s) → tick s ≡ sending stays []) → (es : List (ℕ × S))
    → IsBeforeAny now (least_deadline deadline es) → IsQuiet tick o es
unfolding least_deadline ticked ended tick_segments tick_remarks
quiet-table tick deadline now o quiet [] before =
    record { same = refl; none = refl; segments = refl; remarks = refl }
quiet-table tick deadline now o quiet (e ∷ es) before =
    let both = before-both now (deadline e.1) (least_deadline deadline es) before in
    let here = quiet e.1 both.0 in
    let rest = quiet-table tick deadline now o quiet es both.1 in
    record {
      same = rw (here, rest.same) refl;
      none = rw (here, rest.none) refl;
      segments = rw (here, rest.segments) refl;
      remarks = rw (here, rest.remarks) refl;
    }

-- ---- an engine

abbrev still : Engine → EngineStep
still e = record { engine = e; effects = record { out = []; ups = []; greens = []; notes = [] } }

quiet-engine : (p : Party) (e : Engine) (now : ℕ) → IsBeforeAny now (next_deadline e)
    → tick_step p e now ≡ still e
unfolding tick_step
quiet-engine p e now before =
    rw (
      senders.same,
      receivers.same,
      receivers.none,
      senders.segments,
      receivers.segments,
      senders.remarks,
      receivers.remarks,
    ) refl
  where
    both : IsBeforeAny now (least_deadline sender_deadline e.senders)
        × IsBeforeAny now (least_deadline receiver_deadline e.receivers)
    both = before-both now (least_deadline sender_deadline e.senders)
        (least_deadline receiver_deadline e.receivers) before

    senders : IsQuiet (sender_ticks p now) p.own e.senders
    senders = quiet-table (sender_ticks p now) sender_deadline now p.own
        (λ s early. quiet-sender p.policy now s early) e.senders both.0

    receivers : IsQuiet (receiver_ticks p now) p.peer e.receivers
    receivers = quiet-table (receiver_ticks p now) receiver_deadline now p.peer
        (λ r early. quiet-receiver p.policy now r early) e.receivers both.1

-- ---- a path

quiet-gate : (s : GateSetup) (g : Gate) (now : ℕ) → IsBeforeAny now (next_deadline g.engines.0)
    → IsBeforeAny now (next_deadline g.engines.1) → ticks_gate s now g ≡ stays_so g
unfolding ticks_gate and_then
quiet-gate s g now old new =
    rw (
      quiet-engine s.parties.0 g.engines.0 now old,
      quiet-engine s.parties.1 g.engines.1 now new,
    ) refl

-- nothing happened to it
abbrev unmoved : Path → PathStep
unmoved w = record { path = w; effects = nothing_done }

quiet-node : (s : PathSetup) (w : Path) (now : ℕ) (end : PathEnd)
    → IsBeforeAny now (next_deadline (at_path_end w.nodes end)) → node_ticks s now end w ≡ unmoved w
unfolding fragments_in joins_told joins_then
quiet-node s w now ends.Old before =
    rw (quiet-engine s.nodes.0 w.nodes.0 now before, append-nil w.sent) refl
quiet-node s w now ends.New before =
    rw (quiet-engine s.nodes.1 w.nodes.1 now before, append-nil w.sent) refl

gate-unmoved : (w : Path) → gate_does w (stays_so w.gate) ≡ unmoved w
gate-unmoved w = rw (append-nil w.sent) refl

-- one step that does nothing, and then another
then-unmoved : (step : PathStep) (next : Path → PathStep) (w : Path) → step ≡ unmoved w
    → next w ≡ unmoved w → then_does step next ≡ unmoved w
unfolding then_does
then-unmoved step next w first second = rw (first, second) refl

pub quiet-clocks : QuietClocksGoOn
unfolding path_step
quiet-clocks s w now later before =
    rw (not-less now w.now later)
    (then-unmoved (node_ticks s now ends.Old shown)
    (λ (x : Path). then_does (gate_does x (ticks_gate s.gate now x.gate))
    (node_ticks s now ends.New)) shown
    (quiet-node s shown now ends.Old old.0)
    (then-unmoved (gate_does shown (ticks_gate s.gate now w.gate)) (node_ticks s now ends.New) shown
    (ap (gate_does shown) (quiet-gate s.gate w.gate now old.1 new.0) ∙ gate-unmoved shown)
    (quiet-node s shown now ends.New new.1)))
  where
    not-less : (a b : ℕ) → b ≤ a → nat_lt a b ≡ false
    not-less a b low = grind (arith, nat_tests)

    shown : Path
    shown = record w { now = now }

    links : IsBeforeAny now (earlier (next_deadline w.nodes.0) (next_deadline w.gate.engines.0))
        × IsBeforeAny now (earlier (next_deadline w.gate.engines.1) (next_deadline w.nodes.1))
    links = before-both now
        (earlier (next_deadline w.nodes.0) (next_deadline w.gate.engines.0))
        (earlier (next_deadline w.gate.engines.1) (next_deadline w.nodes.1)) before

    old : IsBeforeAny now (next_deadline w.nodes.0)
        × IsBeforeAny now (next_deadline w.gate.engines.0)
    old = before-both now (next_deadline w.nodes.0) (next_deadline w.gate.engines.0) links.0

    new : IsBeforeAny now (next_deadline w.gate.engines.1)
        × IsBeforeAny now (next_deadline w.nodes.1)
    new = before-both now (next_deadline w.gate.engines.1) (next_deadline w.nodes.1) links.1
