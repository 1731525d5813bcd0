-- A gateway at work goes on as the definition of a half says.

use Rattle.std.proofs.Common.{◌≡◌, ℕ, map, Option, refl, ap, sym, subst, ◌∙◌}
use Rattle.outbox.specs.declared.reading.Reading.{Reading}
use Rattle.peer_events.specs.Named.{AllNamed}
use Rattle.peer_events.specs.Own.{own_seen}
use Rattle.peer_events.proofs.NamedLemmas.{step-named}
use Rattle.peer_gateway.specs.Answers.{Answered, answer_of}
use Rattle.peer_gateway.specs.Gate.{PeerGate, PeerMoments, PeerStep}
use Rattle.peer_gateway.specs.Keys.{PeerSetup}
use Rattle.peer_gateway.specs.Steps.{PeerEvent, peer_step}
use Rattle.peer_gateway.specs.Ties.{PeerGatewayValue, PeerSteps}
use Rattle.peer_gateway.specs.Views.{moments_of}
use Rattle.peer_records.specs.Happened.{PeerHappened}
use Rattle.peer_half.specs.Journals.{Journalled}
use Rattle.peer_half.specs.Standing.{Standing}
use Rattle.peer_half.specs.Parts.{reads, starting}
use Rattle.peer_half.specs.Steps.{happened_in, happens_again, happens_with, opens_in, outboxes_in, recorded_with, step_of}
use Rattle.peer_live.specs.declared.work.Work.{Work}
use Rattle.peer_live.specs.Telling.{KeptValue, kept_of, outboxes_of, tells}
use Rattle.peer_live.specs.Shows.{Does, IsWhole, ShowsWork, did, reads_clocks, settles}
use Rattle.peer_live.proofs.KeptLemmas.{Rest, rest_of, kept-tells, rest-tells}

-- ---- what changes nothing but what is kept

pub kept-goes : (w : Work) (kept : KeptValue) (s t : Standing) → ShowsWork w s → kept ≡ kept_of t → rest_of t ≡ rest_of s → ShowsWork (record w { kept = kept }) t
kept-goes w kept s t shows is rest = record {
  setup = shows.setup ∙ sym (ap (λ (r : Rest). r.setup) rest);
  gate = shows.gate ∙ sym (ap (λ (r : Rest). r.gate) rest);
  moments = shows.moments ∙ sym (ap (λ (r : Rest). r.moments) rest);
  kept = is;
  old_first = shows.old_first ∙ sym (ap (λ (r : Rest). ((r.setup).keys.0.party).first) rest);
  new_first = shows.new_first ∙ sym (ap (λ (r : Rest). ((r.setup).keys.1.party).first) rest);
  started = shows.started ∙ sym (ap (λ (r : Rest). r.started) rest);
  shown = shows.shown ∙ sym (ap (λ (r : Rest). r.shown) rest);
  journal = shows.journal ∙ sym (ap (λ (r : Rest). r.journal) rest);
}

-- ---- one part after another

pub does-then : (old between new : Work) (one other : Standing → Standing) → Does old between one → Does between new other → Does old new (λ s. other (one s))
does-then old between new one other first next = record {
  whole = next.whole;
  goes_on = λ s shows. next.goes_on (one s) (first.goes_on s shows);
}

-- the clocks are read, and then `start` is said
pub does-reads : (old between new : Work) (now : Reading) → Does old between (reads_clocks now) → Does between new starting → Does old new (reads now)
unfolding reads
does-reads old between new now one other = does-then old between new (reads_clocks now) starting one other

-- ---- a step of the gateway

-- it did the run's step
pub record Stepped (gate : PeerGatewayValue) (answer : Answered) (event : PeerEvent) (s : Standing) : Type 0 where
  pub setup : gate.setup ≡ s.setup
  pub gate_is : gate.gate ≡ (step_of event s).gate
  pub answer_is : answer ≡ answer_of (step_of event s).effects

step-is : (w : Work) (event : PeerEvent) (octets : ℕ × ℕ) (s : Standing) → ShowsWork w s → octets ≡ outboxes_of (w.kept).faces
    → peer_step (w.gate).setup event (moments_of w.moments) octets (w.gate).gate ≡ step_of event s
step-is w event octets s shows octets_are =
    ap (λ (u : PeerSetup). peer_step u event (moments_of w.moments) octets (w.gate).gate) shows.setup
    ∙ ap (λ (m : PeerMoments). peer_step s.setup event m octets (w.gate).gate) shows.moments
    ∙ ap (λ (o : ℕ × ℕ). peer_step s.setup event s.moments o (w.gate).gate) (octets_are ∙ ap (λ (k : KeptValue). outboxes_of k.faces) shows.kept)
    ∙ ap (λ (g : PeerGate). peer_step s.setup event s.moments (outboxes_in s) g) shows.gate

pub steps-so : (w : Work) (gate : PeerGatewayValue) (event : PeerEvent) (octets : ℕ × ℕ) (answer : Answered) (s : Standing)
    → ShowsWork w s → octets ≡ outboxes_of (w.kept).faces → PeerSteps w.gate gate event (moments_of w.moments) octets answer
    → Stepped gate answer event s
steps-so w gate event octets answer s shows octets_are steps =
    let is = step-is w event octets s shows octets_are in
    record {
      setup = steps.setup ∙ shows.setup;
      gate_is = steps.gate ∙ ap (λ (step : PeerStep). step.gate) is;
      answer_is = steps.answer_is ∙ ap (λ (step : PeerStep). answer_of step.effects) is;
    }

-- what it did is what the definition says that it did
did-is : (w : Work) (gate : PeerGatewayValue) (again : Option ℕ) (event : PeerEvent) (answer : Answered) (s : Standing)
    → ShowsWork w s → IsWhole w → Stepped gate answer event s
    → did again answer (record w { gate = gate }) ≡ happened_in again event s
did-is w gate again event answer s shows whole step =
    let wall_is : (w.moments).wall ≡ (s.moments).wall = ap (λ (m : PeerMoments). m.wall) shows.moments in
    let own_is : map own_seen (w.kept).own ≡ map own_seen s.own = ap (λ (k : KeptValue). map own_seen k.own) shows.kept in
    rw (wall_is, own_is, step.gate_is, step.answer_is) refl

settled-kept : (w : Work) (gate : PeerGatewayValue) (event : PeerEvent) (answer : Answered) (s : Standing) → ShowsWork w s → Stepped gate answer event s
    → tells (opens_in gate.gate) answer w.kept
    ≡ tells (opens_in (step_of event s).gate) (answer_of (step_of event s).effects) (kept_of s)
settled-kept w gate event answer s shows step = rw (step.gate_is, step.answer_is, shows.kept) refl

pub settled-goes : (w : Work) (gate : PeerGatewayValue) (again : Option ℕ) (event : PeerEvent) (answer : Answered) (s : Standing)
    → ShowsWork w s → IsWhole w → Stepped gate answer event s
    → ShowsWork (settles again answer (record w { gate = gate })) (happens_again again event s)
unfolding happens_with
settled-goes w gate again event answer s shows whole step =
    let known : Option Journalled = recorded_with (happened_in again event s) s.journal in
    let after : Standing = record s { gate = (step_of event s).gate; journal = known } in
    let journal : Option Journalled = recorded_with (did again answer (record w { gate = gate })) w.journal in
    let known_is : journal ≡ known =
    ap (λ (h : PeerHappened). recorded_with h w.journal) (did-is w gate again event answer s shows whole step)
    ∙ ap (λ (j : Option Journalled). recorded_with (happened_in again event s) j) shows.journal in
    let told = kept-tells (opens_in (step_of event s).gate) (answer_of (step_of event s).effects) after in
    kept-goes (record w { gate = gate; journal = journal })
    (tells (opens_in gate.gate) answer w.kept) after (happens_again again event s)
    (record {
      setup = step.setup;
      gate = step.gate_is;
      moments = shows.moments;
      kept = shows.kept;
      old_first = shows.old_first;
      new_first = shows.new_first;
      started = shows.started;
      shown = shows.shown;
      journal = known_is;
    })
    (settled-kept w gate event answer s shows step ∙ told)
    (rest-tells (opens_in (step_of event s).gate) (answer_of (step_of event s).effects) after)

-- the names of what it tells have texts
pub named-after : (old new : PeerGatewayValue) (event : PeerEvent) (m : PeerMoments) (octets : ℕ × ℕ) (answer : Answered)
    → PeerSteps old new event m octets answer → AllNamed answer.told
named-after old new event m octets answer steps =
    subst (λ (a : Answered). AllNamed a.told) (sym steps.answer_is) (step-named old.setup event m octets old.gate)

-- it leaves the gateway whole
pub whole-after : (w : Work) (gate : PeerGatewayValue) (event : PeerEvent) (octets : ℕ × ℕ) (answer : Answered) → IsWhole w
    → PeerSteps w.gate gate event (moments_of w.moments) octets answer → IsWhole (record w { gate = gate })
whole-after w gate event octets answer whole steps = record {
  gate = steps.whole;
  moments = whole.moments;
}

pub whole-settled : (w : Work) (again : Option ℕ) (answer : Answered) → IsWhole w → IsWhole (settles again answer w)
whole-settled w again answer whole =
    record { gate = whole.gate; moments = whole.moments }

pub does-event : (w new : Work) (gate : PeerGatewayValue) (again : Option ℕ) (event : PeerEvent) (octets : ℕ × ℕ) (answer : Answered) → IsWhole w
    → octets ≡ outboxes_of (w.kept).faces → PeerSteps w.gate gate event (moments_of w.moments) octets answer
    → new ≡ settles again answer (record w { gate = gate })
    → Does w new (happens_again again event)
does-event w new gate again event octets answer whole octets_are steps is =
    subst (λ (v : Work). Does w v (happens_again again event)) (sym is)
    (record {
      whole = whole-settled (record w { gate = gate }) again answer (whole-after w gate event octets answer whole steps);
      goes_on = λ s shows. settled-goes w gate again event answer s shows whole (steps-so w gate event octets answer s shows octets_are steps);
    })

-- ---- what is recorded and done, one after the other
