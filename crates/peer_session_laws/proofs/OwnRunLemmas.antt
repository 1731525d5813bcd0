-- The open sessions of a run are its own.

use Rattle.std.proofs.Common.{◌≡◌, ℕ, zero, suc, Bool, true, false, List, [], ◌∷◌, Option, refl, sym, ◌∙◌, ap, subst, arith, if◌then◌else◌}
use Rattle.gate_cases.specs.declared.face.Face.{Face}
use Rattle.gate_cases.specs.declared.face.Face.TheVariants as faces
use Rattle.peer_gateway.specs.Gate.{PeerGate, PeerStep, starts_peer_gate}
use Rattle.peer_gateway.specs.Keys.{PeerSetup}
use Rattle.peer_gateway.specs.Laws.{PiecesInOrder}
use Rattle.peer_gateway.specs.Steps.{PeerEvent, peer_gate_after, peer_step}
use Rattle.peer_events.specs.declared.own.OwnBlock.{OwnBlock}
use Rattle.peer_events.specs.Events.{own_after_step}
use Rattle.peer_events.specs.Laws.{OwnGoByEnds}
use Rattle.peer_half.specs.Journals.{Journalled}
use Rattle.peer_half.specs.Standing.{Standing}
use Rattle.peer_half.specs.Starts.{starts_at}
use Rattle.peer_half.specs.Steps.{opens_in, outboxes_in, step_of}
use Rattle.peer_half.specs.Runs.{EventIn, Run, begins_at, event_at, events_of, stands_at}
use Rattle.peer_half.proofs.StandingLemmas.{after_event}
use Rattle.peer_run_laws.proofs.GateLemmas.{IsGateOf, gate-begins, gate-halves}
use Rattle.peer_run_laws.proofs.WalkLemmas.{Core, KeepsHalves, core-answers, keeps-halves}
use Rattle.peer_session_laws.specs.Events.{Beginning, gate_after, step_with}
use Rattle.peer_session_laws.specs.Runs.{beginning_of}
use Rattle.peer_session_laws.specs.Open.{OpenAreOwn, OwnAreOnce, OwnAreOpen, is_open_in, own_at}
use Rattle.peer_session_laws.proofs.OwnLemmas.{IsOwned, own_then, owned-begins, owned-event}

record IsOwning (b : Beginning) (s : Standing) (events : List EventIn) : Type 0 where
  of_gate : IsGateOf b.setup (starts_peer_gate b.setup b.start b.marks) s events
  owned : (at : Face) (n : ℕ) → IsOwned b events s.own at n

step-is : (b : Beginning) (event : PeerEvent) (s : Standing) (earlier : List EventIn) → IsGateOf b.setup (starts_peer_gate b.setup b.start b.marks) s earlier
    → step_of event s ≡ step_with b (event_at event s) earlier
step-is b event s earlier of_gate =
    ap (λ (t : PeerSetup). peer_step t event s.moments (outboxes_in s) s.gate) of_gate.setup_is
    ∙ ap (λ (g : PeerGate). peer_step b.setup event s.moments (outboxes_in s) g) of_gate.gate_is

own-is : (b : Beginning) (event : PeerEvent) (journal : Option Journalled) (s : Standing) (earlier : List EventIn)
    → IsGateOf b.setup (starts_peer_gate b.setup b.start b.marks) s earlier
    → (after_event event journal s).own ≡ own_then b (event_at event s) earlier s.own
unfolding peer_gate_after
own-is b event journal s earlier of_gate =
    ap (λ (step : PeerStep). own_after_step (opens_in step.gate) step.effects.told step.effects.begun s.own) (step-is b event s earlier of_gate)

module _ (law : OwnGoByEnds) (order : PiecesInOrder) (b : Beginning) where
  owning-event : (event : PeerEvent) (journal : Option Journalled) (s : Standing) (earlier : List EventIn)
      → IsOwning b s earlier → IsOwning b (after_event event journal s) (event_at event s ∷ earlier)
  owning-event event journal s earlier so = record {
    of_gate = (gate-halves b.setup (starts_peer_gate b.setup b.start b.marks)).events.event event journal s earlier so.of_gate;
    owned = λ at n. subst (λ (own : List OwnBlock). IsOwned b (event_at event s ∷ earlier) own at n) (sym (own-is b event journal s earlier so.of_gate))
        (owned-event law order b at n (event_at event s) earlier s.own (so.owned at n));
  }

  owning-same : (s t : Standing) (earlier : List EventIn) → IsGateOf b.setup (starts_peer_gate b.setup b.start b.marks) t earlier → t.own ≡ s.own
      → IsOwning b s earlier → IsOwning b t earlier
  owning-same s t earlier of_gate same so = record {
    of_gate = of_gate;
    owned = λ at n. subst (λ (own : List OwnBlock). IsOwned b earlier own at n) (sym same) (so.owned at n);
  }

  owning-halves : KeepsHalves (IsOwning b)
  owning-halves =
      let gate = gate-halves b.setup (starts_peer_gate b.setup b.start b.marks) in
      record {
        events = record {
          quiet = λ s t earlier same so. owning-same s t earlier (gate.events.quiet s t earlier same so.of_gate) (ap (λ (x : Standing). x.own) (sym same)) so;
          event = owning-event;
        };
        reads = λ now s earlier so. owning-same s _ earlier (gate.reads now s earlier so.of_gate) refl so;
        answers = λ board came s earlier so.
            owning-same s _ earlier (gate.answers board came s earlier so.of_gate) (ap (λ (c : Core). c.own) (core-answers board came s)) so;
      }

begins-none : (r : Run) → (begins_at r).own ≡ []
unfolding starts_at
begins-none r = refl

is-owning : OwnGoByEnds → PiecesInOrder → (r : Run) → IsOwning (beginning_of r) (stands_at r) (events_of r)
is-owning law order r =
    keeps-halves (IsOwning (beginning_of r)) (owning-halves law order (beginning_of r)) r.board faces.Old r.comes (begins_at r) [] (record {
      of_gate = gate-begins r;
      owned = λ at n. subst (λ (own : List OwnBlock). IsOwned (beginning_of r) [] own at n) (sym (begins-none r)) (owned-begins (beginning_of r) at n);
    })

open-same : OwnGoByEnds → PiecesInOrder → (r : Run) (at : Face) (n : ℕ) → opens_in (gate_after (beginning_of r) (events_of r)) at n ≡ is_open_in r at n
open-same law order r at n = ap (λ (g : PeerGate). opens_in g at n) (sym (is-owning law order r).of_gate.gate_is)

pub open-are-own : OwnGoByEnds → PiecesInOrder → OpenAreOwn
open-are-own law order r at n is = ((is-owning law order r).owned at n).opens (open-same law order r at n ∙ is)

pub own-are-once : OwnGoByEnds → PiecesInOrder → OwnAreOnce
own-are-once law order r at n = ((is-owning law order r).owned at n).once

pub own-are-open : OwnGoByEnds → PiecesInOrder → OwnAreOpen
own-are-open law order r at n all = by (is_open_in r at n) refl (own_at r at n) refl where
  so : IsOwned (beginning_of r) (events_of r) (stands_at r).own at n
  so = (is-owning law order r).owned at n

  by : (t : Bool) → is_open_in r at n ≡ t → (c : ℕ) → own_at r at n ≡ c → own_at r at n ≡ (if t then 1 else 0)
  by true is c count = open-are-own law order r at n is
  by false is zero count = count
  by false is (suc c) count = absurd (cc (is, sym (open-same law order r at n) ∙ so.only all (omega (arith, count))))
