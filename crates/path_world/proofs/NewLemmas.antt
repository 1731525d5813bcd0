-- A path at its beginning.

use Rattle.std.proofs.Common.{◌≡◌, ℕ, ◌<◌, ◌≤◌, ◌^◌, false, List, [], refl, sym, ap, subst, arith}
use Rattle.std.specs.List.{All}
use Rattle.std.proofs.lemmas.List.Elements.{All-nil}
use Rattle.endpoint.specs.declared.name.Endpoint.{Endpoint}
use Rattle.fragments.specs.declared.join.Join.{Join}
use Rattle.fragments.specs.Again.{IsBounded as IsJoinBounded}
use Rattle.fragments.specs.Joining.{Joining}
use Rattle.gate_cases.specs.declared.face.Face.{Face}
use Rattle.gate_cases.specs.declared.face.Face.TheVariants as faces
use Rattle.gateway_core.specs.Gate.{starts_gate}
use Rattle.gateway_core.specs.Shows.{ShowsGate, IsGateBounded}
use Rattle.gateway_core.specs.Values.{GatewayValue, new_gateway}
use Rattle.gateway_core.specs.Values.{setup_of as gate_setup_of}
use Rattle.ltp_laws.specs.Deadlines.{Waits}
use Rattle.ltp_laws.specs.Writable.{HasSmallNumbers}
use Rattle.ltp_engine.specs.Bounds.{IsBounded}
use Rattle.ltp_engine.specs.Shows.{Shows}
use Rattle.ltp_engine.specs.Steps.{new_engine}
use Rattle.ltp_engine.specs.Values.{EngineValue}
use Rattle.ltp_segment.specs.Policy.{PolicyValue}
use Rattle.ltp_session.specs.Engine.{starts}
use Rattle.path_laws.specs.Links.{link_parties}
use Rattle.path_laws.specs.Path.{path_setup, path_run}
use Rattle.path_drain.specs.Hopeful.{IsFitPath}
use Rattle.path_drain.proofs.PolicyLemmas.{short-fits}
use Rattle.path_world.specs.declared.node.Node.{Node}
use Rattle.path_world.specs.declared.parts.Parts.{Parts}
use Rattle.path_world.specs.Shows.{IsSmallSetup, ShowsRun}
use Rattle.path_world.specs.Ties.{BeginsWithRoom, IsNode, live, setup_in, IsKept, IsWhole}

-- its engines name each other and are alike, and their numbers are small
pub small-setup : (gate : Endpoint) (policy : PolicyValue) (cut : ℕ) → 2 ≤ policy.segment → Waits policy → IsSmallSetup (path_setup gate policy cut)
small-setup gate policy cut cuts waits = record {
  linked = fit.linked;
  alike = fit.alike;
  first_small = first;
  second_small = second;
} where
  fit : IsFitPath (path_setup gate policy cut)
  fit = short-fits gate cut policy cuts waits

  first : (face : Face) → HasSmallNumbers (link_parties (path_setup gate policy cut) face).0
  first faces.Old = record { own = omega arith; first = omega arith; most = omega arith }
  first faces.New = record { own = omega arith; first = omega arith; most = omega arith }

  second : (face : Face) → HasSmallNumbers (link_parties (path_setup gate policy cut) face).1
  second faces.Old = record { own = omega arith; first = omega arith; most = omega arith }
  second faces.New = record { own = omega arith; first = omega arith; most = omega arith }

pub new-run : (p : Parts) (now : ℕ) → IsSmallSetup (setup_in p) → Shows p.old_node.engine (starts p.old_node.engine.party)
    → Shows p.new_node.engine (starts p.new_node.engine.party) → ShowsGate p.gate (starts_gate (gate_setup_of p.gate)) → p.old_node.joiner.joins ≡ []
    → p.new_node.joiner.joins ≡ [] → p.sent ≡ [] → p.moment ≡ now → ShowsRun (live p) now []
unfolding path_run
new-run p now small old new gate old_joins new_joins sent moment = record {
  setup = small;
  path = record {
    old_node = old;
    new_node = new;
    gate = gate;
    joins = rw (old_joins, new_joins) refl;
    sent = sent;
    now = sym moment;
  };
}

pub new-whole : (p : Parts) (now : ℕ) → IsKept p → ShowsRun (live p) now [] → IsWhole p
new-whole p now kept shows = record { kept = kept; stands = record { start = now; events = []; shows = shows } }

new-node : (face : Face) (n : Node) → n.engine.spent ≡ false → IsBounded n.engine → n.joiner ≡ record { joins = []; spent = false } → IsJoinBounded n.joiner.joins → IsNode face n
new-node face n whole bounds empty few = record {
  engine = whole;
  bounds = bounds;
  joiner = record {
    whole = ap (λ (j : Joining). j.spent) empty;
    room = subst (λ js. Room js) (sym (ap (λ (j : Joining). j.joins) empty)) (All-nil (BeginsWithRoom face));
    bounds = few;
  };
} where
  Room : List Join → Type 0
  Room js = All (BeginsWithRoom face) js

-- the parts that a path begins with
pub record Begins (p : Parts) (gate : Endpoint) (policy : PolicyValue) (cut now : ℕ) : Type 0 where
  pub old_node : p.old_node.engine ≡ new_engine 1 2 1 policy
  pub new_node : p.new_node.engine ≡ new_engine 4 3 1 policy
  pub gate_is : p.gate ≡ new_gateway gate policy cut
  pub old_joiner : p.old_node.joiner ≡ record { joins = []; spent = false }
  pub new_joiner : p.new_node.joiner ≡ record { joins = []; spent = false }
  pub old_few : IsJoinBounded p.old_node.joiner.joins
  pub new_few : IsJoinBounded p.new_node.joiner.joins
  pub sent : p.sent ≡ []
  pub moment : p.moment ≡ now
  pub early : now < 2 ^ 62
  pub cuts : 2 ≤ policy.segment
  pub waits : Waits policy
  pub old_shows : Shows p.old_node.engine (starts p.old_node.engine.party)
  pub new_shows : Shows p.new_node.engine (starts p.new_node.engine.party)
  pub gate_shows : ShowsGate p.gate (starts_gate (gate_setup_of p.gate))
  pub old_bounds : IsBounded p.old_node.engine
  pub new_bounds : IsBounded p.new_node.engine
  pub gate_bounds : IsGateBounded p.gate

begins-setup : (p : Parts) (gate : Endpoint) (policy : PolicyValue) (cut now : ℕ) → Begins p gate policy cut now → setup_in p ≡ path_setup gate policy cut
begins-setup p gate policy cut now b = rw (b.old_node, b.new_node, b.gate_is) refl

pub begins-shows : (p : Parts) (gate : Endpoint) (policy : PolicyValue) (cut now : ℕ) → Begins p gate policy cut now → ShowsRun (live p) now []
begins-shows p gate policy cut now b =
    new-run p now (subst IsSmallSetup (sym (begins-setup p gate policy cut now b)) (small-setup gate policy cut b.cuts b.waits)) b.old_shows b.new_shows b.gate_shows
    (ap (λ (j : Joining). j.joins) b.old_joiner) (ap (λ (j : Joining). j.joins) b.new_joiner) b.sent b.moment

pub begins-whole : (p : Parts) (gate : Endpoint) (policy : PolicyValue) (cut now : ℕ) → Begins p gate policy cut now → IsWhole p
begins-whole p gate policy cut now b = new-whole p now kept (begins-shows p gate policy cut now b) where
  kept : IsKept p
  kept = record {
    old_node = new-node faces.Old p.old_node (ap (λ (e : EngineValue). e.spent) b.old_node) b.old_bounds b.old_joiner b.old_few;
    new_node = new-node faces.New p.new_node (ap (λ (e : EngineValue). e.spent) b.new_node) b.new_bounds b.new_joiner b.new_few;
    gate = ap (λ (g : GatewayValue). g.spent) b.gate_is;
    gate_bounds = b.gate_bounds;
    moment = subst (λ n. n < 2 ^ 62) (sym b.moment) b.early;
  }
