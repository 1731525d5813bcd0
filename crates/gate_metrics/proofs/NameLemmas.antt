-- The names of families, and the labels of their samples.
use Rattle.std.proofs.Common.{◌≡◌, ℕ, Bool, true, ◌&&◌, ◌++◌, refl, ap}
use Rattle.std.specs.Prelude.{map}
use Rattle.gate_cases.specs.declared.face.Face.TheVariants.{Old, New}
use Rattle.gate_metrics.specs.declared.counters.Counters.{Counters}
use Rattle.gate_metrics.specs.declared.gauges.Gauges.{Gauges}
use Rattle.gate_metrics.specs.declared.gauges.LinkGauge.{LinkGauge}
use Rattle.gate_metrics.specs.declared.gauges.LinkGauge.TheVariants.{Open, Opens, Closed}
use Rattle.gate_metrics.specs.Text.{opening, families, peer_families}
use Rattle.gate_metrics.specs.Laws.{are_apart, AreApart}

opening-apart : (old new : LinkGauge) → are_apart (map (λ s. s.labels) (opening Old old ++ opening New new)) ≡ true
opening-apart Open Open = refl
opening-apart Open (Opens after) = refl
opening-apart Open Closed = refl
opening-apart (Opens before) Open = refl
opening-apart (Opens before) (Opens after) = refl
opening-apart (Opens before) Closed = refl
opening-apart Closed Open = refl
opening-apart Closed (Opens after) = refl
opening-apart Closed Closed = refl

pub apart : (c : Counters) (g : Gauges) → AreApart (families c g)
apart c g = record {
  names = refl;
  labels = ap (λ (b : Bool). b && true) (opening-apart g.old.link g.new.link);
}

pub apart-peers : (c : Counters) (g : Gauges) (old new : ℕ) → AreApart (peer_families c g old new)
apart-peers c g old new = record {
  names = refl;
  labels = ap (λ (b : Bool). b && true) (opening-apart g.old.link g.new.link);
}
