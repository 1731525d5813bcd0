use Rattle.std.proofs.Common.{List, ap, ◌∙◌}
use Rattle.peer_gateway.specs.Gate.{AddedAt}
use Rattle.peer_records.specs.Said.{happened_by, ids_left}
use Rattle.peer_records.proofs.TiedLemmas.{tied-apart, tied-step}
use Rattle.peer_records.proofs.keeping.Keeping.step.Goals as goal

pub invariant_of-self : goal.invariant_of-self
invariant_of-self g c =
    let h = happened_by c.args.step.now (g.G.GateSessions.opened c.args.gate.now) (g.G.GateSessions.handed_up c.args.gate.now) in
    let s = c.self.inside.said in
    let held = c.self.inside.held in
    let ids = c.self.inside.to_add in
    tied-step h s c.record.new.said held c.record.new.held ids c.step.new.self c.self.invariant c.in-Ok.ensures.ok
    (c.step.ensures (tied-apart s held ids c.self.invariant)
    ∙ ap (λ (xs : List AddedAt). (ids_left h.again xs ids.0, ids_left h.again xs ids.1)) c.added.ensures)
