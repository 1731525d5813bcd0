use Rattle.std.proofs.Common.{List, map, ap, ◌∙◌}
use Rattle.gate_records.specs.Happened.{came_whole, cancelled}
use Rattle.peer_events.specs.Own.{own_seen}
use Rattle.peer_gateway.specs.Gate.{FaceTold}
use Rattle.peer_records.specs.Happened.{notes_in, ups_in}
use Rattle.peer_records.proofs.ToldLemmas.{whole-all, or-true, or-false}
use Rattle.peer_records.proofs.step.StepDone.is_over.Goals as goal

pub returns-then-came_whole : goal.returns-then-came_whole
returns-then-came_whole g c =
    let told = c.args.self.now.answer.now.told in
    or-true c.came_whole.result (came_whole c.args.face c.args.session (ups_in told))
    (cancelled (g.G.GateSessions.opened c.args.gate.now) c.args.face c.args.session (map own_seen c.args.self.now.own.now) (notes_in told))
    (c.came_whole.ensures ∙ whole-all c.args.face c.args.session c.told.result.now ∙ ap (λ (ts : List FaceTold). came_whole c.args.face c.args.session (ups_in ts)) c.told.ensures)
    c.if-came_whole.true

pub returns-else-came_whole : goal.returns-else-came_whole
returns-else-came_whole g c =
    let told = c.args.self.now.answer.now.told in
    or-false c.came_whole.result (came_whole c.args.face c.args.session (ups_in told))
    (cancelled (g.G.GateSessions.opened c.args.gate.now) c.args.face c.args.session (map own_seen c.args.self.now.own.now) (notes_in told)) c.is_cancelled.result
    (c.came_whole.ensures ∙ whole-all c.args.face c.args.session c.told.result.now ∙ ap (λ (ts : List FaceTold). came_whole c.args.face c.args.session (ups_in ts)) c.told.ensures)
    c.if-came_whole.false c.is_cancelled.ensures
