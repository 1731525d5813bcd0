use Rattle.std.proofs.Common.{ap, ◌∙◌}
use Rattle.gateway_core.specs.Gate.{at_face}
use Rattle.outbox.specs.Outbox.{next_of}
use Rattle.peer_live.specs.Telling.{KeptValue}
use Rattle.peer_live.proofs.PartLemmas.{does-take}
use Rattle.peer_live.proofs.work.Work.next.Goals as goal

pub returns-clause-next : goal.returns-clause-next
returns-clause-next c = λ s shows. c.next.ensures.next ∙ ap (λ (k : KeptValue). next_of (at_face k.faces c.args.face).outbox) shows.kept

pub returns-clause-after : goal.returns-clause-after
returns-clause-after c = λ whole. does-take c.args.self.now c.next.new.self c.args.face whole c.next.ensures.after
