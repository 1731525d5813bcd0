use Rattle.peer_live.proofs.QuietLemmas.{does-not-resume}
use Rattle.peer_live.proofs.work.Work.resume_if.Goals as goal

pub returns-else-has_kept-clause-after : goal.returns-else-has_kept-clause-after
returns-else-has_kept-clause-after c = does-not-resume c.args.self.now c.args.face c.requires (rw (← c.has_kept.ensures) c.if-has_kept.false)
