use Rattle.peer_live.proofs.PartLemmas.{does-read}
use Rattle.peer_live.proofs.work.Work.read_clocks.Goals as goal

pub returns-clause-after : goal.returns-clause-after
returns-clause-after c = does-read c.args.self.now c.read.new.self c.in_ok-of_faces.of_faces.0 c.in_ok-of_faces.of_faces.1 c.args.reading c.requires.whole c.requires.small
    c.in_ok-of_faces.ensures.small.0 c.in_ok-of_faces.ensures.small.1 c.in_ok-of_faces.ensures.old c.in_ok-of_faces.ensures.new c.in_ok-of_faces.ensures.after
