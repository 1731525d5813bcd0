use Rattle.peer_live.proofs.PartLemmas.{installs-goes, whole-journal}
use Rattle.peer_live.proofs.work.Work.installed.Goals as goal

pub returns-clause-whole : goal.returns-clause-whole
returns-clause-whole c = λ whole. whole-journal c.args.self.now c.installed.new.journal whole

pub returns-clause-goes : goal.returns-clause-goes
returns-clause-goes c = λ s shows place. installs-goes c.args.self.now c.installed.new.journal c.args.place s c.installed.ensures shows place
