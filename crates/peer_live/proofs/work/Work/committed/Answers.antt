use Rattle.peer_live.proofs.PartLemmas.{commits-goes, whole-journal}
use Rattle.peer_live.proofs.work.Work.committed.Goals as goal

pub returns-clause-whole : goal.returns-clause-whole
returns-clause-whole c = λ whole. whole-journal c.args.self.now c.committed.new.journal whole

pub returns-clause-goes : goal.returns-clause-goes
returns-clause-goes c = λ s shows octets. commits-goes c.args.self.now c.committed.new.journal c.args.octets s c.committed.ensures shows octets
