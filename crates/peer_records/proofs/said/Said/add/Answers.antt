use Rattle.peer_gateway.specs.Answers.{added_seen}
use Rattle.peer_records.proofs.SaidLemmas.{report-none}
use Rattle.peer_records.proofs.said.Said.add.Goals as goal

pub returns-then-added-clause-ok : goal.returns-then-added-clause-ok
returns-then-added-clause-ok c = report-none (added_seen c.args.added.now) c.args.self.now c.if-added.true
