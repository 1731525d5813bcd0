use Rattle.gate_log.proofs.line.push_block.Goals as goal

pub returns-in-Reported : goal.returns-in-Reported
returns-in-Reported c = rw c.in-Reported.is c.push_reported.ensures
