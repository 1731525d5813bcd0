use Rattle.gate_log.proofs.line.push_link.Goals as goal

pub returns-in-PollFailed : goal.returns-in-PollFailed
returns-in-PollFailed c = rw c.in-PollFailed.is c.push_called-in-PollFailed.ensures

pub returns-in-OutboxFull : goal.returns-in-OutboxFull
returns-in-OutboxFull c = rw c.in-OutboxFull.is c.push_lost-in-OutboxFull.ensures
