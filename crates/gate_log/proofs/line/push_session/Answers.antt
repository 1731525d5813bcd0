use Rattle.gate_log.proofs.line.push_session.Goals as goal

pub returns-in-HistoryFull : goal.returns-in-HistoryFull
returns-in-HistoryFull c = rw c.in-HistoryFull.is c.push_in-in-HistoryFull.ensures
