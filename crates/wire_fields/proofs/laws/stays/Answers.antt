use Rattle.std.proofs.Common.{arith}
use Rattle.wire_fields.proofs.StayLemmas.{read-stays, refusal-stays, refusal-within, begins-stays, begins-within}
use Rattle.wire_fields.proofs.laws.stays.Goals as goal

pub returns-clause-answers : goal.returns-clause-answers
returns-clause-answers g c = λ text more fits settled. read-stays g.T.Table.fields text more 0 fits (omega arith) settled

pub returns-clause-refusals : goal.returns-clause-refusals
returns-clause-refusals g c = λ text more at cause fits refused. refusal-stays g.T.Table.fields text more at cause fits refused

pub returns-clause-places : goal.returns-clause-places
returns-clause-places g c = λ text at s refused. refusal-within g.T.Table.fields text at s refused

pub returns-clause-longer : goal.returns-clause-longer
returns-clause-longer g c = λ text more k a begins. begins-stays g.T.Table.fields text more k a begins

pub returns-clause-shorter : goal.returns-clause-shorter
returns-clause-shorter g c = λ text more k a within begins. begins-within g.T.Table.fields text more k a within begins
