use Rattle.std.proofs.Common.{[]}
use Rattle.bundle7.proofs.SpellingLaws.{eid-spelled, eid-spells, eid-one}
use Rattle.bundle7.proofs.laws.one_eid.Goals as goal

pub returns-clause-legal : goal.returns-clause-legal
returns-clause-legal c = λ w e spells. ((eid-spelled [] w e spells).legal, (eid-spelled [] w e spells).octets)

pub returns-clause-spelled : goal.returns-clause-spelled
returns-clause-spelled c = eid-spells []

pub returns-clause-one : goal.returns-clause-one
returns-clause-one c = eid-one
