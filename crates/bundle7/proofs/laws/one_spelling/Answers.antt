use Rattle.bundle7.proofs.BlockLaws.{bundle-spelled, bundle-spells}
use Rattle.bundle7.proofs.laws.one_spelling.Goals as goal

pub returns-clause-legal : goal.returns-clause-legal
returns-clause-legal c = λ b w fits spells. (bundle-spelled 64 w b spells).0 fits

pub returns-clause-one : goal.returns-clause-one
returns-clause-one c = λ b w spells. (bundle-spelled 64 w b spells).1

pub returns-clause-spelled : goal.returns-clause-spelled
returns-clause-spelled c = bundle-spells 64
