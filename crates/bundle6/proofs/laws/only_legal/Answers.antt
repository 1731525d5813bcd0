use Rattle.bundle6.proofs.LegalLemmas.{spelled-legal}
use Rattle.bundle6.proofs.laws.only_legal.Goals as goal

pub returns : goal.returns
returns c = λ b w fits spells. spelled-legal w b fits spells
