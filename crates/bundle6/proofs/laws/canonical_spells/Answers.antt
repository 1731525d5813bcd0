-- The canonical spelling is what is written.
use Rattle.std.proofs.Common.{refl}
use Rattle.bundle6.specs.Spelling.{canon6}
use Rattle.bundle6.proofs.WritingLemmas.{written-is}
use Rattle.bundle6.proofs.laws.canonical_spells.Goals as goal

pub returns-clause-spelled : goal.returns-clause-spelled
returns-clause-spelled c = λ b legal counted. (written-is b (canon6 b) legal counted refl).spelled

pub returns-clause-again : goal.returns-clause-again
returns-clause-again c = λ b legal counted. (written-is b (canon6 b) legal counted refl).again
