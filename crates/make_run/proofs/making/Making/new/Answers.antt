use Rattle.std.proofs.Common.{refl, ◌∙◌}
use Rattle.make_run.proofs.AnswerLemmas.{begins}
use Rattle.make_run.proofs.making.Making.new.Goals as goal

pub returns-clause-begins : goal.returns-clause-begins
returns-clause-begins c =
    begins _ c.new.ensures.whole (c.new.ensures.setup ∙ c.config.ensures.setup) c.new.ensures.shows refl refl
