use Rattle.fragment_lines.proofs.TellsLemmas.{tells-more}
use Rattle.fragment_lines.proofs.telling.Telling.tell.Goals as goal

pub steps-preserved : goal.steps-preserved
steps-preserved c = tells-more _ _ _ _ _ _ c.steps.invariant c.in_ok-step-2.ensures
