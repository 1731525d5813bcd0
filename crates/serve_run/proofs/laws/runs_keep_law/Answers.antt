use Rattle.serve_run.proofs.EventLemmas.{keeps-law}
use Rattle.serve_run.proofs.laws.runs_keep_law.Goals as goal

pub returns : goal.returns
returns c = keeps-law c.hands_up_red_parts.ensures c.hands_up_each_once.ensures
