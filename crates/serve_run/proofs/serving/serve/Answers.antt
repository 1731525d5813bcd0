use Rattle.std.proofs.Common.{rules}
use Rattle.serve_run.proofs.EventLemmas.{served-as}
use Rattle.serve_run.proofs.serving.serve.Goals as goal

pub returns-clause-law : goal.returns-clause-law
returns-clause-law g c = served-as _ _ _ _ _ _ _ _ _ c.serve_over.ensures.law (search rules) (search rules)
