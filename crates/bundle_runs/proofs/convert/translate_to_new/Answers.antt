use Rattle.bundle_runs.proofs.ConvertLemmas.{owed-new, refused-new}
use Rattle.bundle_runs.proofs.convert.translate_to_new.Goals as goal

pub returns-in_ok-encode7-in-Ok-clause-said : goal.returns-in_ok-encode7-in-Ok-clause-said
returns-in_ok-encode7-in-Ok-clause-said c =
    owed-new c.args.bundle.now c.in-Ok.there _ _ c.in-Ok.ensures.exact c.in_ok-encode7-in-Ok.ensures.exact c.line.ensures

pub returns-in_default : goal.returns-in_default
returns-in_default c = record {
  said = refused-new c.args.bundle.now c.in-Err.refused c.in-Err.ensures.exact c.in_default.not-Memory;
  memory = tt;
}
