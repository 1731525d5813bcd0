use Rattle.bundle_runs.proofs.ConvertLemmas.{owed-old, refused-old}
use Rattle.bundle_runs.proofs.convert.translate_to_old.Goals as goal

pub returns-in_ok-encode6-in-Ok-clause-said : goal.returns-in_ok-encode6-in-Ok-clause-said
returns-in_ok-encode6-in-Ok-clause-said c =
    owed-old c.args.bundle.now c.in-Ok.there _ _ c.in-Ok.ensures.exact c.in_ok-encode6-in-Ok.ensures.exact c.line.ensures

pub returns-in_default : goal.returns-in_default
returns-in_default c = record {
  said = refused-old c.args.bundle.now c.in-Err.refused c.in-Err.ensures.exact c.in_default.not-Memory;
  memory = tt;
}
