use Rattle.bundle_runs.proofs.ConvertLemmas.{owed-by-new, unread-new}
use Rattle.bundle_runs.proofs.convert.convert_to_new.Goals as goal

pub returns-in-Ok-clause-said : goal.returns-in-Ok-clause-said
returns-in-Ok-clause-said c =
    owed-by-new c.args.bundle c.in-Ok.full c.in_ok-spelled_new-in-Ok.field-0 _ c.in-Ok.ensures.exact
    c.in_ok-spelled_new-in-Ok.ensures.exact c.line_of.ensures

pub returns : goal.returns
returns c = record {
  said = unread-new c.args.bundle c.in-Err.refused c.in-Err.ensures.exact c.in_default.not-Memory;
  memory = tt;
}
