use Rattle.world_run.proofs.ScriptLemmas.{keep_headline}
use Rattle.world_run.proofs.laws.worlds_keep_headline.Goals as goal

pub returns : goal.returns
returns c =
    keep_headline c.received_as_sent.ensures c.paths_are_fit.ensures c.paths_are_timed.ensures
    c.drains_are_made.ensures c.decisions_are_carried_out.ensures c.begun_are_decided.ensures c.whole_runs_complete.ensures
    c.what_passes_arrives.ensures
