use Rattle.std.proofs.Common.{◌∙◌}
use Rattle.replay_script.proofs.PickLemmas.{drains-by}
use Rattle.replay_script.proofs.link_judging.drain.Goals as goal

pub returns-in-Some-clause-exact : goal.returns-in-Some-clause-exact
returns-in-Some-clause-exact c = c.drain_by.ensures.exact ∙ drains-by c.in-Some.picks.now c.args.words c.in-Some.ensures
