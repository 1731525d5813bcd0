use Rattle.std.proofs.Common.{sym, ◌∙◌}
use Rattle.gateway_run.proofs.WordLemmas.{number-most}
use Rattle.gateway_run.proofs.commands.command.make_named.Goals as goal

pub returns-clause-sound : goal.returns-clause-sound
returns-clause-sound c = number-most 1 1000 _ _ (sym c.number_in-2.ensures ∙ c.in_ok-count.was)
