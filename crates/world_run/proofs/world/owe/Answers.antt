use Rattle.std.proofs.Common.{◌∙◌, sym}
use Rattle.world_run.proofs.TellingLemmas.{owed}
use Rattle.world_run.proofs.world.owe.Goals as goal

pub returns-clause-owed : goal.returns-clause-owed
returns-clause-owed c = λ text.
    owed c.args.path.now c.new.result _ text _ (sym c.too_much_was_sent.ensures ∙ c.if-too_much_was_sent.false) c.new.ensures
