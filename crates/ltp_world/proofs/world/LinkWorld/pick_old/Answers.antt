use Rattle.std.proofs.Common.{sym, ◌∙◌}
use Rattle.std.proofs.lemmas.Result.{on_ok_weaker}
use Rattle.ltp_world.proofs.PickLemmas.{picks-no_old, picks-old}
use Rattle.ltp_world.proofs.world.LinkWorld.pick_old.Goals as goal

pub returns-then-is_old-clause-does : goal.returns-then-is_old-clause-does
returns-then-is_old-clause-does c =
    on_ok_weaker c.deliver_step.result
    (λ takes. picks-old c.args.self.now c.deliver_step.new.self c.args.marks c.args.k c.args.steps.now.items c.deliver_step.new.steps.items takes (sym c.is_old.ensures ∙ c.if-is_old.true))
    c.deliver_step.ensures.takes

pub returns-clause-does : goal.returns-clause-does
returns-clause-does c = picks-no_old c.args.self.now c.args.marks c.args.k c.args.steps.now.items c.requires.whole (sym c.is_old.ensures ∙ c.if-is_old.false)
