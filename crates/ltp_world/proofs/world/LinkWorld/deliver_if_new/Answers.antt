use Rattle.std.proofs.Common.{sym, ◌∙◌}
use Rattle.std.proofs.lemmas.Result.{on_ok_weaker}
use Rattle.ltp_world.proofs.RestLemmas.{rest-deliver, rest-skip, skip-falls}
use Rattle.ltp_world.proofs.world.LinkWorld.deliver_if_new.Goals as goal

pub returns-then-is_old-clause-done : goal.returns-then-is_old-clause-done
returns-then-is_old-clause-done c = rest-skip c.args.self.now c.args.k c.args.marks c.args.steps.now.items c.requires.whole c.requires.there (sym c.is_old.ensures ∙ c.if-is_old.true)

pub returns-then-is_old-clause-falls : goal.returns-then-is_old-clause-falls
returns-then-is_old-clause-falls c = skip-falls c.args.self.now c.args.k c.requires.there

pub returns-clause-done : goal.returns-clause-done
returns-clause-done c =
    on_ok_weaker c.deliver_step.result
    (λ takes. rest-deliver c.args.self.now c.deliver_step.new.self c.args.k c.args.marks c.args.steps.now.items c.deliver_step.new.steps.items takes c.requires.there c.requires.marks
    (sym c.is_old.ensures ∙ c.if-is_old.false)) c.deliver_step.ensures.takes
