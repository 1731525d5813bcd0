use Rattle.std.proofs.Common.{subst}
use Rattle.contact_plan.specs.Windows.{IsPlan}
use Rattle.contact_plan.proofs.KeptLemmas.{plan-of}
use Rattle.contact_plan.proofs.plan.Plan.at.Goals as goal

pub returns-clause-plan : goal.returns-clause-plan
returns-clause-plan c = subst IsPlan c.self.view_is (plan-of c.self.inside.kept.items c.self.invariant)
