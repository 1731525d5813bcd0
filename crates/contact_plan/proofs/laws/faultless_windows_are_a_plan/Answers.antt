use Rattle.contact_plan.proofs.FaultLemmas.{faultless-is-plan}
use Rattle.contact_plan.proofs.laws.faultless_windows_are_a_plan.Goals as goal

pub returns : goal.returns
returns c = faultless-is-plan
