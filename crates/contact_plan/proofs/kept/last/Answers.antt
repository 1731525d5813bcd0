use Rattle.contact_plan.proofs.KeptLemmas.{last-read}
use Rattle.contact_plan.proofs.kept.last.Goals as goal

pub returns-in-Some : goal.returns-in-Some
returns-in-Some c = last-read 0 0 c.args.kept.now c.in-Some.one.now c.in-Some.ensures.value
