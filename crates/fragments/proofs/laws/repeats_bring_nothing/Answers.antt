use Rattle.fragments.proofs.RepeatLemmas.{repeats-bring-nothing}
use Rattle.fragments.proofs.laws.repeats_bring_nothing.Goals as goal

pub returns : goal.returns
returns c = repeats-bring-nothing
