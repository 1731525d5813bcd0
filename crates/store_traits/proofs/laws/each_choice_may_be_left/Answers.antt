use Rattle.store_traits.proofs.TornLemmas.{each-choice}
use Rattle.store_traits.proofs.laws.each_choice_may_be_left.Goals as goal

pub returns : goal.returns
returns c = each-choice
