use Rattle.store_traits.proofs.TornLemmas.{each-file}
use Rattle.store_traits.proofs.laws.each_file_is_left_by_a_choice.Goals as goal

pub returns : goal.returns
returns c = each-file
