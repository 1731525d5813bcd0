use Rattle.spans.proofs.PlaceLaws.{all_is_each}
use Rattle.spans.proofs.laws.all_is_each.Goals as goal

pub returns : goal.returns
returns c = all_is_each
