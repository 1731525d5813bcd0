use Rattle.path_drain.proofs.CameLemmas.{came-complete, came-drained}
use Rattle.path_drain.proofs.examples.a_block_that_came_is_drained.Goals as goal

pub returns : goal.returns
returns c = record {
  clean = λ gate cut. (came-drained gate cut).clean;
  over = λ gate cut. (came-drained gate cut).over;
  noted = λ gate cut. (came-drained gate cut).noted;
  none_since = λ gate cut. (came-drained gate cut).none_since;
  before = λ gate cut. (came-drained gate cut).before;
  complete = came-complete;
}
