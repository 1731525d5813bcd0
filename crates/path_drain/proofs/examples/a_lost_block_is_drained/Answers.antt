use Rattle.path_drain.proofs.DrainedExamples.{block-complete, block-drained}
use Rattle.path_drain.proofs.examples.a_lost_block_is_drained.Goals as goal

pub returns : goal.returns
returns c = record {
  clean = λ gate cut. (block-drained gate cut).clean;
  over = λ gate cut. (block-drained gate cut).over;
  noted = λ gate cut. (block-drained gate cut).noted;
  complete = block-complete;
}
