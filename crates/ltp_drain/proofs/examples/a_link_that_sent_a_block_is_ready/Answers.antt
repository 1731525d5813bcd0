use Rattle.ltp_drain.proofs.ReadyLemmas.{block-ready}
use Rattle.ltp_drain.proofs.examples.a_link_that_sent_a_block_is_ready.Goals as goal

pub returns : goal.returns
returns c = block-ready
