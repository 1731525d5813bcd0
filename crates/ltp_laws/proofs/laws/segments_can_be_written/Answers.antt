use Rattle.ltp_laws.proofs.WritableLemmas.{segments_can_be_written}
use Rattle.ltp_laws.proofs.laws.segments_can_be_written.Goals as goal

pub returns : goal.returns
returns c = segments_can_be_written
