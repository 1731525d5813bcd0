use Rattle.ltp_segment.proofs.WritingLemmas.{written}
use Rattle.ltp_segment.proofs.laws.is_read_back.Goals as goal
use Rattle.ltp_segment.specs.Spelling.{segment_octets}
use Rattle.std.specs.Prelude.{refl}

pub returns : goal.returns
returns c = λ s is. written s (segment_octets s) is refl
