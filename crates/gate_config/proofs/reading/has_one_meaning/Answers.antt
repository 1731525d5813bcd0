use Rattle.gate_config.specs.Reading.{most_octets}
use Rattle.gate_config.proofs.ReadingLemmas.{one_meaning}
use Rattle.gate_config.proofs.reading.has_one_meaning.Goals as goal

pub returns : goal.returns
returns c = λ octets one other a b. one_meaning most_octets octets one other a b
