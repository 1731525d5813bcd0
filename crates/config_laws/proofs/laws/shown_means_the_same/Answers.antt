use Rattle.std.proofs.Common.{arith}
use Rattle.gate_config.specs.Reading.{most_octets}
use Rattle.config_laws.proofs.AgainLemmas.{means_again}
use Rattle.config_laws.proofs.laws.shown_means_the_same.Goals as goal

pub returns : goal.returns
returns c = λ octets file means. means_again most_octets octets file (omega arith) means
