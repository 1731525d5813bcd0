use Rattle.gate_config.specs.Reading.{most_octets}
use Rattle.gate_config.proofs.ReadingLemmas.{only_meaning}
use Rattle.gate_config.proofs.reading.read.Goals as goal

pub returns-clause-only : goal.returns-clause-only
returns-clause-only c = only_meaning most_octets c.args.text.now c.read_octets.result c.read_octets.ensures.means c.read_octets.ensures.fails
