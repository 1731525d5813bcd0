use Rattle.block_types.proofs.WrapLemmas.{wraps_say_wire_types}
use Rattle.block_types.proofs.laws.wraps_say_wire_types.Goals as goal

pub returns : goal.returns
returns c = wraps_say_wire_types
