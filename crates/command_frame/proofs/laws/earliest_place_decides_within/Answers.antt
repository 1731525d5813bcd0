use Rattle.command_frame.proofs.WithinLemmas.{within-front}
use Rattle.command_frame.proofs.laws.earliest_place_decides_within.Goals as goal

pub returns : goal.returns
returns c = within-front
