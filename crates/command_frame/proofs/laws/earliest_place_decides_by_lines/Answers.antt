use Rattle.command_frame.proofs.FrontLemmas.{lines_from-front}
use Rattle.command_frame.proofs.laws.earliest_place_decides_by_lines.Goals as goal

pub returns : goal.returns
returns g c = λ start. lines_from-front g.L.LineStep.rules 1 start
