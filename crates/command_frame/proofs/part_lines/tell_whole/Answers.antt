use Rattle.std.specs.String.{string_bytes}
use Rattle.command_frame.proofs.PartLinesLemmas.{telling-none}
use Rattle.command_frame.proofs.part_lines.tell_whole.Goals as goal

pub telling-init : goal.telling-init
telling-init g c = λ due state stands.
    telling-none (g.L.PartLineStep.Shows c.args.step.now) (g.L.PartLineStep.Shows c.args.step.now) (g.L.PartLineStep.Shows c.args.step.now)
    state due (string_bytes c.args.text.now) stands
