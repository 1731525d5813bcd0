use Rattle.std.proofs.Common.{[]}
use Rattle.command_frame.proofs.PartLinesLemmas.{last-turned}
use Rattle.command_frame.proofs.LimitsLemmas.{last-within}
use Rattle.command_frame.proofs.part_lines.last_line.Goals as goal

pub returns-clause-ended : goal.returns-clause-ended
returns-clause-ended g c = λ settles stands.
    last-turned g.L.PartLineStep.rules (g.L.PartLineStep.Shows c.line.new.self) c.args.reader.now.number (g.L.PartLineStep.Shows c.args.reader.now.step []) c.args.reader.now.rest.items settles stands
    _ _ c.in_ok-turned.turned c.requires.some c.as_slice.result.now _ c.as_slice.ensures.value c.clear.ensures.items c.in_ok-turned.ensures.turn

pub returns-clause-within : goal.returns-clause-within
returns-clause-within g c = λ limits awaits.
    last-within g.L.PartLineStep.rules (g.L.PartLineStep.Shows c.args.reader.now.step []) c.args.reader.now.number c.args.reader.now.rest.items c.args.reader.now.passed limits awaits
    (g.L.PartLineStep.Shows c.line.new.self) _ _ c.in_ok-turned.turned c.requires.some c.as_slice.result.now _ _
    c.as_slice.ensures.value c.clear.ensures.items c.turned_limit-reader.ensures c.in_ok-turned.ensures.turn
