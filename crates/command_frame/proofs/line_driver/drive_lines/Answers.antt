use Rattle.command_frame.specs.Lines.{by_lines}
use Rattle.command_frame.specs.Limits.{limits_by_lines}
use Rattle.command_frame.proofs.LinesLemmas.{in_line-quiet}
use Rattle.command_frame.proofs.line_driver.drive_lines.Goals as goal

pub returns-clause-ran : goal.returns-clause-ran
returns-clause-ran g c = λ start shows.
    let stands = c.new-reader.ensures.stands start shows in
    c.drive_parts-status.ensures.ran (by_lines g.L.PartLineStep.rules start) stands
    (in_line-quiet g.L.PartLineStep.rules _ _ _ (by_lines g.L.PartLineStep.rules start) stands)

pub returns-clause-passed : goal.returns-clause-passed
returns-clause-passed g c = λ start shows is.
    rw c.passed.ensures
    (c.drive_parts-status.ensures.passed (limits_by_lines g.L.PartLineStep.rules start) (c.new-reader.ensures.within start shows) is)
