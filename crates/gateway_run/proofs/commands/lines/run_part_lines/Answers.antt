use Rattle.gateway_run.proofs.commands.lines.run_part_lines.Goals as goal

pub returns-clause-ran : goal.returns-clause-ran
returns-clause-ran g c = λ start shows. rw c.ended_with.ensures.status (c.drive_lines-ended.ensures.ran start shows)

pub returns-clause-names : goal.returns-clause-names
returns-clause-names g c = λ start shows. record {
  lines_pass = c.drive_lines-ended.result.passed;
  is = rw (c.ended_with.ensures.status, ← c.passed_on_lines.ensures) c.ended_with.ensures.passed;
  by_input = λ limit. c.drive_lines-ended.ensures.passed start shows (rw c.ended_with.ensures.status at limit);
}
