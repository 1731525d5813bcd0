use Rattle.gateway_run.proofs.commands.lines.run_lines.Goals as goal

pub returns-clause-ran : goal.returns-clause-ran
returns-clause-ran g c = λ start shows. c.run_part_lines.ensures.ran start (c.new.ensures.shows start shows)

pub returns-clause-names : goal.returns-clause-names
returns-clause-names g c = λ start shows. c.run_part_lines.ensures.names start (c.new.ensures.shows start shows)
