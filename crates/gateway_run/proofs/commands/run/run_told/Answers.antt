use Rattle.std.proofs.Common.{Some, sym}
use Rattle.gateway_run.proofs.CommandLemmas.{named-completes, named-keeps, named-names}
use Rattle.gateway_run.proofs.commands.run.run_told.Goals as goal

pub returns-in-Some-clause-complete : goal.returns-in-Some-clause-complete
returns-in-Some-clause-complete g c =
    rw (sym c.in-Some.ensures.exact)
    (named-completes (Some c.in-Some.command) c.run_command.result.status _ _ c.run_command.ensures.ran)

pub returns-in-Some-clause-keeps_law : goal.returns-in-Some-clause-keeps_law
returns-in-Some-clause-keeps_law g c =
    rw (sym c.in-Some.ensures.exact)
    (named-keeps (record { node = c.answers_events.ensures; world = c.worlds_keep_headline.ensures; serve = c.runs_keep_law.ensures }) (Some c.in-Some.command) c.run_command.result.status _ _ c.run_command.ensures.ran)

pub returns-in-Some-clause-named : goal.returns-in-Some-clause-named
returns-in-Some-clause-named g c =
    rw (sym c.in-Some.ensures.exact)
    (named-names c.in-Some.command c.run_command.result.status _ _ c.run_command.result.passed c.run_command.ensures.ran c.run_command.ensures.names)
