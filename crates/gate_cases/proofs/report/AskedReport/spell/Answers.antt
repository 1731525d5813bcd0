use Rattle.gate_cases.specs.Bundles.{status_bundle}
use Rattle.gate_cases.proofs.ReportLengths.{is-block, report6-block, report7-block}
use Rattle.gate_cases.proofs.report.AskedReport.spell.Goals as goal

pub returns-in-Six-clause-exact : goal.returns-in-Six-clause-exact
unfolding status_bundle
returns-in-Six-clause-exact c = rw c.in-Six.is c.spell6.ensures

pub returns-in-Six-clause-block : goal.returns-in-Six-clause-block
returns-in-Six-clause-block c =
    is-block _ c.spell6.result (report6-block c.args.gate.now c.args.counter c.args.now c.args.self.now c.in-Six.subject c.requires.askable c.requires.gate)
    c.spell6.ensures

pub returns-in-Seven-clause-exact : goal.returns-in-Seven-clause-exact
unfolding status_bundle
returns-in-Seven-clause-exact c = rw c.in-Seven.is c.spell7.ensures

pub returns-in-Seven-clause-block : goal.returns-in-Seven-clause-block
returns-in-Seven-clause-block c =
    is-block _ c.spell7.result (report7-block c.args.gate.now c.args.counter c.args.now c.args.self.now c.in-Seven.subject c.requires.askable c.requires.gate)
    c.spell7.ensures
