use Rattle.std.proofs.Common.{◌∙◌, sym, Ok}
use Rattle.gateway_core.proofs.SendLemmas.{none-asked, unreported, answered}
use Rattle.gateway_core.proofs.parts.Parts.answer.Goals as goal

pub returns-in_default : goal.returns-in_default
returns-in_default c = none-asked c.args.self.now c.args.face c.args.now c.args.session c.args.report c.none.result c.requires.whole c.in_default.is c.none.ensures

pub returns-then-cannot_report : goal.returns-then-cannot_report
returns-then-cannot_report c = unreported c.args.self.now c.args.face c.args.now c.args.session c.args.report c.in-Some.asked (Ok c.noted.result) c.requires.whole c.in-Some.is
    (sym c.cannot_report.ensures ∙ c.if-cannot_report.true) c.noted.ensures

pub returns : goal.returns
returns c = answered c.args.self.now c.report.new.self c.args.face c.args.now c.args.session c.args.report c.in-Some.asked c.report.result c.in-Some.is
    (sym c.cannot_report.ensures ∙ c.if-cannot_report.false) c.report.ensures
