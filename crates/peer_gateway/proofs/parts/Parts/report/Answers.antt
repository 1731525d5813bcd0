use Rattle.peer_gateway.proofs.PassLemmas.{report-sized, reports-so}
use Rattle.peer_gateway.proofs.parts.Parts.report.Goals as goal

pub add-requires-clause-sized : goal.add-requires-clause-sized
add-requires-clause-sized c =
    report-sized c.args.self.now.settings c.args.face c.args.moments c.args.octets c.len.result c.of.result c.of.ensures c.len.ensures c.requires.sized

pub returns : goal.returns
returns c =
    reports-so c.args.self.now c.add.new.self c.args.answer.now c.add.new.answer c.tell.new.self c.args.face c.args.moments c.args.index c.args.session
    c.in_ok-report.report c.args.octets c.len.result c.of.result c.tell.result c.in_ok-report.ensures c.len.ensures c.of.ensures c.in_ok-add.ensures
    c.tell.ensures
