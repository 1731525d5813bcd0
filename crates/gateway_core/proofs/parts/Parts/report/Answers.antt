use Rattle.gateway_core.proofs.SendLemmas.{whole-counted, reported}
use Rattle.gateway_core.proofs.parts.Parts.report.Goals as goal

pub send-requires-clause-whole : goal.send-requires-clause-whole
send-requires-clause-whole c = whole-counted c.args.self.now c.args.face c.args.now c.requires.whole c.requires.can

pub returns : goal.returns
returns c = reported c.args.self.now c.send.new.self c.args.face c.args.now c.args.session c.args.asked.now c.as_slice.result.now c.in_ok-block.block c.in_ok-sent.sent c.noted-noted.result
    c.followed_by.result c.in_ok-block.ensures.exact c.as_slice.ensures c.in_ok-sent.ensures.done c.noted-noted.ensures c.followed_by.ensures.joined
