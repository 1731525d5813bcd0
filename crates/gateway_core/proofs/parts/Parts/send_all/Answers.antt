use Rattle.gateway_core.proofs.SendLemmas.{sends-none, sends-more}
use Rattle.gateway_core.proofs.parts.Parts.send_all.Goals as goal

pub sending-init : goal.sending-init
sending-init c = sends-none c.args.face c.args.now c.args.self.now c.args.blocks.now c.none-sent.result c.requires.whole c.none-sent.ensures c.requires.room

pub sending-preserved : goal.sending-preserved
sending-preserved c = sends-more c.args.face c.args.now c.args.self.now c.sending.self c.send.new.self c.args.blocks.now c.sending.block-index c.block-item.result c.as_slice.result.now
    c.sending.sent c.in_ok-more.more c.in_ok-sent.sent c.sending-test.true c.block-item.is c.as_slice.ensures c.sending.invariant c.in_ok-more.ensures.done c.in_ok-more.ensures.takes c.in_ok-sent.ensures.joined
