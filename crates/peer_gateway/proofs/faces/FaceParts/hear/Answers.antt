use Rattle.std.proofs.Common.{refl}
use Rattle.peer_gateway.proofs.FaceLemmas.{stepped-face, heard-all}
use Rattle.peer_gateway.proofs.faces.FaceParts.hear.Goals as goal

pub tell-requires : goal.tell-requires
tell-requires c =
    record { whole = stepped-face c.args.self.now c.arrive.new.self _ c.in_ok-told.told c.requires.whole c.in_ok-told.ensures.done }

pub returns : goal.returns
returns c =
    heard-all c.args.self.now (record c.args.self.now { sessions = c.arrive.new.self }) c.tell.new.self c.args.answer.now c.tell.new.answer _ c.in_ok-told.told
    c.in_ok-ups.ups c.sending-sending.result c.sending.result refl c.in_ok-told.ensures.done c.in_ok-ups.ensures c.sending-sending.ensures c.sending.ensures
