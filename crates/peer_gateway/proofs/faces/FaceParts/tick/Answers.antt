use Rattle.std.proofs.Common.{refl}
use Rattle.peer_gateway.proofs.FaceLemmas.{stepped-face, heard}
use Rattle.peer_gateway.proofs.faces.FaceParts.tick.Goals as goal

pub tell-requires : goal.tell-requires
tell-requires c =
    record { whole = stepped-face c.args.self.now c.tick.new.self _ c.in_ok-told.told c.requires.whole c.in_ok-told.ensures.done }

pub returns : goal.returns
returns c =
    heard c.args.self.now (record c.args.self.now { sessions = c.tick.new.self }) c.tell.new.self c.args.answer.now c.tell.new.answer _ c.in_ok-told.told
    c.in_ok-tell.field-0 refl c.in_ok-told.ensures.done c.in_ok-tell.ensures
