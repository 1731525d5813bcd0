use Rattle.std.proofs.Common.{refl}
use Rattle.peer_gateway.specs.Answers.{begun_seen}
use Rattle.peer_records.proofs.HeldLemmas.{begins}
use Rattle.peer_records.proofs.held.Held.begin.Goals as goal

pub returns : goal.returns
returns c =
    begins (begun_seen c.args.begun.now) c.args.self.now c.take.new.self c.self.inside.at_old.items c.self.inside.at_new.items c.self.inside.sessions.items c.push.new.self.items _
    c.self.view_is c.in_ok-ids.ensures.left c.in_ok-push.ensures.items refl refl c.in_ok-ids.ensures.ids
