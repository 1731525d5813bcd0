use Rattle.std.proofs.lemmas.Result.{on_ok_weaker, on_err_weaker}
use Rattle.peer_live.proofs.QuietLemmas.{none-reserved}
use Rattle.peer_live.proofs.PartLemmas.{does-reserve}
use Rattle.peer_live.proofs.work.Work.reserve.Goals as goal

pub returns-clause-after : goal.returns-clause-after
returns-clause-after c =
    on_ok_weaker c.reserve.result (λ is. does-reserve c.args.self.now c.reserve.new.journal c.requires (rw (← c.next_session-old.ensures, ← c.next_session-new.ensures) is)) c.reserve.ensures.after

pub returns-clause-wanted : goal.returns-clause-wanted
returns-clause-wanted c =
    on_err_weaker c.reserve.result (λ some. λ s shows quiet. some (none-reserved c.args.self.now c.next_session-old.result c.next_session-new.result s c.next_session-old.ensures c.next_session-new.ensures shows quiet))
    c.reserve.ensures.wanted
