use Rattle.std.proofs.Common.{false, None, refl, sym, ◌∙◌}
use Rattle.gate_cases.specs.declared.face.Face.TheVariants.{Old}
use Rattle.gate_cases.specs.Blocks.{arrival7}
use Rattle.peer_cases.specs.Arrivals.{came_as}
use Rattle.peer_cases.proofs.SendLemmas.{read-ok, sent-refused}
use Rattle.peer_cases.proofs.deciding.sent7.Goals as goal

pub returns-in-Ok : goal.returns-in-Ok
returns-in-Ok c =
    read-ok c.args.settings Old (came_as false (arrival7 c.args.bundle.now)) c.in-Ok.full c.in-Ok.full None
    c.args.now c.args.cut c.args.room c.send.result (rw c.in-Ok.is at c.in_ok-full.ensures.exact)
    (λ same. same) (λ same. refl) c.send.ensures

pub returns-in-Err : goal.returns-in-Err
returns-in-Err c =
    c.stopped.ensures ∙ sym (sent-refused c.args.settings Old (came_as false (arrival7 c.args.bundle.now)) c.args.now c.args.cut c.args.room
    c.in-Err.cause (rw c.in-Err.is at c.in_ok-full.ensures.exact))
