use Rattle.std.proofs.Common.{None, if◌then◌else◌, sym, ap, ◌∙◌}
use Rattle.bundle_meaning.specs.declared.full.Full.{Full}
use Rattle.gate_cases.specs.declared.face.Face.TheVariants.{New}
use Rattle.gate_cases.specs.Blocks.{arrival6}
use Rattle.block_types.specs.Bare.{bare_of}
use Rattle.peer_cases.specs.Arrivals.{loses, came_as}
use Rattle.peer_cases.proofs.SendLemmas.{read-ok, sent-refused}
use Rattle.peer_cases.proofs.deciding.sent6.Goals as goal

pub returns-in_ok-onward-in-Ok : goal.returns-in_ok-onward-in-Ok
returns-in_ok-onward-in-Ok c =
    let bare = c.args.settings.bare in
    read-ok c.args.settings New (came_as bare (arrival6 c.args.bundle.now)) c.in-Ok.full c.in_ok-onward-in-Ok.onward.full c.in_ok-onward-in-Ok.onward.left
    c.args.now c.args.cut c.args.room c.send.result (rw c.in-Ok.is at c.in_ok-full.ensures.exact)
    (λ same. c.in_ok-onward-in-Ok.ensures.full ∙ ap (λ (f : Full). if bare then bare_of f else f) same)
    (λ same. c.in_ok-onward-in-Ok.ensures.left ∙ ap (λ (f : Full). if bare then loses f else None) same)
    c.send.ensures

pub returns-in-Err : goal.returns-in-Err
returns-in-Err c =
    c.stopped.ensures ∙ sym (sent-refused c.args.settings New (came_as c.args.settings.bare (arrival6 c.args.bundle.now)) c.args.now c.args.cut c.args.room
    c.in-Err.cause (rw c.in-Err.is at c.in_ok-full.ensures.exact))
