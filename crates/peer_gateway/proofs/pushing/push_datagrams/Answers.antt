use Rattle.std.proofs.Common.{refl, sym, map}
use Rattle.std.proofs.lemmas.List.{append-nil}
use Rattle.face_room.specs.Queues.{puts, queued_after}
use Rattle.peer_gateway.specs.Answers.{routed_seen, put_seen}
use Rattle.peer_gateway.proofs.QueueLemmas.{pushed}
use Rattle.peer_gateway.proofs.pushing.push_datagrams.Goals as goal

pub each-init : goal.each-init
unfolding puts queued_after
each-init c =
    (sym (append-nil (map routed_seen c.args.out.now.items)), sym (append-nil (map put_seen c.args.out.now.items)), refl)

pub each-preserved : goal.each-preserved
each-preserved c =
    let more = pushed c.args.out.now.items c.each.out.items c.push.new.self.items c.args.queue.now c.each.queue c.put-is_put.new.self c.args.face c.each.yielded
    c.in-Some.datagram c.len.result c.put-is_put.result c.each.invariant.0 c.each.invariant.1 c.each.invariant.2 c.len.ensures c.put-is_put.ensures.is_put
    c.put-is_put.ensures.after c.in_ok-push.ensures.items in
    (more.routed, more.put, more.queue)
