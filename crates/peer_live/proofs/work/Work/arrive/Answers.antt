use Rattle.std.proofs.lemmas.Result.{on_ok_weaker}
use Rattle.ltp_segment.specs.Reading.{segment_of}
use Rattle.peer_gateway.specs.Steps.{a_datagram}
use Rattle.peer_gateway.specs.Views.{moments_of}
use Rattle.peer_live.proofs.ShowsLemmas.{named-after, whole-after}
use Rattle.peer_live.proofs.PartLemmas.{does-arrive, whole-kept}
use Rattle.peer_live.proofs.work.Work.arrive.Goals as goal

pub settle-requires-clause-named : goal.settle-requires-clause-named
settle-requires-clause-named c =
    named-after (c.args.self.now).gate c.arrive.new.self (a_datagram c.args.face (segment_of c.args.datagram.now)) (moments_of (c.args.self.now).moments) c.octets-octets.result c.in_ok-answer.answer c.in_ok-answer.ensures.done

pub settle-requires-clause-whole : goal.settle-requires-clause-whole
settle-requires-clause-whole c =
    whole-after (record c.args.self.now { kept = c.count.new.self }) c.arrive.new.self (a_datagram c.args.face (segment_of c.args.datagram.now)) c.octets-octets.result c.in_ok-answer.answer
    (whole-kept c.args.self.now c.count.new.self c.requires) c.in_ok-answer.ensures.done

pub returns : goal.returns
returns c =
    on_ok_weaker c.settle.result (λ settled. does-arrive c.args.self.now c.settle.new.self c.count.new.self c.arrive.new.self c.args.face c.args.datagram.now c.octets-octets.result c.in_ok-answer.answer c.requires
    c.count.ensures c.octets-octets.ensures c.in_ok-answer.ensures.done settled) c.settle.ensures
