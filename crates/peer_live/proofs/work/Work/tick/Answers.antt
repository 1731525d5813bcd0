use Rattle.std.proofs.lemmas.Result.{on_ok_weaker}
use Rattle.peer_gateway.specs.Steps.{a_tick}
use Rattle.peer_gateway.specs.Views.{moments_of}
use Rattle.peer_live.proofs.ShowsLemmas.{named-after, whole-after}
use Rattle.peer_live.proofs.PartLemmas.{does-tick}
use Rattle.peer_live.proofs.work.Work.tick.Goals as goal

pub settle-requires-clause-named : goal.settle-requires-clause-named
settle-requires-clause-named c =
    named-after (c.args.self.now).gate c.tick.new.self a_tick (moments_of (c.args.self.now).moments) c.octets-octets.result c.in_ok-answer.answer c.in_ok-answer.ensures.done

pub settle-requires-clause-whole : goal.settle-requires-clause-whole
settle-requires-clause-whole c =
    whole-after c.args.self.now c.tick.new.self a_tick c.octets-octets.result c.in_ok-answer.answer c.requires c.in_ok-answer.ensures.done

pub returns : goal.returns
returns c =
    on_ok_weaker c.settle.result (λ settled. does-tick c.args.self.now c.settle.new.self c.tick.new.self c.octets-octets.result c.in_ok-answer.answer c.requires
    c.octets-octets.ensures c.in_ok-answer.ensures.done settled) c.settle.ensures
