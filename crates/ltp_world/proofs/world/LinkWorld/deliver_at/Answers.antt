use Rattle.std.proofs.Common.{◌<◌, length, false, arith, ap, subst}
use Rattle.ltp_session.specs.World.{deliver}
use Rattle.ltp_world.specs.Ties.{made_world, IsSound}
use Rattle.ltp_world.specs.Values.{WorldValue}
use Rattle.ltp_world.proofs.LinkLemmas.{got-item}
use Rattle.ltp_world.proofs.WorldLemmas.{deliver-answer, happens-sound}
use Rattle.ltp_world.proofs.world.LinkWorld.deliver_at.Goals as goal

pub invariant_of-self-2 : goal.invariant_of-self-2
invariant_of-self-2 c =
    let low : c.args.k < length c.self.inside.sent.items = let same = ap (λ (v : WorldValue). length v.sent) c.self.view_is in omega (arith, same, c.requires.there) in
    happens-sound c.args.self.now (made_world false (c.hear_at.new.first, c.hear_at.new.second) c.keep.new.sent.items c.self.inside.moment) (deliver c.args.k)
    (subst IsSound c.self.view_is c.self.invariant) c.requires.whole
    (deliver-answer c.self.inside.broken (c.self.inside.first, c.self.inside.second) (c.hear_at.new.first, c.hear_at.new.second) c.self.inside.sent.items c.keep.new.sent.items
    c.self.inside.moment c.args.k c.args.self.now c.index-sent.result.now c.other-end.result c.as_slice-datagram.result.now c.in_ok-effects.effects c.as_slice.result.now
    c.self.view_is c.requires.whole low (got-item c.self.inside.sent.items c.args.k c.index-sent.result.now low c.index-sent.ensures) c.other-end.ensures c.as_slice-datagram.ensures
    c.in_ok-effects.ensures.done c.in_ok-keep.ensures c.as_slice.ensures).1 c.self.invariant.moment

pub returns-clause-done : goal.returns-clause-done
returns-clause-done c =
    let low : c.args.k < length c.self.inside.sent.items = let same = ap (λ (v : WorldValue). length v.sent) c.self.view_is in omega (arith, same, c.requires.there) in
    deliver-answer c.self.inside.broken (c.self.inside.first, c.self.inside.second) (c.hear_at.new.first, c.hear_at.new.second) c.self.inside.sent.items c.keep.new.sent.items
    c.self.inside.moment c.args.k c.args.self.now c.index-sent.result.now c.other-end.result c.as_slice-datagram.result.now c.in_ok-effects.effects c.as_slice.result.now
    c.self.view_is c.requires.whole low (got-item c.self.inside.sent.items c.args.k c.index-sent.result.now low c.index-sent.ensures) c.other-end.ensures c.as_slice-datagram.ensures
    c.in_ok-effects.ensures.done c.in_ok-keep.ensures c.as_slice.ensures
