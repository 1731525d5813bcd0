use Rattle.std.proofs.Common.{false, subst}
use Rattle.ltp_session.specs.World.{submit}
use Rattle.ltp_world.specs.Ends.{link_end}
use Rattle.ltp_world.specs.Ties.{made_world, IsSound}
use Rattle.ltp_world.proofs.WorldLemmas.{submit-answer, happens-sound}
use Rattle.ltp_world.proofs.world.LinkWorld.submit.Goals as goal

pub invariant_of-self-2 : goal.invariant_of-self-2
invariant_of-self-2 c =
    happens-sound c.args.self.now (made_world false (c.submit_at.new.first, c.submit_at.new.second) c.keep.new.sent.items c.self.inside.moment) (submit (link_end c.args.end) c.args.block.now c.args.red)
    (subst IsSound c.self.view_is c.self.invariant) c.requires.whole
    (submit-answer c.self.inside.broken (c.self.inside.first, c.self.inside.second) (c.submit_at.new.first, c.submit_at.new.second) c.self.inside.sent.items c.keep.new.sent.items
    c.self.inside.moment c.args.self.now c.args.end c.args.block.now c.args.red c.in_ok-effects.effects c.as_slice.result.now
    c.self.view_is c.requires.whole c.in_ok-effects.ensures.does c.requires.red c.in_ok-keep.ensures c.as_slice.ensures).0 c.self.invariant.moment

pub returns-clause-does : goal.returns-clause-does
returns-clause-does c = submit-answer c.self.inside.broken (c.self.inside.first, c.self.inside.second) (c.submit_at.new.first, c.submit_at.new.second) c.self.inside.sent.items c.keep.new.sent.items
    c.self.inside.moment c.args.self.now c.args.end c.args.block.now c.args.red c.in_ok-effects.effects c.as_slice.result.now
    c.self.view_is c.requires.whole c.in_ok-effects.ensures.does c.requires.red c.in_ok-keep.ensures c.as_slice.ensures
