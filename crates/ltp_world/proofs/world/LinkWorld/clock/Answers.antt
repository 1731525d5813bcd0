use Rattle.std.proofs.Common.{◌<◌, false, arith, sym, ap, subst}
use Rattle.ltp_session.specs.World.{clock}
use Rattle.ltp_world.specs.Steps.{Ticks}
use Rattle.ltp_world.specs.Ties.{made_world, IsSound}
use Rattle.ltp_world.specs.Values.{WorldValue}
use Rattle.ltp_world.proofs.WorldLemmas.{clock-stays, clock-answer, unbroken, happens-sound}
use Rattle.ltp_world.proofs.world.LinkWorld.clock.Goals as goal

pub invariant_of-self-2 : goal.invariant_of-self-2
invariant_of-self-2 c =
    happens-sound c.args.self.now (made_world false (c.tick.new.self, c.tick-2.new.self) c.keep-2.new.sent.items c.args.now) (clock c.args.now)
    (subst IsSound c.self.view_is c.self.invariant) c.requires.whole
    (clock-answer c.self.inside.broken (c.self.inside.first, c.self.inside.second) (c.tick.new.self, c.tick-2.new.self) c.self.inside.sent.items c.keep.new.sent.items c.keep-2.new.sent.items
    c.self.inside.moment c.args.now c.args.self.now c.in_ok-first.first c.in_ok-second.second c.as_slice.result.now c.as_slice-2.result.now c.in_ok-told-2.told
    c.self.view_is (omega (arith, c.if-now-self.false)) c.in_ok-first.ensures.done c.in_ok-second.ensures.done
    c.in_ok-keep.ensures c.as_slice.ensures c.in_ok-keep-2.ensures c.as_slice-2.ensures c.in_ok-told-2.ensures).0 c.requires.moment

pub returns-then-now-self-clause-done : goal.returns-then-now-self-clause-done
returns-then-now-self-clause-done c =
    let later : c.args.now < c.args.self.now.moment = omega (arith, c.if-now-self.true, ap (λ (v : WorldValue). v.moment) c.self.view_is) in
    subst (λ v. Ticks c.args.self.now v c.args.now c.in_ok-told.told)
    (sym (unbroken c.self.inside.broken (c.self.inside.first, c.self.inside.second) c.self.inside.sent.items c.self.inside.moment c.args.self.now c.self.view_is c.requires.whole))
    (subst (λ told. Ticks c.args.self.now c.args.self.now c.args.now told) (sym c.in_ok-told.ensures)
    (clock-stays c.args.self.now c.args.now c.requires.whole later))

pub returns-clause-done : goal.returns-clause-done
returns-clause-done c = clock-answer c.self.inside.broken (c.self.inside.first, c.self.inside.second) (c.tick.new.self, c.tick-2.new.self) c.self.inside.sent.items c.keep.new.sent.items c.keep-2.new.sent.items
    c.self.inside.moment c.args.now c.args.self.now c.in_ok-first.first c.in_ok-second.second c.as_slice.result.now c.as_slice-2.result.now c.in_ok-told-2.told
    c.self.view_is (omega (arith, c.if-now-self.false)) c.in_ok-first.ensures.done c.in_ok-second.ensures.done
    c.in_ok-keep.ensures c.as_slice.ensures c.in_ok-keep-2.ensures c.as_slice-2.ensures c.in_ok-told-2.ensures
