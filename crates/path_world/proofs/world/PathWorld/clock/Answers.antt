use Rattle.std.proofs.Common.{◌<◌, arith, ap, sym, subst}
use Rattle.path_world.specs.Steps.{Ticks}
use Rattle.path_world.specs.Values.{PathValue}
use Rattle.path_world.proofs.RunLemmas.{clock-stays}
use Rattle.path_world.proofs.world.PathWorld.clock.Goals as goal

pub returns-then-now-self-clause-done : goal.returns-then-now-self-clause-done
returns-then-now-self-clause-done c =
    let same = ap (λ (v : PathValue). v.moment) c.self.view_is in
    let back : c.args.now < c.args.self.now.moment = omega (arith, same, c.if-now-self.true) in
    let stays = clock-stays c.args.self.now c.args.now c.requires.whole back in
    subst (λ told. Ticks c.args.self.now c.args.self.now c.args.now told) (sym c.nothing.ensures) (record { happens = stays.happens; back = λ _. stays })
