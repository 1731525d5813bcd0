-- All of the primary block came.
use Rattle.std.proofs.Common.{refl}
use Rattle.bundle_judges.specs.declared.stand6.Stand.{Stand}
use Rattle.bundle_judges.proofs.StandLemmas6.{read_again, moves-entered}
use Rattle.bundle_judges.proofs.StartLemmas6.{primary-enters}
use Rattle.bundle_judges.proofs.stand6.Stand.fill.Goals as goal

pub returns : goal.returns
returns c = λ text fills.
    let s : Stand = read_again c.args.self.now c.in_ok-part.part c.in_ok-part.texts in
    rw c.enter.ensures
    (moves-entered text c.args.self.now s _ _ _ (primary-enters text c.args.self.now s c.args.more _ fills c.in_ok-part.ensures.order
    (rw c.as_slice.ensures.value at c.in_ok-part.ensures.inside) refl refl refl
    (rw c.as_slice.ensures.value at c.in_ok-part.ensures.exact)) tt refl refl)
