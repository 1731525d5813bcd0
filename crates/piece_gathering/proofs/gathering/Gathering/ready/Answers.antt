use Rattle.std.proofs.Common.{arith, ap}
use Rattle.piece_gathering.proofs.FrontLemmas.{is-front}
use Rattle.piece_gathering.proofs.gathering.Gathering.ready.Goals as goal

pub returns-then-is_late-clause-within : goal.returns-then-is_late-clause-within
returns-then-is_late-clause-within c =
    rw (← c.self.view_is) (omega (arith, ap (λ f. f.count) c.self.invariant.0, (is-front c.self.inside.wanted c.self.inside.waiting.items).within))
