use Rattle.std.proofs.Common.{◌∙◌, subst, rules}
use Rattle.ltp_world.specs.Ties.{IsSound}
use Rattle.ltp_world.proofs.DrainLemmas.{all-ahead}
use Rattle.ltp_world.proofs.world.LinkWorld.next_deadline.Goals as goal

pub returns-clause-ahead : goal.returns-clause-ahead
returns-clause-ahead c =
    all-ahead c.args.self.now c.earlier_of.result ((subst IsSound c.self.view_is c.self.invariant).stands c.requires.whole)
    (c.earlier_of.ensures ∙ search rules)
