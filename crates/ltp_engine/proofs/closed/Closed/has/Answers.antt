use Rattle.std.proofs.Common.{rules, ◌∙◌, ap}
use Rattle.ltp_engine.specs.Closed.{is_among}
use Rattle.ltp_engine.proofs.ClosedLemmas.{has-below}
use Rattle.ltp_engine.proofs.closed.Closed.has.Goals as goal

pub returns-else-n-eq-LAST : goal.returns-else-n-eq-LAST
returns-else-n-eq-LAST c =
    has-below c.args.n (record { places = c.self.inside.places; last = c.self.inside.last; runs = c.self.inside.runs }) c.covers.result c.if-n-eq-LAST.false (search rules) c.self.invariant c.covers.ensures
    ∙ ap (λ v. is_among v c.args.n) c.self.view_is
