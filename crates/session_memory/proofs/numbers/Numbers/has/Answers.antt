use Rattle.std.proofs.Common.{rules, ap, ◌∙◌}
use Rattle.session_memory.specs.Numbers.{has}
use Rattle.session_memory.proofs.NumberLemmas.{has-code}
use Rattle.session_memory.proofs.numbers.Numbers.has.Goals as goal

pub returns-else-n-eq-LAST : goal.returns-else-n-eq-LAST
returns-else-n-eq-LAST c =
    has-code (record { places = c.self.inside.places; last = c.self.inside.last }) c.args.n c.covers.result c.if-n-eq-LAST.false (search rules)
    c.self.invariant.0 c.covers.ensures
    ∙ ap (λ v. has v c.args.n) c.self.view_is
