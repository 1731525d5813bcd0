use Rattle.wire_fields.proofs.KindLemmas.{number-one}
use Rattle.wire_fields.proofs.field.number_ahead.Goals as goal

pub returns-then-text-at-lt128-clause-exact : goal.returns-then-text-at-lt128-clause-exact
returns-then-text-at-lt128-clause-exact c =
    rw c.from.ensures (number-one c.args.text.now c.args.at c.if-at-text.true c.if-text-at-lt128.true)
