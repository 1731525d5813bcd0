use Rattle.bundle7.proofs.FieldLemmas.{short-head}
use Rattle.bundle7.proofs.fields.after_exactly.Goals as goal

pub returns-then-is_short-clause-exact : goal.returns-then-is_short-clause-exact
returns-then-is_short-clause-exact c =
    let (there, small, octet) = c.is_short.ensures c.if-is_short.true in
    short-head c.args.text.now c.args.at c.args.major c.args.value c.args.cause there small octet
