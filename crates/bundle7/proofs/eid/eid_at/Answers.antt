use Rattle.bundle7.proofs.FieldLemmas.{short-ipn}
use Rattle.bundle7.proofs.eid.eid_at.Goals as goal

pub returns-then-is_short_ipn-clause-exact : goal.returns-then-is_short_ipn-clause-exact
returns-then-is_short_ipn-clause-exact c =
    rw (c.from-node.ensures, c.from-service.ensures) (short-ipn c.args.text.now c.args.at (c.is_short_ipn.ensures c.if-is_short_ipn.true))
