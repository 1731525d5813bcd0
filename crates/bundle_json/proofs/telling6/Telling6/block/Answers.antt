use Rattle.std.proofs.Common.{arith}
use Rattle.bundle_json.proofs.TellingLemmas.{tells-primary, tells-block}
use Rattle.bundle_json.proofs.telling6.Telling6.block.Goals as goal

pub returns-then-self-octets : goal.returns-then-self-octets
returns-then-self-octets c = λ rest left.
    tells-primary c.args.octets.now c.args.self.now c.args.later _ _ rest c.requires left c.if-self-octets.true c.in_ok-write_primary.ensures

pub returns : goal.returns
returns c = λ rest left.
    tells-block c.args.octets.now c.args.self.now c.args.later c.block-view.result _ _ rest (λ i. omega (arith, c.type_inv.octets i)) c.requires left
    (omega (arith, c.if-self-octets.false)) c.block-view.ensures (rw c.opening.ensures at c.in_ok-push_str.ensures.bytes)
