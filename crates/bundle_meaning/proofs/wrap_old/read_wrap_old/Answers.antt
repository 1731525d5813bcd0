-- Each clause follows from the exact one.
use Rattle.std.proofs.Common.{arith, length}
use Rattle.bundle_meaning.specs.Wrap.{wrap_old}
use Rattle.bundle_meaning.proofs.BodyLemmas.{body-found, body-only, body-bad}
use Rattle.bundle_meaning.proofs.FactLemmas.{wrap_old-read}
use Rattle.bundle_meaning.proofs.wrap_old.read_wrap_old.Goals as goal

pub returns-clause-found : goal.returns-clause-found
returns-clause-found c = body-found (wrap_old (length c.args.body.now)) c.whole_wrap.result c.args.body.now (λ i. omega (arith, c.type_inv.body i)) c.whole_wrap.ensures

pub returns-clause-only : goal.returns-clause-only
returns-clause-only c = body-only (wrap_old (length c.args.body.now)) c.whole_wrap.result c.args.body.now c.whole_wrap.ensures

pub returns-clause-bad : goal.returns-clause-bad
returns-clause-bad c = body-bad (wrap_old (length c.args.body.now)) c.whole_wrap.result c.args.body.now (λ i. omega (arith, c.type_inv.body i)) c.whole_wrap.ensures

pub returns-clause-block : goal.returns-clause-block
returns-clause-block c =
    wrap_old-read c.whole_wrap.result c.args.body.now (λ i. omega (arith, c.type_inv.body i)) (omega arith) c.whole_wrap.ensures
