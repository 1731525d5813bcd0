-- Each clause follows from the exact one, by the laws of judges.
use Rattle.std.proofs.Common.{arith}
use Rattle.wire_fields.proofs.JudgeLemmas.{judges-found, judges-only, judges-refused, judges-refuses}
use Rattle.bundle7.specs.Cause.{stop_of}
use Rattle.bundle7.specs.Table.{bundle}
use Rattle.bundle7.proofs.JudgingLemmas.{begins-spells}
use Rattle.bundle7.proofs.judging.judge7.Goals as goal

pub returns-clause-found : goal.returns-clause-found
returns-clause-found c =
    begins-spells c.args.bytes.now c.bundle_judged.result
    (judges-found (bundle 64) stop_of c.args.bytes.now c.bundle_judged.result (λ i. omega (arith, c.type_inv.bytes i)) c.bundle_judged.ensures.exact)

pub returns-clause-only : goal.returns-clause-only
returns-clause-only c = λ b k within spells.
    judges-only (bundle 64) stop_of c.args.bytes.now c.bundle_judged.result c.bundle_judged.ensures.exact b k
    (record { within = within; spells = spells })

pub returns-clause-refused : goal.returns-clause-refused
returns-clause-refused c =
    judges-refused (bundle 64) stop_of c.args.bytes.now c.bundle_judged.result (λ i. omega (arith, c.type_inv.bytes i)) c.bundle_judged.ensures.exact

pub returns-clause-refuses : goal.returns-clause-refuses
returns-clause-refuses c =
    judges-refuses (bundle 64) stop_of c.args.bytes.now c.bundle_judged.result (λ i. omega (arith, c.type_inv.bytes i)) c.bundle_judged.ensures.exact
