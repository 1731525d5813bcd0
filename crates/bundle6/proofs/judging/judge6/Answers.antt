-- Each clause by the law of all tables that it is.
use Rattle.std.proofs.Common.{arith}
use Rattle.wire_fields.proofs.JudgeLemmas.{judges-found, judges-only, judges-refused, judges-refuses, judges-stays}
use Rattle.bundle6.specs.Cause.{stop_of}
use Rattle.bundle6.specs.Table.{bundle}
use Rattle.bundle6.proofs.JudgeLemmas.{judged-legal}
use Rattle.bundle6.proofs.judging.judge6.Goals as goal

pub returns-clause-found : goal.returns-clause-found
returns-clause-found c =
    judged-legal c.end_judged.result c.args.bytes.now (λ i. omega (arith, c.type_inv.bytes i))
    (judges-found (bundle 64) stop_of c.args.bytes.now c.end_judged.result (λ i. omega (arith, c.type_inv.bytes i))
    c.end_judged.ensures)

pub returns-clause-only : goal.returns-clause-only
returns-clause-only c = λ b k within spells.
    judges-only (bundle 64) stop_of c.args.bytes.now c.end_judged.result c.end_judged.ensures b k
    (record { within = within; spells = spells.spelled })

pub returns-clause-refused : goal.returns-clause-refused
returns-clause-refused c =
    judges-refused (bundle 64) stop_of c.args.bytes.now c.end_judged.result (λ i. omega (arith, c.type_inv.bytes i))
    c.end_judged.ensures

pub returns-clause-refuses : goal.returns-clause-refuses
returns-clause-refuses c =
    judges-refuses (bundle 64) stop_of c.args.bytes.now c.end_judged.result (λ i. omega (arith, c.type_inv.bytes i))
    c.end_judged.ensures

pub returns-clause-stays : goal.returns-clause-stays
returns-clause-stays c =
    judges-stays (bundle 64) stop_of c.args.bytes.now c.end_judged.result (λ i. omega (arith, c.type_inv.bytes i))
    c.end_judged.ensures
