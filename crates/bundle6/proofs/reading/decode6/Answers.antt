-- Each clause by the law of all formats that it is.
use Rattle.std.proofs.Common.{arith}
use Rattle.wire_fields.proofs.FrontLemmas.{front-found, front-only, front-refused, front-stays}
use Rattle.wire_fields.proofs.JudgeLemmas.{wanting-refuses}
use Rattle.bundle6.specs.Cause.{refusal}
use Rattle.bundle6.specs.Table.{bundle}
use Rattle.bundle6.proofs.LegalLemmas.{found-legal}
use Rattle.bundle6.proofs.JudgeLemmas.{decoded-memory}
use Rattle.bundle6.proofs.reading.decode6.Goals as goal

pub returns-clause-found : goal.returns-clause-found
returns-clause-found c =
    found-legal c.decoded.result c.args.bytes.now (λ i. omega (arith, c.type_inv.bytes i))
    (front-found (bundle 64) (λ b. b) refusal c.decoded.result c.args.bytes.now
    (λ i. omega (arith, c.type_inv.bytes i)) c.decoded.ensures.exact)

pub returns-clause-only : goal.returns-clause-only
returns-clause-only c = λ b k within spells.
    front-only (bundle 64) (λ b. b) refusal c.decoded.result c.args.bytes.now c.decoded.ensures.exact b k
    (record { within = within; spells = spells.spelled })

pub returns-clause-refused : goal.returns-clause-refused
returns-clause-refused c =
    front-refused (bundle 64) (λ b. b) refusal c.decoded.result c.args.bytes.now
    (λ i. omega (arith, c.type_inv.bytes i)) c.decoded.ensures.exact

pub returns-clause-refuses : goal.returns-clause-refuses
returns-clause-refuses c =
    wanting-refuses (bundle 64) (λ b. b) refusal c.args.bytes.now c.decoded.result
    (λ i. omega (arith, c.type_inv.bytes i)) c.decoded.ensures.exact c.decoded.ensures.wants

pub returns-clause-memory : goal.returns-clause-memory
returns-clause-memory c =
    decoded-memory c.decoded.result c.args.bytes.now (λ i. omega (arith, c.type_inv.bytes i)) c.decoded.ensures.wants

pub returns-clause-stays : goal.returns-clause-stays
returns-clause-stays c =
    front-stays (bundle 64) (λ b. b) refusal c.decoded.result c.args.bytes.now
    (λ i. omega (arith, c.type_inv.bytes i)) c.decoded.ensures.exact
