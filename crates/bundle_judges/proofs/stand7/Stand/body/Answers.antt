-- The octets of a body, as far as they are there.
use Rattle.std.proofs.Common.{sym, ◌∙◌, refl, arith}
use Rattle.bundle_judges.proofs.StepLemmas7.{body-waits, body-refused, body-passes}
use Rattle.bundle_judges.proofs.stand7.Stand.body.Goals as goal

pub returns-then-rest-left : goal.returns-then-rest-left
returns-then-rest-left c = λ text stands is.
    rw c.with-sum.ensures (body-waits text c.args.rest.now c.args.self.now c.args.front c.args.sum stands c.requires.stage is c.if-rest-left.true)

pub returns-then-is_single : goal.returns-then-is_single
returns-then-is_single c = λ text stands is.
    body-refused text c.args.rest.now c.args.self.now c.args.front c.args.sum stands c.requires.stage is _ refl (omega (arith, c.if-rest-left.false)) (sym c.is_single.ensures ∙ c.if-is_single.true)

pub returns : goal.returns
returns c = λ text stands is.
    rw (c.go.ensures.step, c.go.ensures.stand, c.with-sum-2.ensures)
    (body-passes text c.args.rest.now c.args.self.now c.args.front c.args.sum stands c.requires.stage is _ refl (omega (arith, c.if-rest-left.false)) _ (sym c.is_single.ensures ∙ c.if-is_single.false) refl)
