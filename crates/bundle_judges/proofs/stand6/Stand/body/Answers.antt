-- The octets of a block, as far as they are there.
use Rattle.std.proofs.Common.{◌≡◌, length, drop, ap, refl, arith}
use Rattle.bundle_judges.proofs.StandLemmas6.{body-leaves, body-waits}
use Rattle.bundle_judges.proofs.stand6.Stand.body.Goals as goal

pub returns-then-rest-left : goal.returns-then-rest-left
returns-then-rest-left c = λ text stands is.
    body-waits text c.args.self.now c.args.size c.args.last _ stands c.requires.stage (ap length is) c.requires.some c.if-rest-left.true

pub returns : goal.returns
returns c = λ text stands is.
    let long : length c.args.rest.now ≡ length (drop c.args.self.now.came text) = ap length is in
    c.leave.ensures text (body-leaves text c.args.self.now c.args.size c.args.last _ stands c.requires.stage refl
    (omega (arith, c.if-rest-left.false, long)))
