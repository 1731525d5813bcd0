use Rattle.std.proofs.Common.{sym, arith}
use Rattle.bundle7.specs.Body.{age}
use Rattle.translate.proofs.BodyLemmas.{whole-yes, whole-no, none-spelled}
use Rattle.translate.proofs.reading6.is_age.Goals as goal

pub returns-in-Some : goal.returns-in-Some
returns-in-Some c = sym (whole-yes age c.args.body.now c.in-Some.field-0 c.in-Some.ensures.found)

pub returns-in-None : goal.returns-in-None
returns-in-None c =
    sym (whole-no age c.args.body.now (λ i. omega (arith, c.type_inv.body i)) (none-spelled age c.args.body.now c.in-None.ensures.only))
