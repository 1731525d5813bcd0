-- Where the octets that came end.
use Rattle.std.proofs.Common.{arith}
use Rattle.bundle_judges.proofs.FeedLemmas7.{primary-place, field-place, body-place, place-inside}
use Rattle.bundle_judges.proofs.stand7.Stand.cut.Goals as goal

pub overflow_add-result : goal.overflow_add-result
overflow_add-result c =
    let text = c.requires.come.0 in
    let come = c.requires.come.1 in
    let place = field-place text c.args.self.now come c.in-Field.small c.in-Field.is c.in-Err-field.refused
    c.in-Err-field.ensures.exact in
    omega (arith, place-inside text _ come.stands.octets place, come.all, c.requires.counted)

pub returns-in-Err : goal.returns-in-Err
returns-in-Err c = λ text come.
    primary-place text c.args.self.now come c.in-Primary.is c.in-Err.refused (rw c.as_slice.ensures.value at c.in-Err.ensures.exact)

pub returns-in-Err-field : goal.returns-in-Err-field
returns-in-Err-field c = λ text come.
    field-place text c.args.self.now come c.in-Field.small c.in-Field.is c.in-Err-field.refused
    c.in-Err-field.ensures.exact

pub returns-in-Body : goal.returns-in-Body
returns-in-Body c = λ text come. body-place text c.args.self.now come c.in-Body.front c.in-Body.sum c.in-Body.is
