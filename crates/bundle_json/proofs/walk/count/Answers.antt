use Rattle.bundle6.specs.declared.fault.Cause6.TheVariants.{Number}
use Rattle.bundle_json.proofs.walk.count.Goals as goal

pub returns-then-present : goal.returns-then-present
returns-then-present c = λ front text rest value spells lies.
    c.number.ensures Number front text rest value (rw c.if-present.true at spells) lies
