use Rattle.wire_fields.specs.Kind.{number}
use Rattle.bundle_json.proofs.WalkLemmas.{found-lies, never-missed}
use Rattle.bundle_json.proofs.walk.number.Goals as goal

pub returns-in-Ok : goal.returns-in-Ok
returns-in-Ok c = λ cause front text rest value spells lies.
    found-lies number c.args.octets.now c.args.at text rest value c.in-Ok.found spells lies c.in-Ok.ensures.exact

pub returns-in-Err : goal.returns-in-Err
returns-in-Err c = λ cause front text rest value spells lies.
    absurd (never-missed number c.args.octets.now c.args.at text rest value _ spells lies c.in-Err.ensures.exact)
