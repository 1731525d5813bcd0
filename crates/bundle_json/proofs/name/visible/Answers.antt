use Rattle.bundle_json.proofs.StringLemmas.{visible-utf8}
use Rattle.bundle_json.proofs.name.visible.Goals as goal

pub returns-in-Err : goal.returns-in-Err
returns-in-Err c = λ visible. absurd (c.in-Err.ensures.cases.0 (visible-utf8 c.args.octets.now visible))
