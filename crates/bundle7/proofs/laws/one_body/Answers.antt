use Rattle.bundle7.proofs.BodyLemmas.{body-found, body-only}
use Rattle.bundle7.proofs.laws.one_body.Goals as goal

pub returns-clause-found : goal.returns-clause-found
returns-clause-found c = body-found

pub returns-clause-only : goal.returns-clause-only
returns-clause-only c = body-only
