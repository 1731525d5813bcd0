use Rattle.bundle6.specs.Streaming.{bundles}
use Rattle.wire_fields.proofs.AnswerLemmas.{one-answer}
use Rattle.wire_fields.proofs.CuttingLemmas.{cuts-alike}
use Rattle.bundle6.proofs.laws.cuts_alike.Goals as goal

pub returns-clause-one : goal.returns-clause-one
returns-clause-one c = one-answer bundles 67108864

pub returns-clause-alike : goal.returns-clause-alike
returns-clause-alike c = cuts-alike bundles 67108864
