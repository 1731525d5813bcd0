use Rattle.bundle_json.proofs.TellingLemmas.{new-left}
use Rattle.bundle_json.proofs.telling6.Telling6.new.Goals as goal

pub returns-clause-left : goal.returns-clause-left
returns-clause-left c = λ bundle spells.
    new-left c.args.octets.now bundle c.primary-at.result.0 c.primary-at.result.1 spells c.primary-at.ensures
