use Rattle.bundle_json.proofs.TellingLemmas.{tells-closing}
use Rattle.bundle_json.proofs.telling6.Telling6.close.Goals as goal

pub returns : goal.returns
returns c = λ rest left.
    tells-closing c.args.octets.now c.args.self.now c.args.view _ _ rest c.requires.stage left c.requires.told c.requires.last.0 c.requires.last.1 c.in_ok-write_closing.ensures
