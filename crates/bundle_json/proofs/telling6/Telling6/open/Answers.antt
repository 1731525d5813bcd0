use Rattle.bundle_json.proofs.TellingLemmas.{tells-open}
use Rattle.bundle_json.proofs.telling6.Telling6.open.Goals as goal

pub returns : goal.returns
returns c = λ octets rest left. tells-open octets c.args.self.now _ _ rest c.requires left c.in_ok-push_str.ensures.bytes
