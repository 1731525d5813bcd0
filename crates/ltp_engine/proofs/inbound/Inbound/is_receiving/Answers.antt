use Rattle.ltp_segment.specs.PolicyViews.{policy_value}
use Rattle.ltp_engine.proofs.ElsewhereLemmas.{held-kept}
use Rattle.ltp_engine.proofs.inbound.Inbound.is_receiving.Goals as goal

pub returns : goal.returns
returns c = held-kept c.args.terms.now.originator (policy_value c.args.terms.now.policy) c.args.n c.args.self.now c.contains_key.result c.requires c.contains_key.ensures
