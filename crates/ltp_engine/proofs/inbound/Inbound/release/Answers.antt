use Rattle.std.proofs.Common.{rules}
use Rattle.ltp_segment.specs.PolicyViews.{policy_value}
use Rattle.ltp_engine.proofs.ElsewhereLemmas.{released-live}
use Rattle.ltp_engine.proofs.inbound.Inbound.release.Goals as goal

pub returns : goal.returns
returns c = released-live c.args.terms.now.originator (policy_value c.args.terms.now.policy) c.args.n c.args.self.now _ c.requires c.len-kept.ensures.unique (search rules) (search rules)
