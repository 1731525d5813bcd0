use Rattle.ltp_segment.specs.PolicyViews.{policy_value}
use Rattle.ltp_engine.proofs.InboundLemmas.{kept-are}
use Rattle.ltp_engine.proofs.inbound.Inbound.len.Goals as goal

pub returns : goal.returns
returns c = kept-are c.args.terms.now.originator (policy_value c.args.terms.now.policy) c.args.self.now c.len.result c.requires c.len.ensures.unique c.len.ensures.len
