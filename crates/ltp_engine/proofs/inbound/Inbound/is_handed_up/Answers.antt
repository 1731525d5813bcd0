use Rattle.std.proofs.Common.{rules}
use Rattle.ltp_segment.specs.PolicyViews.{policy_value}
use Rattle.ltp_receiver.specs.Receiver.{is_kept_handed_up}
use Rattle.ltp_engine.proofs.ChangeLemmas.{whole-kept}
use Rattle.ltp_engine.proofs.KeptLemmas.{told-received, told-unreceived}
use Rattle.ltp_engine.proofs.inbound.Inbound.is_handed_up.Goals as goal

pub is_handed_up-requires : goal.is_handed_up-requires
is_handed_up-requires c = record { whole = whole-kept c.args.terms.now.originator (policy_value c.args.terms.now.policy) c.args.n c.args.self.now.receivers.entries c.in-Some.receiver.now c.requires (search rules) }

pub returns-in-None : goal.returns-in-None
returns-in-None c = told-unreceived c.args.terms.now.originator (policy_value c.args.terms.now.policy) c.args.n c.args.self.now.receivers.entries is_kept_handed_up c.requires (search rules)

pub returns-in-Some : goal.returns-in-Some
returns-in-Some c = told-received c.args.terms.now.originator (policy_value c.args.terms.now.policy) c.args.n c.args.self.now.receivers.entries is_kept_handed_up c.in-Some.receiver.now c.is_handed_up.result
    c.requires (search rules) c.is_handed_up.ensures
