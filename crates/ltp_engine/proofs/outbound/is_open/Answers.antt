use Rattle.std.proofs.Common.{rules}
use Rattle.ltp_segment.specs.PolicyViews.{policy_value}
use Rattle.ltp_sender.specs.Sender.{is_kept_open}
use Rattle.ltp_engine.proofs.TableLemmas.{whole-live}
use Rattle.ltp_engine.proofs.KeptLemmas.{told-kept, told-absent}
use Rattle.ltp_engine.proofs.outbound.is_open.Goals as goal

pub is_open-requires : goal.is_open-requires
is_open-requires c = record { whole = whole-live c.args.terms.originator (policy_value c.args.terms.policy) c.args.n c.args.senders.now.entries c.in-Some.sender.now c.requires (search rules) }

pub returns-in-None : goal.returns-in-None
returns-in-None c = told-absent c.args.terms.originator (policy_value c.args.terms.policy) c.args.n c.args.senders.now.entries is_kept_open c.requires (search rules)

pub returns-in-Some : goal.returns-in-Some
returns-in-Some c = told-kept c.args.terms.originator (policy_value c.args.terms.policy) c.args.n c.args.senders.now.entries is_kept_open c.in-Some.sender.now c.is_open.result
    c.requires (search rules) c.is_open.ensures
