use Rattle.std.proofs.Common.{rules, ◌≡◌, subst, IsPermutation}
use Rattle.std.specs.Map.{keys_of}
use Rattle.ltp_segment.specs.PolicyViews.{policy_value}
use Rattle.ltp_engine.proofs.ChangeLemmas.{numbers-ordered}
use Rattle.ltp_engine.proofs.inbound.Inbound.numbers.Goals as goal

pub returns : goal.returns
returns c =
    let same : c.in_ok-numbers.numbers.items ≡ keys_of c.args.self.now.receivers.entries = search rules in
    numbers-ordered c.args.terms.originator (policy_value c.args.terms.policy) c.args.self.now c.sort_unstable.new.self.items c.requires c.keys.ensures.unique
    (subst (λ ks. IsPermutation ks c.sort_unstable.new.self.items) same c.sort_unstable.ensures.permutation) c.sort_unstable.ensures.sorted
