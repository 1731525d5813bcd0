use Rattle.std.proofs.Math.Logic.{∥∥₁_map}
use Rattle.gate_journaled.proofs.SaysLemmas.{unless-apart}
use Rattle.gate_journaled.proofs.journaled.JournaledOutside.install.Goals as goal

pub invariant_of-self : goal.invariant_of-self
invariant_of-self g c = record {
  says = ∥∥₁_map c.args.self.now.says (λ says tells whole. unless-apart c.args.self.now.apart c.install-answer.result c.is_apart-self.result c.is_apart-self.ensures whole
      (λ sound. c.install-answer.ensures.says tells));
}

pub returns-clause-any_moment : goal.returns-clause-any_moment
returns-clause-any_moment g c = ∥∥₁_map c.args.self.now.says (λ says tells sound. c.install-answer.ensures.any_moment tells (says tells sound))
