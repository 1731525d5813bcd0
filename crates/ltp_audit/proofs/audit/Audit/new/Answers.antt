use Rattle.std.proofs.Common.{ℕ, refl, sym, subst, None}
use Rattle.ltp_audit.specs.Recorded.{said_in}
use Rattle.ltp_audit.specs.Held.{HeldIn}
use Rattle.ltp_audit.proofs.audit.Audit.new.Goals as goal

pub returns : goal.returns
unfolding said_in
returns c = record {
  judges = refl;
  with_peer = refl;
  each = λ o n. record {
    red = record {
      octets = c.new.ensures.octets o n;
      held = subst (λ p. HeldIn p (λ (place : ℕ). None)) (sym (c.new.ensures.held o n)) (λ place. refl);
      alike = tt;
    };
    checkpoints = c.new-2.ensures o n;
    reports = c.new-3.ensures o n;
    sender_cancels = c.new-4.ensures o n;
    receiver_cancels = c.new-5.ensures o n;
  };
}
