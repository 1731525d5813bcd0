use Rattle.std.proofs.Common.{◌-◌, arith}
use Rattle.ltp_segment.proofs.PolicyLemmas.{cap_reached}
use Rattle.ltp_segment.proofs.policy.Policy.wait.Goals as goal

pub returns-then-doublings-ge-TOO_MANY : goal.returns-then-doublings-ge-TOO_MANY
returns-then-doublings-ge-TOO_MANY c =
    cap_reached c.args.self.now.timeout c.args.self.now.cap (c.args.sending - 1)
    c.args.self.now.timeout_least c.args.self.now.cap_most (omega arith)
