use Rattle.std.proofs.Common.{arith, rules}
use Rattle.std.proofs.lemmas.Iterator.Adapters.{YieldsList-from_vec}
use Rattle.std.proofs.lemmas.Iterator.Consumers.{YieldsList-turn}
use Rattle.node_run.proofs.TextLineLemmas.{line-some, wanted}
use Rattle.world_run.specs.Shows.{sent_at_line}
use Rattle.world_run.specs.WrittenLines.{sent_words}
use Rattle.world_run.proofs.written_lines.write_all_sent.Goals as goal

pub returns-in_err-write_sent-clause-memory : goal.returns-in_err-write_sent-clause-memory
returns-in_err-write_sent-clause-memory c =
    let turn = YieldsList-turn (YieldsList-from_vec c.args.sent (search (rules)) (search (rules))) c.each.yielded c.each.datagram-iterator c.each.yielded_by
    c.next.result c.next.new.self c.in-Some.datagram c.in-Some.is c.next.ensures.steps in
    wanted sent_at_line (λ d. line-some (sent_words d.k d.from d.datagram)) c.args.sent (omega (arith, turn.0)) c.from_residual.result
