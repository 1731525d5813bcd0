use Rattle.std.proofs.Common.{arith, rules}
use Rattle.std.proofs.lemmas.Iterator.Adapters.{YieldsList-from_vec}
use Rattle.std.proofs.lemmas.Iterator.Consumers.{YieldsList-turn}
use Rattle.node_run.specs.WrittenLines.{out_line}
use Rattle.node_run.proofs.TextLineLemmas.{wanted}
use Rattle.node_run.proofs.WantsLemmas.{out-some}
use Rattle.node_run.proofs.written_lines.write_outs.Goals as goal

pub returns-in_err-write_out-clause-memory : goal.returns-in_err-write_out-clause-memory
returns-in_err-write_out-clause-memory c =
    let turn = YieldsList-turn (YieldsList-from_vec c.args.out (search (rules)) (search (rules))) c.each.yielded c.each.datagram-iterator c.each.yielded_by
    c.next.result c.next.new.self c.in-Some.datagram c.in-Some.is c.next.ensures.steps in
    wanted out_line out-some c.args.out (omega (arith, turn.0)) c.from_residual.result
