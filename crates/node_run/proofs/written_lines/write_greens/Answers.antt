use Rattle.std.proofs.Common.{arith, rules}
use Rattle.std.proofs.lemmas.Iterator.Adapters.{YieldsList-from_vec}
use Rattle.std.proofs.lemmas.Iterator.Consumers.{YieldsList-turn}
use Rattle.node_run.specs.WrittenLines.{green_line}
use Rattle.node_run.proofs.TextLineLemmas.{wanted}
use Rattle.node_run.proofs.WantsLemmas.{green-some}
use Rattle.node_run.proofs.written_lines.write_greens.Goals as goal

pub returns-in_err-write_green-clause-memory : goal.returns-in_err-write_green-clause-memory
returns-in_err-write_green-clause-memory c =
    let turn = YieldsList-turn (YieldsList-from_vec c.args.greens (search (rules)) (search (rules))) c.each.yielded c.each.green-iterator c.each.yielded_by
    c.next.result c.next.new.self c.in-Some.green c.in-Some.is c.next.ensures.steps in
    wanted green_line green-some c.args.greens (omega (arith, turn.0)) c.from_residual.result
