use Rattle.std.proofs.Common.{arith, rules}
use Rattle.std.proofs.lemmas.Iterator.Adapters.{YieldsList-from_vec}
use Rattle.std.proofs.lemmas.Iterator.Consumers.{YieldsList-turn}
use Rattle.node_run.proofs.TextLineLemmas.{line-some, wanted}
use Rattle.world_run.specs.WrittenLines.{up_words, up_line}
use Rattle.world_run.proofs.written_lines.write_ups.Goals as goal

pub returns-in_err-write_up-clause-memory : goal.returns-in_err-write_up-clause-memory
returns-in_err-write_up-clause-memory c =
    let turn = YieldsList-turn (YieldsList-from_vec c.args.ups (search (rules)) (search (rules))) c.each.yielded c.each.up-iterator c.each.yielded_by
    c.next.result c.next.new.self c.in-Some.up c.in-Some.is c.next.ensures.steps in
    wanted up_line (λ up. line-some (up_words up)) c.args.ups (omega (arith, turn.0)) c.from_residual.result
