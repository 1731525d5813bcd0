use Rattle.std.proofs.Common.{arith, rules}
use Rattle.std.proofs.lemmas.Iterator.Adapters.{YieldsList-from_vec}
use Rattle.std.proofs.lemmas.Iterator.Consumers.{YieldsList-turn}
use Rattle.node_run.proofs.TextLineLemmas.{line-some, wanted}
use Rattle.world_run.specs.WrittenLines.{join_words, join_line}
use Rattle.world_run.proofs.written_lines.write_joins.Goals as goal

pub returns-in_err-write_join-clause-memory : goal.returns-in_err-write_join-clause-memory
returns-in_err-write_join-clause-memory c =
    let turn = YieldsList-turn (YieldsList-from_vec c.args.joins (search (rules)) (search (rules))) c.each.yielded c.each.join-iterator c.each.yielded_by
    c.next.result c.next.new.self c.in-Some.join c.in-Some.is c.next.ensures.steps in
    wanted join_line (λ j. line-some (join_words j)) c.args.joins (omega (arith, turn.0)) c.from_residual.result
