use Rattle.std.proofs.Common.{arith, rules}
use Rattle.std.proofs.lemmas.Iterator.Adapters.{YieldsList-from_vec}
use Rattle.std.proofs.lemmas.Iterator.Consumers.{YieldsList-turn}
use Rattle.node_run.proofs.TextLineLemmas.{line-some, wanted}
use Rattle.world_run.specs.WrittenLines.{note_words, note_line}
use Rattle.world_run.proofs.written_lines.write_notes.Goals as goal

pub returns-in_err-write_note-clause-memory : goal.returns-in_err-write_note-clause-memory
returns-in_err-write_note-clause-memory c =
    let turn = YieldsList-turn (YieldsList-from_vec c.args.notes (search (rules)) (search (rules))) c.each.yielded c.each.noted-iterator c.each.yielded_by
    c.next.result c.next.new.self c.in-Some.noted c.in-Some.is c.next.ensures.steps in
    wanted note_line (λ n. line-some (note_words n)) c.args.notes (omega (arith, turn.0)) c.from_residual.result
