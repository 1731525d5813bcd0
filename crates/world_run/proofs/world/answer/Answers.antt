use Rattle.std.proofs.Common.{Some}
use Rattle.std.specs.String.{string_bytes}
use Rattle.replay_script.specs.declared.fault.LineFault.TheVariants as faults
use Rattle.world_run.specs.WrittenLines.{refusal_line}
use Rattle.world_run.specs.Telling.{OwesAs}
use Rattle.world_run.proofs.TellingLemmas.{line-in, reads-ok, once-refused}
use Rattle.world_run.proofs.world.answer.Goals as goal

pub returns-in-Ok-Drain-clause-turn : goal.returns-in-Ok-Drain-clause-turn
returns-in-Ok-Drain-clause-turn c = λ s w stands.
    let said = line-in c.args.line.now _ (reads-ok _ _ (rw c.in-Ok-Drain.field-0-is at c.in-Ok-Drain.ensures)) in
    rw said (c.drain.ensures.turn s w (string_bytes c.args.text.now) stands)

pub returns-in-Ok-Path-clause-turn : goal.returns-in-Ok-Path-clause-turn
returns-in-Ok-Path-clause-turn c = λ s w stands.
    let said = line-in c.args.line.now _ (reads-ok _ _ (rw c.in-Ok-Path.field-0-is at c.in-Ok-Path.ensures)) in
    rw (said, c.at_once-in-Ok-Path.ensures)
    (once-refused (OwesAs c.args.course.now (Some c.args.path.now)) (refusal_line c.args.number faults.Word) _ _ c.refuse.result c.refuse.ensures)
