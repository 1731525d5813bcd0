use Rattle.std.proofs.Common.{Some, refl, sym}
use Rattle.std.proofs.lemmas.List.{append-nil}
use Rattle.edge_traits.specs.declared.status.Status.TheVariants as statuses
use Rattle.command_frame.specs.declared.turned.Turned.TheVariants as turned
use Rattle.command_frame.specs.PartLines.{TurnsPart}
use Rattle.world_run.specs.Telling.{OwesAs}
use Rattle.world_run.proofs.DrainLemmas.{drained_turn, late_turn}
use Rattle.world_run.proofs.world.drain.Goals as goal

pub returns-in-Ok-clause-turn : goal.returns-in-Ok-clause-turn
returns-in-Ok-clause-turn c = λ s w text stands.
    let does = c.in-Ok.ensures.does in
    drained_turn c.drains_are_one.ensures.over c.args.path.now c.drain.new.self s w stands does.setup c.in-Ok.done
    (does.run stands.start stands.events stands.run)
    (λ turn. TurnsPart (OwesAs c.owe.new.course (Some c.drain.new.self)) turn text text c.owe.result)
    (c.owe.ensures.owed text)

pub returns-in-Err-TooLate-clause-turn : goal.returns-in-Err-TooLate-clause-turn
returns-in-Err-TooLate-clause-turn c = λ s w text stands.
    let late = rw c.in-Err-TooLate.field-0-is at c.in-Err-TooLate.ensures.does in
    late_turn c.drains_are_one.ensures.over c.args.path.now c.drain.new.self s w stands late.setup
    (late.run stands.start stands.events stands.run)
    (λ turn. TurnsPart (OwesAs c.args.course.now (Some c.drain.new.self)) turn text text (turned.Ends statuses.Limit))
    (sym (append-nil text), refl)
