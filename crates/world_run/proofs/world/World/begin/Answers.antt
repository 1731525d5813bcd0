use Rattle.std.proofs.Common.{arith}
use Rattle.std.specs.String.{string_bytes}
use Rattle.world_run.specs.World.{start_in}
use Rattle.world_run.specs.Shows.{start_of}
use Rattle.world_run.proofs.StartLemmas.{starts_timed}
use Rattle.world_run.proofs.StepLemmas.{began_turn}
use Rattle.world_run.proofs.world.World.begin.Goals as goal

pub returns-in-Ok-2-clause-turn : goal.returns-in-Ok-2-clause-turn
returns-in-Ok-2-clause-turn c =
    began_turn c.new.result c.in-Ok.start c.new.ensures.whole c.new.ensures.setup c.new.ensures.shows
    (starts_timed c.args.line.now (start_of c.in-Ok.start) c.in-Ok.ensures.0 c.paths_are_timed.ensures)
    c.args.number (start_in c.args.line.now)
    (string_bytes c.args.text.now) c.in-Ok.ensures.0 (omega (arith, c.if-read_start-ge-NO_MOMENT.false))
