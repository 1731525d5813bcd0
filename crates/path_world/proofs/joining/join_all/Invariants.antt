use Rattle.std.proofs.Common.{[], take}
use Rattle.path_world.specs.Ties.{JoinsAll, bodies_of}
use Rattle.path_world.proofs.joining.join_all.Given as goal

abbrev pub invariant-joining : goal.invariant-joining
invariant-joining l = JoinsAll l.face l.initial.joiner l.joiner (bodies_of (take l.up-index l.ups)) [] l.answers.items
