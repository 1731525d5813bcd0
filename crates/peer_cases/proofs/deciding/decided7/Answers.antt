use Rattle.std.proofs.Common.{false}
use Rattle.gate_cases.specs.declared.face.Face.TheVariants.{New}
use Rattle.gate_cases.specs.Blocks.{arrival7}
use Rattle.peer_cases.specs.Arrivals.{came_as}
use Rattle.peer_cases.proofs.SendLemmas.{decided-came}
use Rattle.peer_cases.proofs.deciding.decided7.Goals as goal

pub returns-clause-exact : goal.returns-clause-exact
returns-clause-exact c =
    decided-came c.args.settings New (came_as false (arrival7 c.args.bundle.now)) c.args.now c.args.cut c.args.room
    c.in_ok-sent.sent c.in_ok-asked7.field-0 c.in_ok-sent.ensures c.in_ok-asked7.ensures.exact
