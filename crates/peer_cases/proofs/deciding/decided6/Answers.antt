use Rattle.gate_cases.specs.declared.face.Face.TheVariants.{Old}
use Rattle.gate_cases.specs.Blocks.{arrival6}
use Rattle.peer_cases.specs.Arrivals.{came_as}
use Rattle.peer_cases.proofs.SendLemmas.{decided-came}
use Rattle.peer_cases.proofs.deciding.decided6.Goals as goal

pub returns-clause-exact : goal.returns-clause-exact
returns-clause-exact c =
    decided-came c.args.settings Old (came_as c.args.settings.bare (arrival6 c.args.bundle.now)) c.args.now c.args.cut c.args.room
    c.in_ok-sent.sent c.in_ok-asked6.field-0 c.in_ok-sent.ensures c.in_ok-asked6.ensures.exact
