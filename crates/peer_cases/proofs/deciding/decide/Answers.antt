use Rattle.gate_cases.specs.declared.face.Face.TheVariants.{Old, New}
use Rattle.peer_cases.proofs.PromiseLemmas.{given-sendable}
use Rattle.peer_cases.proofs.deciding.decide.Goals as goal

pub returns-in-Old-clause-sendable : goal.returns-in-Old-clause-sendable
returns-in-Old-clause-sendable c =
    given-sendable c.args.settings Old c.args.octets.now c.args.now c.args.cut c.args.room c.decide_old.result c.decide_old.ensures.exact

pub returns-in-New-clause-sendable : goal.returns-in-New-clause-sendable
returns-in-New-clause-sendable c =
    given-sendable c.args.settings New c.args.octets.now c.args.now c.args.cut c.args.room c.decide_new.result c.decide_new.ensures.exact
