use Rattle.peer_cases.proofs.SendLemmas.{decided-new}
use Rattle.peer_cases.proofs.deciding.decide_new.Goals as goal

pub decided7-requires-clause-legal : goal.decided7-requires-clause-legal
decided7-requires-clause-legal c = c.relabel7-bundle.ensures.legal c.in-Ok.ensures.legal

pub returns-in-Ok-clause-exact : goal.returns-in-Ok-clause-exact
returns-in-Ok-clause-exact c =
    decided-new c.args.settings c.args.octets.now c.in-Ok.bundle c.in-Ok.field-0-1 c.args.now c.args.cut c.args.room c.decided7.result
    c.in-Ok.ensures.exact (rw c.relabel7-bundle.ensures.exact at c.decided7.ensures.exact)
