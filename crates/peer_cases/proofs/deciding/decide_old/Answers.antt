use Rattle.peer_cases.proofs.SendLemmas.{decided-old}
use Rattle.peer_cases.proofs.deciding.decide_old.Goals as goal

pub decided6-requires-clause-legal : goal.decided6-requires-clause-legal
decided6-requires-clause-legal c = c.relabel6-bundle.ensures.legal c.in-Ok.ensures.found.1.legal

pub returns-in-Ok-clause-exact : goal.returns-in-Ok-clause-exact
returns-in-Ok-clause-exact c =
    decided-old c.args.settings c.args.octets.now c.in-Ok.bundle c.in-Ok.field-0-1 c.args.now c.args.cut c.args.room c.decided6.result
    c.in-Ok.ensures.exact (rw c.relabel6-bundle.ensures.exact at c.decided6.ensures.exact)
