use Rattle.peer_records.proofs.StartLemmas.{recovers-what-is-legal}
use Rattle.peer_records.proofs.laws.recovers_what_is_legal.Goals as goal

pub returns : goal.returns
returns c = recovers-what-is-legal
