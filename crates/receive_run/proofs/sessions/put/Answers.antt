use Rattle.std.proofs.Common.{refl}
use Rattle.receive_run.proofs.SessionsLemmas.{puts_of}
use Rattle.receive_run.proofs.sessions.put.Goals as goal

pub returns : goal.returns
returns c = puts_of _ _ _ c.args.standing c.in_ok-insert.ensures.updates.0 refl
