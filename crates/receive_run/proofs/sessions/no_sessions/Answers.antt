use Rattle.std.proofs.Common.{refl}
use Rattle.receive_run.specs.KeptSessions.{session_in}
use Rattle.receive_run.proofs.sessions.no_sessions.Goals as goal

pub returns : goal.returns
unfolding session_in
returns c = record {
  each = λ name. rw c.new.ensures.empty refl;
  count = refl;
}
