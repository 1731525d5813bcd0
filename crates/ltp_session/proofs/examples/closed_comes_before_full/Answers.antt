use Rattle.std.proofs.Common.{refl}
use Rattle.ltp_session.proofs.examples.closed_comes_before_full.Goals as goal

pub returns : goal.returns
returns c = record { closed = refl; full = refl }
