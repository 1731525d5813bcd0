use Rattle.std.proofs.Common.{refl}
use Rattle.ltp_session.specs.Cells.{filled}
use Rattle.ltp_session.proofs.examples.the_first_octet_stays.Goals as goal

pub returns : goal.returns
unfolding filled
returns c = refl
