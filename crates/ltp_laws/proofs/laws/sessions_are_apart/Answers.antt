use Rattle.ltp_laws.proofs.ApartLemmas.{sessions_are_apart}
use Rattle.ltp_laws.proofs.laws.sessions_are_apart.Goals as goal

pub returns : goal.returns
returns c = sessions_are_apart
