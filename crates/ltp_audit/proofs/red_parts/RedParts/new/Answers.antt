use Rattle.std.proofs.Common.{refl}
use Rattle.ltp_audit.specs.Pages.{octet_at}
use Rattle.ltp_audit.proofs.red_parts.RedParts.new.Goals as goal

pub returns-clause-octets : goal.returns-clause-octets
unfolding octet_at
returns-clause-octets c = λ o n place. rw c.new.ensures.empty refl
