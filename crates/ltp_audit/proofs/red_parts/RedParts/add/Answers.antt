use Rattle.std.proofs.Common.{ap, ◌∙◌, ◌/◌, ◌%◌}
use Rattle.std.specs.BTreeMap.{get}
use Rattle.ltp_audit.specs.declared.page.TheConstants.{PAGE}
use Rattle.ltp_audit.specs.Pages.{octet_at, mark_cmp, cell_on}
use Rattle.ltp_audit.proofs.red_parts.RedParts.add.Goals as goal

pub returns-clause-octets : goal.returns-clause-octets
unfolding octet_at
returns-clause-octets c = λ o n place.
    ap (λ pages. cell_on (get mark_cmp pages ((o, n), place / PAGE)) (place % PAGE)) c.cover.ensures.pages
    ∙ c.in_ok-lay.ensures.octets o n place
