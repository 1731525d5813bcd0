use Rattle.ltp_audit.specs.Pages.{is_marked}
use Rattle.ltp_audit.proofs.marks.Marks.has.Goals as goal

pub returns : goal.returns
unfolding is_marked
returns c = c.contains.ensures
