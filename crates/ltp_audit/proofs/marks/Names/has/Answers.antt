use Rattle.ltp_audit.specs.Pages.{is_named}
use Rattle.ltp_audit.proofs.marks.Names.has.Goals as goal

pub returns : goal.returns
unfolding is_named
returns c = c.contains.ensures
