use Rattle.std.proofs.Common.{refl}
use Rattle.ltp_audit.specs.Pages.{is_named}
use Rattle.ltp_audit.proofs.marks.Names.new.Goals as goal

pub returns : goal.returns
unfolding is_named
returns c = λ o n. rw c.new.ensures.empty refl
