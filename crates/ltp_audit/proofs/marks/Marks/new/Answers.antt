use Rattle.std.proofs.Common.{refl}
use Rattle.ltp_audit.specs.Pages.{is_marked}
use Rattle.ltp_audit.proofs.marks.Marks.new.Goals as goal

pub returns : goal.returns
unfolding is_marked
returns c = λ o n serial. rw c.new.ensures.empty refl
