use Rattle.ltp_audit.specs.Pages.{is_marked}
use Rattle.ltp_audit.proofs.KeyLemmas.{mark_cmp-is, has-added}
use Rattle.ltp_audit.proofs.marks.Marks.add.Goals as goal

pub returns : goal.returns
unfolding is_marked
returns c = λ o n serial. has-added _ _ _ _ (c.in_ok-insert.ensures.updates.0 ((o, n), serial)) (mark_cmp-is c.args.name.originator c.args.name.number c.args.serial o n serial)
