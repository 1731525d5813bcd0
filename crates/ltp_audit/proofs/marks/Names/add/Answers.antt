use Rattle.ltp_audit.specs.Pages.{is_named}
use Rattle.ltp_audit.proofs.KeyLemmas.{name_cmp-is, has-added}
use Rattle.ltp_audit.proofs.marks.Names.add.Goals as goal

pub returns : goal.returns
unfolding is_named
returns c = λ o n. has-added _ _ _ _ (c.in_ok-insert.ensures.updates.0 (o, n)) (name_cmp-is c.args.name.originator c.args.name.number o n)
