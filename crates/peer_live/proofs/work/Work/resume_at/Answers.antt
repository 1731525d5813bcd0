use Rattle.std.proofs.Common.{rules}
use Rattle.peer_live.proofs.ResumeLemmas.{resuming-start, resuming-more, resuming-last, resuming-end}
use Rattle.peer_live.proofs.work.Work.resume_at.Goals as goal

pub resuming-init : goal.resuming-init
resuming-init c = record {
  whole = c.requires;
  goes = λ s shows. resuming-start c.args.self.now c.pending-left.result c.args.face s c.pending-left.ensures shows;
}

pub returns-then-not-branch : goal.returns-then-not-branch
returns-then-not-branch c = record {
  whole = c.in_ok-resume_one.ensures.does.whole;
  goes_on = λ s shows.
      resuming-last _ _ c.resuming.left c.args.face _ _ c.resuming-test.true (c.resuming.invariant.goes s shows)
      c.in_ok-resume_one.ensures.went c.if-not-branch.true c.in_ok-resume_one.ensures.does;
}

pub resuming-preserved : goal.resuming-preserved
resuming-preserved c = record {
  whole = c.in_ok-resume_one.ensures.does.whole;
  goes = λ s shows.
      resuming-more _ _ c.resuming.left c.args.face _ _ c.resuming-test.true (c.resuming.invariant.goes s shows)
      c.in_ok-resume_one.ensures.went c.if-not-branch.false c.in_ok-resume_one.ensures.does;
}

pub returns : goal.returns
returns c = record {
  whole = c.resuming.invariant.whole;
  goes_on = λ s shows. resuming-end _ c.resuming.left c.args.face _ (search rules) (c.resuming.invariant.goes s shows);
}
