use Rattle.peer_half.specs.Standing.{Standing}
use Rattle.peer_half.specs.Parts.{resumes_at}
use Rattle.peer_live.specs.Shows.{IsWhole, ShowsWork}
use Rattle.peer_live.proofs.ResumeLemmas.{Resuming}
use Rattle.peer_live.proofs.work.Work.resume_at.Given as goal

abbrev pub invariant-resuming : goal.invariant-resuming
invariant-resuming l = record {
  whole : IsWhole l.self;
  goes : (s : Standing) → ShowsWork l.initial.self s → Resuming l.self l.left l.face (resumes_at l.face s);
}

abbrev pub decreases-resuming : goal.decreases-resuming
decreases-resuming l = l.left
