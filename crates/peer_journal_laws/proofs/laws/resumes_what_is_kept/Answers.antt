use Rattle.peer_journal_laws.proofs.ResumeLemmas.{resumes-what-is-kept}
use Rattle.peer_journal_laws.proofs.laws.resumes_what_is_kept.Goals as goal

pub returns : goal.returns
returns c = resumes-what-is-kept
