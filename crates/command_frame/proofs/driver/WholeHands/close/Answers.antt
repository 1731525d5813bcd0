use Rattle.command_frame.proofs.HandingLemmas.{closed-memory}
use Rattle.command_frame.proofs.driver.WholeHands.close.Goals as goal

pub returns-in-Err-clause-ended : goal.returns-in-Err-clause-ended
returns-in-Err-clause-ended g c = λ settles stands. closed-memory _ settles _ c.in-Err.ensures.memory
