use Rattle.ltp_audit.proofs.PageLemmas.{cell-empty}
use Rattle.ltp_audit.proofs.page.Page.empty.Goals as goal

pub returns : goal.returns
returns c = λ k. cell-empty 64 k
