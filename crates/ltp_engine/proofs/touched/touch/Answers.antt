use Rattle.std.proofs.Common.{arith, sym, ◌∙◌}
use Rattle.ltp_engine.proofs.OrderLemmas.{touched-at}
use Rattle.ltp_engine.proofs.touched.touch.Goals as goal

pub returns-in-Some : goal.returns-in-Some
returns-in-Some c = c.move_index.ensures.entries ∙ touched-at c.args.n c.in-Some.at _ c.args.receivers.now.entries (sym c.in-Some.ensures.index) (omega (arith, c.len-last.ensures.len, c.in-Some.ensures.within))
