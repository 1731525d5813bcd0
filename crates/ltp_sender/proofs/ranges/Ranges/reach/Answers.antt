use Rattle.std.proofs.Common.{List, sym, ap, ◌∙◌}
use Rattle.spans.specs.declared.range.Run.{Run}
use Rattle.ltp_sender.specs.Ranges.{reaching}
use Rattle.ltp_sender.proofs.RangeLemmas.{reaching-advance, reaching-done}
use Rattle.ltp_sender.proofs.ranges.Ranges.reach.Goals as goal

pub passing-preserved : goal.passing-preserved
passing-preserved c =
    ap (λ (runs : List Run). reaching c.args.place runs) c.advance.ensures
    ∙ reaching-advance c.args.place c.passing.self (sym c.passing-test.ensures)
    ∙ c.passing.invariant

pub returns : goal.returns
returns c = sym (reaching-done c.args.place c.passing.self (sym c.passing-test.ensures)) ∙ c.passing.invariant
