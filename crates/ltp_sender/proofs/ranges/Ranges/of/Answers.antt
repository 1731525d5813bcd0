use Rattle.std.proofs.Common.{List, sym, subst, ◌∙◌}
use Rattle.spans.specs.declared.range.Run.{Run}
use Rattle.spans.specs.Runs.{AreApart}
use Rattle.spans.proofs.PlaceLaws.{runs_of-apart}
use Rattle.ltp_sender.proofs.RangeLemmas.{from_here-next}
use Rattle.ltp_sender.proofs.ranges.Ranges.of.Goals as goal

pub invariant_of-result : goal.invariant_of-result
invariant_of-result c =
    let next = from_here-next c.runs-later.result c.next-here.result c.next-here.new.self c.next-here.ensures.steps in
    subst (λ (xs : List Run). AreApart 0 xs) (sym (next ∙ c.runs-later.ensures)) (runs_of-apart c.args.claimed.now)
