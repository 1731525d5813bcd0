use Rattle.std.proofs.Common.{List, ◌<◌, length, sym, subst, ◌∙◌, ap, drop}
use Rattle.spans.specs.declared.range.Run.{Run}
use Rattle.spans.specs.Runs.{AreApart}
use Rattle.ltp_sender.specs.Ranges.{from_here}
use Rattle.ltp_sender.proofs.RangeLemmas.{from_here-next, from_here-drop, AreApart-drop}
use Rattle.ltp_sender.proofs.ranges.Ranges.advance.Goals as goal

pub returns : goal.returns
returns c =
    let next = from_here-next c.self.inside.later c.next-self-inside.result c.next-self-inside.new.self c.next-self-inside.ensures.steps in
    let some = subst (λ (xs : List Run). 0 < length xs) (sym c.self.view_is) c.requires in
    next ∙ from_here-drop c.self.inside.here c.self.inside.later some ∙ ap (λ (xs : List Run). drop 1 xs) c.self.view_is

pub invariant_of-self : goal.invariant_of-self
invariant_of-self c =
    let next = from_here-next c.self.inside.later c.next-self-inside.result c.next-self-inside.new.self c.next-self-inside.ensures.steps in
    let some = subst (λ (xs : List Run). 0 < length xs) (sym c.self.view_is) c.requires in
    let is = next ∙ from_here-drop c.self.inside.here c.self.inside.later some in
    subst (λ (xs : List Run). AreApart 0 xs) (sym is) (AreApart-drop (from_here c.self.inside.here c.self.inside.later) c.self.invariant)
