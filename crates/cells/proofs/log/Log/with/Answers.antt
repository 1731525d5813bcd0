use Rattle.std.proofs.Common.{◌∙◌, ap, refl, ℕ, List, []}
use Rattle.std.specs.Prelude.{Option}
use Rattle.cells.specs.Cells.{filled}
use Rattle.cells.proofs.LogLemmas.{laid-push, log-with}
use Rattle.cells.proofs.log.Log.with.Goals as goal

pub invariant_of-result : goal.invariant_of-result
invariant_of-result c =
    rw (c.in_ok-push.ensures.items, c.in_ok-extend_from_slice.ensures.items, c.max.ensures)
    (log-with c.self.inside.ranges.items c.self.inside.octets.items c.self.inside.reach _ c.args.body.now c.self.invariant refl)

pub returns : goal.returns
returns c =
    rw (c.in_ok-push.ensures.items, c.in_ok-extend_from_slice.ensures.items)
    (laid-push [] c.self.inside.ranges.items _ c.self.inside.octets.items c.args.body.now c.self.invariant.size refl
    ∙ ap (λ (cells : List (Option ℕ)). filled cells c.args.offset c.args.body.now) c.self.view_is)
