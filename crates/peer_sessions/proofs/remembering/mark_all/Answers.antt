use Rattle.std.proofs.Common.{◌≡◌, ◌≤◌, ◌<◌, ◌+◌, ◌-◌, ℕ, get_or, take, length, arith, sym, subst}
use Rattle.std.proofs.lemmas.Grind.{get_or_default_zero}
use Rattle.peer_sessions.specs.Keys.{with_marked}
use Rattle.peer_sessions.proofs.MemoryLemmas.{LAST, marking-step, marking-end}
use Rattle.peer_sessions.proofs.remembering.mark_all.Goals as goal

pub marking-preserved : goal.marking-preserved
marking-preserved c =
    let below : c.marking.left - 1 < length c.args.marks.now = omega (arith, c.marking-test.true, c.marking.invariant.3) in
    let fits = c.type_inv.marks (c.marking.left - 1) in
    let most : get_or c.args.marks.now (c.marking.left - 1) 0 ≤ LAST = omega (arith, fits) in
    let same : c.marking.left ≡ (c.marking.left - 1) + 1 = omega (arith, c.marking-test.true) in
    let step = marking-step c.args.marks.now (c.marking.left - 1) (get_or c.args.marks.now (c.marking.left - 1) 0) c.marking.memory c.mark.new.self (with_marked c.args.marks.now c.args.memory.now) below
    (sym (get_or_default_zero c.args.marks.now (c.marking.left - 1) (get_or c.args.marks.now (c.marking.left - 1) 0) below)) most c.in_ok-mark.ensures.ok c.marking.invariant.1
    (omega (arith, c.marking.invariant.2, c.marking-test.true))
    (subst (λ (n : ℕ). with_marked (take n c.args.marks.now) c.marking.memory ≡ with_marked c.args.marks.now c.args.memory.now) same c.marking.invariant.0) in
    (step.goes_on, step.set, step.places, omega (arith, below))

pub returns : goal.returns
returns c = let zero : c.marking.left ≡ 0 = omega (arith, c.marking-test.false) in marking-end c.args.marks.now c.marking.memory _ (rw zero at c.marking.invariant.0)
