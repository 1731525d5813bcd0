use Rattle.std.proofs.Common.{rules, ◌+◌, ◌≤◌, ◌==◌, ◌||◌, ℕ, sym, ap, subst, ◌∙◌}
use Rattle.session_memory.specs.declared.numbers.TheConstants.{LAST}
use Rattle.session_memory.specs.Numbers.{runs_in}
use Rattle.session_memory.specs.Counting.{runs_after}
use Rattle.session_memory.proofs.NumberLemmas.{added-runs, code-few}
use Rattle.session_memory.proofs.numbers.Numbers.add.Goals as goal

pub invariant_of-self-2 : goal.invariant_of-self-2
invariant_of-self-2 c = (
  c.cover.ensures.limit,
  added-runs (record { places = c.self.inside.places; last = c.self.inside.last }) c.args.n c.cover.new.places c.ends_with-last.result c.runs_after-runs.result
      c.self.invariant.0 (search rules) c.in_ok-cover.ensures.ok
      (c.ends_with-last.ensures ∙ ap (λ v. v.last || (c.args.n == LAST)) (sym c.self.view_is))
      (c.runs_after-runs.ensures ∙ ap (λ v. runs_after v c.args.n) (sym c.self.view_is)),
)

pub returns-clause-few : goal.returns-clause-few
returns-clause-few c =
    let is =
    added-runs (record { places = c.self.inside.places; last = c.self.inside.last }) c.args.n c.cover.new.places c.ends_with-last.result c.runs_after-runs.result
    c.self.invariant.0 (search rules) c.in_ok-cover.ensures.ok
    (c.ends_with-last.ensures ∙ ap (λ v. v.last || (c.args.n == LAST)) (sym c.self.view_is))
    (c.runs_after-runs.ensures ∙ ap (λ v. runs_after v c.args.n) (sym c.self.view_is)) in
    subst (λ (r : ℕ). r ≤ runs_in c.args.self.now + 1) (sym c.runs_after-runs.ensures ∙ is) (code-few c.args.self.now c.args.n)
