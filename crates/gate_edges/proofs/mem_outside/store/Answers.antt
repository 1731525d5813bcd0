use Rattle.std.proofs.Common.{ℕ, Ok, refl, sym, ◌∙◌}
use Rattle.edge_traits.proofs.FaultsLemmas.{went}
use Rattle.gate_edges.proofs.mem_outside.store.Goals as goal

pub returns-clause-stores : goal.returns-clause-stores
returns-clause-stores c =
    went {T = ℕ} {E = ℕ} (Ok 0) _ _ refl
    (sym c.if-fails.false ∙ c.fails.ensures.answer, c.fails.ensures.later)
