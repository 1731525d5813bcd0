use Rattle.std.proofs.Common.{ℕ, Ok, refl, sym, ◌∙◌}
use Rattle.edge_traits.proofs.FaultsLemmas.{went}
use Rattle.gate_edges.proofs.mem_outside.MemOutsideOutside.write.Goals as goal

pub returns-clause-writes : goal.returns-clause-writes
returns-clause-writes c =
    went {T = ℕ} {E = ℕ} (Ok 0) _ _ refl
    (sym c.if-fails.false ∙ c.fails.ensures.answer, c.fails.ensures.later)
