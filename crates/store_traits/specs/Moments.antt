-- How the store whose writes are torn tells its moments.
use Rattle.std.specs.Prelude.{ℕ, ◌≤◌, List, length}
use Rattle.std.proofs.Common.{sym, subst}
use Rattle.std.proofs.Math.Nat.{le_refl}
use Rattle.std.proofs.lemmas.List.{take_all}
use Rattle.store_traits.specs.declared.torn.Change.{Change}
use Rattle.store_traits.specs.Torn.{MayBeLeft, WasLeft}

-- this moment is one of those since an earlier one
pub counts_now : (first : List ℕ) (log : List Change) (t : ℕ) (c : List ℕ) → t ≤ length log
    → MayBeLeft first log c → WasLeft first log t c
counts_now first log t c le now = record {
  moment = length log;
  later = le;
  within = le_refl (length log);
  left = subst (λ (l : List Change). MayBeLeft first l c) (sym (take_all (length log) log (le_refl (length log)))) now;
}

-- since this moment there is no other
pub only_now : (first : List ℕ) (log : List Change) (c : List ℕ) → WasLeft first log (length log) c
    → MayBeLeft first log c
only_now first log c was =
    subst (λ (l : List Change). MayBeLeft first l c) (take_all was.moment log was.later) was.left
