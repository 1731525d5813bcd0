-- The last of some numbers.
use Rattle.std.proofs.Common.{◌≡◌, ℕ, List, [], ◌∷◌, ◌++◌, refl}
use Rattle.waybill.specs.Table.{last_of}

pub last_of-push : (first : ℕ) (ns : List ℕ) (n : ℕ) → last_of first (ns ++ n ∷ []) ≡ n
last_of-push first [] n = refl
last_of-push first (m ∷ ns) n = last_of-push m ns n
