-- The pieces that a cutter has left.

use Rattle.std.proofs.Common.{◌≡◌, ℕ, zero, suc, ◌+◌, ◌-◌, ◌<◌, List, [], ◌∷◌, length, Some, None, refl, ap, arith}
use Rattle.bundle_meaning.specs.declared.full.Full.{Full}
use Rattle.fragments.specs.Cutting.{piece, pieces_from, Gives}

pub length-pieces : (full : Full) (size i n : ℕ) → length (pieces_from full size i n) ≡ n
unfolding pieces_from
length-pieces full size i zero = refl
length-pieces full size i (suc n) = ap suc (length-pieces full size (i + 1) n)

pub gives-none : (full : Full) (size i n : ℕ) → n ≡ 0 → Gives (pieces_from full size i n) (pieces_from full size i n) None
unfolding pieces_from
gives-none full size i zero none = (refl, refl)
gives-none full size i (suc n) none = absurd (omega (arith, none))

pub gives-next : (full : Full) (size i n : ℕ) → 0 < n
    → Gives (pieces_from full size i n) (pieces_from full size (i + 1) (n - 1)) (Some (piece full size i))
unfolding pieces_from
gives-next full size i zero some = absurd (omega (arith, some))
gives-next full size i (suc n) some =
    let less : suc n - 1 ≡ n = omega arith in
    rw less refl
