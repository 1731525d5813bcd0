-- The claims at the front of a text, one after the other.

use Rattle.std.proofs.Common.{◌≡◌, ℕ, zero, suc, ◌-◌, List, [], ◌∷◌, Some, None, refl, arith}
use Rattle.ltp_segment.specs.declared.segment.Claim.{Claim}
use Rattle.ltp_segment.specs.Claims.{front_claim, claims_in}

-- there are none
pub claims_in-none : (count : ℕ) (text : List ℕ) → count ≡ 0 → claims_in count text ≡ []
unfolding claims_in
claims_in-none zero text none = refl
claims_in-none (suc count) text none = absurd (omega arith)

-- none is there any more
pub claims_in-end : (count : ℕ) (text : List ℕ) → front_claim text ≡ None → claims_in count text ≡ []
unfolding claims_in
claims_in-end zero text end = refl
claims_in-end (suc count) text end = rw end refl

-- one, and those after it
pub claims_in-next : (count : ℕ) (text : List ℕ) (claim : Claim) (rest : List ℕ) → (count ≡ 0 → ⊥)
    → front_claim text ≡ Some (claim, rest) → claims_in count text ≡ claim ∷ claims_in (count - 1) rest
unfolding claims_in
claims_in-next zero text claim rest some is = absurd (some refl)
claims_in-next (suc count) text claim rest some is =
    let less : suc count - 1 ≡ count = omega arith in rw (is, less) refl
