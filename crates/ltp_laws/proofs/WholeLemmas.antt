-- Claims of a whole red part, and the segments that have a place.

use Rattle.std.proofs.Common.{◌≡◌, ℕ, zero, suc, ◌+◌, ◌<◌, ◌≤◌, true}
use Rattle.std.proofs.Common.{List, [], ◌∷◌, length, Option, None, Some, is_some, ◌⊎◌}
use Rattle.std.proofs.Common.{inl, inr, refl, arith}
use Rattle.std.specs.List.{AllByRecursion}
use Rattle.std.proofs.lemmas.Bool.{eq-eqb}
use Rattle.ltp_segment.specs.declared.segment.Claim.{Claim}
use Rattle.ltp_session.specs.Cells.{cell}
use Rattle.ltp_session.specs.Sender.{segments_from}
use Rattle.ltp_laws.specs.Claims.{HasPlace, IsFilled}
use Rattle.ltp_laws.proofs.ClaimLemmas.{claims_from}
use Rattle.std.specs.Prelude.{drop}
use Rattle.std.proofs.Common.{⊎_elim}
use Rattle.std.proofs.lemmas.Bool.{cases_lt}
use Rattle.std.proofs.lemmas.List.{length-take, length-drop}

-- all cells are one claim
pub one-claim : (k octet : ℕ) (cells : List (Option ℕ))
    → AllByRecursion (λ c. is_some c ≡ true) cells
    → claims_from k (Some octet ∷ cells) ≡ record { offset = k; length = suc (length cells) } ∷ []
unfolding claims_from
one-claim k octet [] all = refl
one-claim k octet (None ∷ cells) all = absurd (let h = all.0 in cc)
one-claim k octet (Some next ∷ cells) all =
    let rest = one-claim (suc k) next cells all.1 in
    rw (rest, eq-eqb (suc k) (suc k) refl) refl

-- a part is among these, and has the place
abbrev pub HasPart : ℕ → List (ℕ × List ℕ) → Type 0
HasPart i [] = ⊥
HasPart i (part ∷ parts) = ((part.0 ≤ i) × (i < part.0 + length part.1)) ⊎ HasPart i parts

pub cut-has : (z n at : ℕ) (octets : List ℕ) (i : ℕ) → 1 ≤ z → length octets ≤ n → at ≤ i
    → i < at + length octets → HasPart i (segments_from z n at octets)
unfolding segments_from
cut-has z zero at octets i some enough from to = absurd (omega arith)
cut-has z (suc n) at [] i some enough from to = absurd (omega arith)
cut-has z (suc n) at (octet ∷ octets) i some enough from to =
    let size = length-take z (octet ∷ octets) in
    let left = length-drop z (octet ∷ octets) in
    ⊎_elim (λ low. inl (from, omega (arith, size, low, to)))
    (λ high. inr (cut-has z n (at + z) (drop z (octet ∷ octets)) i some (omega (arith, left)) high
    (omega (arith, left, to))))
    (cases_lt i (at + z))

pub place-filled : (cells : List (Option ℕ)) (cs : List Claim) (k : ℕ) → HasPlace 0 cs k
    → AllByRecursion (IsFilled cells) cs → is_some (cell cells k) ≡ true
place-filled cells [] k has all = absurd has
place-filled cells (c ∷ cs) k (inl within) all =
    all.0 k (omega (arith, within.0)) (omega (arith, within.1))
place-filled cells (c ∷ cs) k (inr has) all = place-filled cells cs k has all.1
