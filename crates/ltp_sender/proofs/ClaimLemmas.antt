-- Claims that are covered one after the other.

use Rattle.std.proofs.Common.{◌≡◌, ℕ, zero, suc, ◌+◌, ◌-◌, ◌<◌, ◌≤◌, Bool, false, ◌||◌, List, [], ◌∷◌, length, refl, sym, ap, ◌∙◌, subst, arith, get_or}
use Rattle.std.specs.List.{list_all}
use Rattle.std.proofs.lemmas.List.{ext_get_or, take_all}
use Rattle.ltp_segment.specs.declared.segment.Claim.{Claim}
use Rattle.ltp_segment.specs.Legal.{AreClaims}
use Rattle.spans.specs.Places.{is_in, with_covered, all_covered}
use Rattle.spans.proofs.Places.{is_covered-with_covered, length-with_covered}
use Rattle.ltp_session.specs.Claims.{with_range, with_claims}
use Rattle.ltp_session.specs.Sender.{is_all_claimed}

-- ---- one range

pub length-with_range : (k from to : ℕ) (places : List Bool) → length (with_range k from to places) ≡ length places
unfolding with_range
length-with_range k from to [] = refl
length-with_range k from to (b ∷ places) = ap (λ n. suc n) (length-with_range (k + 1) from to places)

pub get_or-with_range : (k from to i : ℕ) (places : List Bool) → i < length places
    → get_or (with_range k from to places) i false ≡ (get_or places i false || is_in from to (k + i))
unfolding with_range
get_or-with_range k from to i [] below = absurd (omega arith)
get_or-with_range k from to zero (b ∷ places) below = ap (λ n. b || is_in from to n) (omega arith)
get_or-with_range k from to (suc i) (b ∷ places) below =
    get_or-with_range (k + 1) from to i places (omega arith)
    ∙ ap (λ n. get_or places i false || is_in from to n) (omega arith)

first-range : (from to i : ℕ) (places : List Bool) → i < length places
    → get_or (with_range 0 from to places) i false ≡ (get_or places i false || is_in from to i)
first-range from to i places below = get_or-with_range 0 from to i places below ∙ ap (λ n. get_or places i false || is_in from to n) (omega arith)

-- it is what a covered range gives
pub with_covered-range : (from to : ℕ) (places : List Bool) → from ≤ to → to ≤ length places
    → with_covered from to places ≡ with_range 0 from to places
with_covered-range from to places le within =
    let longer = length-with_covered from to places le within in
    let same = length-with_range 0 from to places in
    ext_get_or false (with_covered from to places) (with_range 0 from to places) (longer ∙ sym same)
    (λ i below. is_covered-with_covered from to places i le within ∙ sym (first-range from to i places (omega (arith, longer))))

pub length-with_claims : (lower : ℕ) (claims : List Claim) (places : List Bool) → length (with_claims lower claims places) ≡ length places
unfolding with_claims
length-with_claims lower [] places = refl
length-with_claims lower (claim ∷ claims) places =
    length-with_claims lower claims (with_range 0 (lower + claim.offset) (lower + claim.offset + claim.length) places)
    ∙ length-with_range 0 (lower + claim.offset) (lower + claim.offset + claim.length) places

-- ---- all of them

-- each of some claims ends within the bounds
abbrev pub Fit : ℕ → List Claim → Type 0
Fit most [] = Unit {0}
Fit most (claim ∷ claims) = (claim.offset + claim.length ≤ most) × Fit most claims

pub AreClaims-fit : (most end : ℕ) (claims : List Claim) → AreClaims most end claims → Fit most claims
AreClaims-fit most end [] legal = tt
AreClaims-fit most end (claim ∷ claims) legal = ((legal.0).ends, AreClaims-fit most (claim.offset + claim.length) claims legal.1)

-- what is claimed so far, with the claims that are left, is all that is claimed in the end
pub record AreAdded (lower upper : ℕ) (claims : List Claim) (claimed all : List Bool) : Type 0 where
  pub fit : Fit (upper - lower) claims
  pub limit : length claimed ≡ length all
  pub rest : with_claims lower claims claimed ≡ all

pub AreAdded-first : (lower upper : ℕ) (claims : List Claim) (claimed : List Bool) → AreClaims (upper - lower) 0 claims
    → AreAdded lower upper claims claimed (with_claims lower claims claimed)
AreAdded-first lower upper claims claimed legal = record {
  fit = AreClaims-fit (upper - lower) 0 claims legal;
  limit = sym (length-with_claims lower claims claimed);
  rest = refl;
}

AreAdded-step : (lower upper : ℕ) (claim : Claim) (claims : List Claim) (claimed new all : List Bool) → lower ≤ upper → upper ≤ length claimed
    → AreAdded lower upper (claim ∷ claims) claimed all
    → new ≡ with_covered (lower + claim.offset) (lower + claim.offset + claim.length) claimed → AreAdded lower upper claims new all
unfolding with_claims
AreAdded-step lower upper claim claims claimed new all bounds within added covered =
    let from = lower + claim.offset in
    let to = lower + claim.offset + claim.length in
    let is : new ≡ with_range 0 from to claimed = covered ∙ with_covered-range from to claimed (omega arith) (omega (arith, (added.fit).0, bounds, within)) in
    record {
      fit = (added.fit).1;
      limit = ap (λ xs. length xs) is ∙ length-with_range 0 from to claimed ∙ added.limit;
      rest = ap (λ xs. with_claims lower claims xs) is ∙ added.rest;
    }

-- the next claim ends within the bounds
pub AreAdded-fit : (lower upper : ℕ) (claim : Claim) (left claims : List Claim) (claimed all : List Bool) → lower ≤ upper
    → left ≡ claim ∷ claims → AreAdded lower upper left claimed all → lower + claim.offset + claim.length ≤ upper
AreAdded-fit lower upper claim left claims claimed all bounds is added =
    let fit = subst (λ (xs : List Claim). Fit (upper - lower) xs) is added.fit in
    omega (arith, fit.0, bounds)

pub AreAdded-next : (lower upper : ℕ) (claim : Claim) (left claims : List Claim) (claimed new all : List Bool) → lower ≤ upper → upper ≤ length all
    → left ≡ claim ∷ claims → AreAdded lower upper left claimed all
    → new ≡ with_covered (lower + claim.offset) (lower + claim.offset + claim.length) claimed → AreAdded lower upper claims new all
AreAdded-next lower upper claim left claims claimed new all bounds within is added covered =
    AreAdded-step lower upper claim claims claimed new all bounds (omega (arith, within, added.limit))
    (subst (λ (xs : List Claim). AreAdded lower upper xs claimed all) is added) covered

pub AreAdded-last : (lower upper : ℕ) (left : List Claim) (claimed all : List Bool) → left ≡ [] → AreAdded lower upper left claimed all → claimed ≡ all
unfolding with_claims
AreAdded-last lower upper left claimed all none added =
    ap (λ (xs : List Claim). with_claims lower xs claimed) (sym none) ∙ added.rest

-- ---- all places

pub all_covered-all : (claimed : List Bool) (red : ℕ) → length claimed ≡ red → all_covered 0 red claimed ≡ is_all_claimed claimed
unfolding all_covered
all_covered-all claimed red limit = ap (λ xs. list_all (λ b. b) xs) (take_all (red - 0) claimed (omega (arith, limit)))
