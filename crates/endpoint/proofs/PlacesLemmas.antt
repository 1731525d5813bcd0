-- Places stay what they are however the texts go on.

use Rattle.std.proofs.Common.{◌≡◌, ℕ, List, [], ◌∷◌, ◌++◌, ◌+◌, ◌≤◌, length, take, drop, get_or, suc, refl, arith, length-append}
use Rattle.std.specs.Prelude.{Result, Ok, Err}
use Rattle.std.specs.List.{All}
use Rattle.std.specs.Result.{OnErr}
use Rattle.std.proofs.lemmas.List.{take-append-le, drop-append-le, length-drop, map-append}
use Rattle.std.proofs.Math.Seq.{drop-append_seam, take-length}
use Rattle.std.proofs.lemmas.List.Elements.{All-push}
use Rattle.endpoint.specs.declared.place.Place.{Place}
use Rattle.endpoint.specs.declared.place.Place.TheVariants as places
use Rattle.endpoint.specs.declared.name.Endpoint.TheVariants.{Dtn}
use Rattle.endpoint.specs.Places.{endpoint_at, endpoints_at, IsIn, IsFixed}

-- a part of the texts
part-more : (texts more : List ℕ) (from size : ℕ) → from + size ≤ length texts
    → take size (drop from (texts ++ more)) ≡ take size (drop from texts)
part-more texts more from size inside =
    rw (
      drop-append-le from texts more (omega (arith, inside)),
      take-append-le size (drop from texts) more (omega (arith, inside, length-drop from texts)),
    ) refl

-- a place in the texts
pub endpoint_at-more : (texts more : List ℕ) (place : Place) → IsIn texts place
    → endpoint_at (texts ++ more) place ≡ endpoint_at texts place
endpoint_at-more texts more places.Null inside = refl
endpoint_at-more texts more (places.Ipn node service) inside = refl
endpoint_at-more texts more (places.Written from size) inside = rw (part-more texts more from size inside) refl
endpoint_at-more texts more (places.Dtn from size) inside = rw (part-more texts more from size inside) refl

pub is_in-more : (texts more : List ℕ) (place : Place) → IsIn texts place → IsIn (texts ++ more) place
is_in-more texts more places.Null inside = tt
is_in-more texts more (places.Ipn node service) inside = tt
is_in-more texts more (places.Written from size) inside = omega (arith, inside, length-append texts more)
is_in-more texts more (places.Dtn from size) inside = omega (arith, inside, length-append texts more)

-- places in the texts
pub endpoints_at-more : (texts more : List ℕ) (at : List Place) → All (IsIn texts) at
    → endpoints_at (texts ++ more) at ≡ endpoints_at texts at
endpoints_at-more texts more [] inside = refl
endpoints_at-more texts more (place ∷ rest) inside =
    let later = endpoints_at-more texts more rest (λ k d low. inside (suc k) d (omega (arith, low))) in
    rw (endpoint_at-more texts more place (inside 0 place (omega arith)), later) refl

pub are_in-more : (texts more : List ℕ) (at : List Place) → All (IsIn texts) at → All (IsIn (texts ++ more)) at
are_in-more texts more at inside = λ k d low. is_in-more texts more (get_or at k d) (inside k d low)

fixed-anywhere : (texts : List ℕ) (place : Place) → IsFixed place → endpoint_at texts place ≡ endpoint_at [] place
fixed-anywhere texts places.Null fixed = refl
fixed-anywhere texts (places.Ipn node service) fixed = refl
fixed-anywhere texts (places.Written from size) fixed = absurd fixed
fixed-anywhere texts (places.Dtn from size) fixed = absurd fixed

fixed-in : (texts : List ℕ) (place : Place) → IsFixed place → IsIn texts place
fixed-in texts places.Null fixed = tt
fixed-in texts (places.Ipn node service) fixed = tt
fixed-in texts (places.Written from size) fixed = absurd fixed
fixed-in texts (places.Dtn from size) fixed = absurd fixed

-- one place more that needs no text
pub push-fixed : (texts : List ℕ) (at more : List Place) (place : Place) → IsFixed place → more ≡ at ++ place ∷ []
    → endpoints_at texts more ≡ endpoints_at texts at ++ endpoint_at [] place ∷ []
push-fixed texts at more place fixed is =
    rw (is, map-append (endpoint_at texts) at (place ∷ []), fixed-anywhere texts place fixed) refl

pub push-fixed-in : (texts : List ℕ) (at more : List Place) (place : Place) → IsFixed place → more ≡ at ++ place ∷ []
    → All (IsIn texts) at → All (IsIn texts) more
push-fixed-in texts at more place fixed is inside =
    rw is (All-push (IsIn texts) at place inside (fixed-in texts place fixed))

-- one place more, of a text at the end
pub push-text : (texts ssp all : List ℕ) (at more : List Place) → All (IsIn texts) at → all ≡ texts ++ ssp
    → more ≡ at ++ places.Dtn (length texts) (length ssp) ∷ []
    → endpoints_at all more ≡ endpoints_at texts at ++ Dtn ssp ∷ []
push-text texts ssp all at more inside longer is =
    rw (
      is,
      longer,
      map-append (endpoint_at (texts ++ ssp)) at (places.Dtn (length texts) (length ssp) ∷ []),
      endpoints_at-more texts ssp at inside,
      drop-append_seam texts ssp,
      take-length ssp,
    ) refl

pub push-text-in : (texts ssp all : List ℕ) (at more : List Place) → All (IsIn texts) at → all ≡ texts ++ ssp
    → more ≡ at ++ places.Dtn (length texts) (length ssp) ∷ [] → All (IsIn all) more
push-text-in texts ssp all at more inside longer is =
    rw (is, longer)
    (All-push (IsIn (texts ++ ssp)) at (places.Dtn (length texts) (length ssp)) (are_in-more texts ssp at inside)
    (omega (arith, length-append texts ssp)))

-- no place more, whatever was put after the texts
pub push-none : (texts ssp all : List ℕ) (at more : List Place) → All (IsIn texts) at → all ≡ texts ++ ssp
    → more ≡ at → endpoints_at all more ≡ endpoints_at texts at
push-none texts ssp all at more inside longer is = rw (is, longer) (endpoints_at-more texts ssp at inside)

-- what holds, holds in an error too
pub on_err : {T E P : Type 0} (r : Result T E) → P → OnErr r P
on_err (Ok x) holds = tt
on_err (Err e) holds = holds
