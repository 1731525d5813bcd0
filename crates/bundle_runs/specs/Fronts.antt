-- The fronts of octets: each stands where the bundle before it ends.
use Rattle.std.specs.Prelude.{ℕ, zero, suc, ◌-◌, List, [], ◌∷◌, length, drop}
use Rattle.bundle_runs.specs.Front.{front_of, Front, whole, cut_short, refused}

-- What follows a front, by the octets after the first one: after a bundle, which has at least that
-- octet, the fronts of the octets after it; and nothing after a stop.
abbrev pub after_front : Front → List ℕ → (List ℕ → List Front) → List Front
after_front (whole bundle size) octets later = later (drop (size - 1) octets)
after_front (cut_short place) octets later = []
after_front (refused place cause) octets later = []

-- the first fronts of octets, at most so many
unfoldable pub first_fronts : ℕ → List ℕ → List Front
first_fronts most [] = []
first_fronts zero (octet ∷ octets) = []
first_fronts (suc most) (octet ∷ octets) =
    let front = front_of (octet ∷ octets) in
    front ∷ after_front front octets (λ rest. first_fronts most rest)

-- all of them: there are no more fronts than octets
unfoldable pub fronts_of : List ℕ → List Front
fronts_of octets = first_fronts (length octets) octets
