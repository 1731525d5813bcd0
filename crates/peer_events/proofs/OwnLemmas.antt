-- Looking for an own session, place by place.

use Rattle.std.proofs.Common.{◌≡◌, ℕ, zero, suc, ◌+◌, ◌<◌, Bool, true, false, ◌||◌, List, [], ◌∷◌, length, take, get_or, refl, ap, arith}
use Rattle.std.specs.List.{list_any}
use Rattle.gate_cases.specs.declared.face.Face.{Face}
use Rattle.peer_events.specs.declared.own.OwnBlock.{OwnBlock}
use Rattle.peer_events.specs.Own.{find_own, without_own, is_of}
use Rattle.peer_events.specs.Kept.{IsAt, IsNowhere}

-- the one at the front
at-front : (face : Face) (session : ℕ) (own : OwnBlock) (more : List OwnBlock) → is_of face session own ≡ true → IsAt face session (own ∷ more) 0
unfolding find_own without_own
at-front face session own more is = record {
  within = omega arith;
  found = rw is refl;
  left = rw is refl;
}

after-one : (place : ℕ) → suc place + 1 ≡ suc (place + 1)
after-one place = omega arith

-- one that isn't at the front
at-later : (face : Face) (session : ℕ) (own : OwnBlock) (more : List OwnBlock) (place : ℕ) → is_of face session own ≡ false → IsAt face session more place → IsAt face session (own ∷ more) (suc place)
unfolding find_own without_own
at-later face session own more place is rest = record {
  within = let low = rest.within in omega (arith, low);
  found = rw is rest.found;
  left = rw (is, after-one place) (ap (λ os. own ∷ os) rest.left);
}

first-of : (a b : Bool) → (a || b) ≡ false → a ≡ false
first-of true b is = is
first-of false b is = refl

second-of : (a b : Bool) → (a || b) ≡ false → b ≡ false
second-of true b is = absurd (cc)
second-of false b is = is

-- none of those before a place is the one, and the one there is
pub found-at : (face : Face) (session : ℕ) (own : List OwnBlock) (place : ℕ) (d : OwnBlock) → place < length own → list_any (is_of face session) (take place own) ≡ false → is_of face session (get_or own place d) ≡ true → IsAt face session own place
found-at face session [] place d low none is = absurd (omega arith)
found-at face session (own ∷ more) zero d low none is = at-front face session own more is
found-at face session (own ∷ more) (suc place) d low none is =
    at-later face session own more place
    (first-of (is_of face session own) (list_any (is_of face session) (take place more)) none)
    (found-at face session more place d (omega arith) (second-of (is_of face session own) (list_any (is_of face session) (take place more)) none) is)

-- none of them is the one
pub nowhere : (face : Face) (session : ℕ) (own : List OwnBlock) → list_any (is_of face session) own ≡ false → IsNowhere face session own
unfolding find_own without_own
nowhere face session [] none = record { found = refl; left = refl }
nowhere face session (own ∷ more) none =
    let first = first-of (is_of face session own) (list_any (is_of face session) more) none in
    let rest = nowhere face session more (second-of (is_of face session own) (list_any (is_of face session) more) none) in
    record {
      found = rw first rest.found;
      left = rw first (ap (λ os. own ∷ os) rest.left);
    }
