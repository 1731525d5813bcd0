-- What is handed up once is handed up once, in whichever order it stands.
use Rattle.std.proofs.Common.{◌≡◌, List, [], ◌∷◌, ◌++◌, sym}
use Rattle.std.specs.List.{AllByRecursion}
use Rattle.ltp_session.specs.Engine.{UpValue}
use Rattle.ltp_engine.specs.RedParts.{EachOnce}
use Rattle.ltp_laws.proofs.ListLemmas.{all-append}

-- ---- a front and the rest

pub all-front : {X : Type 0} (P : X → Type 0) (xs ys : List X) → AllByRecursion P (xs ++ ys) → AllByRecursion P xs
all-front P [] ys all = tt
all-front P (x ∷ xs) ys all = (all.0, all-front P xs ys all.1)

pub all-rest : {X : Type 0} (P : X → Type 0) (xs ys : List X) → AllByRecursion P (xs ++ ys) → AllByRecursion P ys
all-rest P [] ys all = all
all-rest P (x ∷ xs) ys all = all-rest P xs ys all.1

-- ---- no session's twice

-- another session's
abbrev IsOther : UpValue → UpValue → Type 0
IsOther up other = other.session ≡ up.session → ⊥

-- no session's is among both
abbrev AreOther : List UpValue → List UpValue → Type 0
AreOther xs ys = AllByRecursion (λ x. AllByRecursion (IsOther x) ys) xs

once-front : (xs ys : List UpValue) → EachOnce (xs ++ ys) → EachOnce xs
once-front [] ys once = tt
once-front (x ∷ xs) ys once = (all-front (IsOther x) xs ys once.0, once-front xs ys once.1)

once-apart : (xs ys : List UpValue) → EachOnce (xs ++ ys) → AreOther xs ys
once-apart [] ys once = tt
once-apart (x ∷ xs) ys once = (all-rest (IsOther x) xs ys once.0, once-apart xs ys once.1)

once-both : (xs ys : List UpValue) → EachOnce xs → EachOnce ys → AreOther xs ys → EachOnce (xs ++ ys)
once-both [] ys first second apart = second
once-both (x ∷ xs) ys first second apart =
    (all-append (IsOther x) xs ys first.0 apart.0, once-both xs ys first.1 second apart.1)

none-other : (ys : List UpValue) → AreOther ys []
none-other [] = tt
none-other (y ∷ ys) = (tt, none-other ys)

more-other : (x : UpValue) (xs ys : List UpValue) → AllByRecursion (IsOther x) ys → AreOther ys xs → AreOther ys (x ∷ xs)
more-other x xs [] here rest = tt
more-other x xs (y ∷ ys) here rest =
    ((λ same. here.0 (sym same), rest.0), more-other x xs ys here.1 rest.1)

other-turned : (xs ys : List UpValue) → AreOther xs ys → AreOther ys xs
other-turned [] ys apart = none-other ys
other-turned (x ∷ xs) ys apart = more-other x xs ys apart.0 (other-turned xs ys apart.1)

-- what stands before others may stand after what those are in another order
pub once-moved : (new others ordered : List UpValue) → EachOnce (new ++ others) → EachOnce ordered
    → ((P : UpValue → Type 0) → AllByRecursion P others → AllByRecursion P ordered) → EachOnce (ordered ++ new)
once-moved new others ordered once first same =
    once-both ordered new first (once-front new others once)
    (same (λ x. AllByRecursion (IsOther x) new) (other-turned new others (once-apart new others once)))
