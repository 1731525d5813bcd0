-- Which calls were made, up to the first that failed.
use Rattle.std.proofs.Common.{◌≡◌, Bool, true, false, List, [], ◌∷◌, Option, None, Some, Result, Ok, Err, is_err, inl, inr, refl, sym, ◌∙◌, ap}
use Rattle.edge_traits.specs.Faults.{one_more, count_after, FailsAsTold, NonePassed, UpToFirst, WhereTold, Calls, NoneFailed, LastFailed, Went}

NonePassed-same : (calls : List Bool) → NonePassed calls calls
NonePassed-same [] = refl
NonePassed-same (fails ∷ later) = inl refl

NonePassed-more : (a b c : List Bool) → NonePassed a b → NonePassed b c → NonePassed a c
NonePassed-more [] b c first second = rw first at second
NonePassed-more (fails ∷ later) b c (inl same) second = rw same at second
NonePassed-more (fails ∷ later) b c (inr (sound, rest)) second = inr (sound, NonePassed-more later b c rest second)

UpToFirst-after : (a b c : List Bool) → NonePassed a b → UpToFirst b c → UpToFirst a c
UpToFirst-after [] b c first second = rw first at second
UpToFirst-after (true ∷ later) b c (inl same) second = rw same at second
UpToFirst-after (true ∷ later) b c (inr (sound, rest)) second = absurd (cc)
UpToFirst-after (false ∷ later) b c (inl same) second = rw same at second
UpToFirst-after (false ∷ later) b c (inr (sound, rest)) second = UpToFirst-after later b c rest second

-- one call
told_ok : {T E : Type 0} (before now : Option (List Bool)) (result : Result T E) → is_err result ≡ false
    → FailsAsTold before now result → WhereTold NonePassed before now
told_ok None now result sound told = tt
told_ok (Some calls) None result sound told = absurd told
told_ok (Some []) (Some now) result sound told = told.1
told_ok (Some (false ∷ later)) (Some now) result sound told = inr (refl, rw told.1 (NonePassed-same later))
told_ok (Some (true ∷ later)) (Some now) result sound told = let wrong = sym told.0 ∙ sound in absurd (cc)

told_err : {T E : Type 0} (before now : Option (List Bool)) (result : Result T E) → is_err result ≡ true
    → FailsAsTold before now result → WhereTold UpToFirst before now
told_err None now result failed told = tt
told_err (Some calls) None result failed told = absurd told
told_err (Some []) (Some now) result failed told = let wrong = sym told.0 ∙ failed in absurd (cc)
told_err (Some (false ∷ later)) (Some now) result failed told = let wrong = sym told.0 ∙ failed in absurd (cc)
told_err (Some (true ∷ later)) (Some now) result failed told = told.1

pub went : {T E : Type 0} (result : Result T E) (before now : Calls) → now.faults ≡ count_after before.faults result
    → FailsAsTold before.failing now.failing result → Went result before now
went (Ok x) before now count told = record { count = count; told = told_ok before.failing now.failing (Ok x) refl told }
went (Err e) before now count told = record { count = count; told = told_err before.failing now.failing (Err e) refl told }

-- several calls
pub NoneFailed-same : (calls : Calls) → NoneFailed calls calls
NoneFailed-same calls = record { count = refl; told = same calls.failing }
  where
    same : (told : Option (List Bool)) → WhereTold NonePassed told told
    same None = tt
    same (Some told) = NonePassed-same told

pub NoneFailed-more : (a b c : Calls) → NoneFailed a b → NoneFailed b c → NoneFailed a c
NoneFailed-more a b c first second = record {
  count = second.count ∙ first.count;
  told = more a.failing b.failing c.failing first.told second.told;
}
  where
    more : (x y z : Option (List Bool)) → WhereTold NonePassed x y → WhereTold NonePassed y z → WhereTold NonePassed x z
    more None y z first second = tt
    more (Some x) None z first second = absurd first
    more (Some x) (Some y) None first second = absurd second
    more (Some x) (Some y) (Some z) first second = NonePassed-more x y z first second

pub LastFailed-after : (a b c : Calls) → NoneFailed a b → LastFailed b c → LastFailed a c
LastFailed-after a b c first second = record {
  count = second.count ∙ ap one_more first.count;
  told = more a.failing b.failing c.failing first.told second.told;
}
  where
    more : (x y z : Option (List Bool)) → WhereTold NonePassed x y → WhereTold UpToFirst y z → WhereTold UpToFirst x z
    more None y z first second = tt
    more (Some x) None z first second = absurd first
    more (Some x) (Some y) None first second = absurd second
    more (Some x) (Some y) (Some z) first second = UpToFirst-after x y z first second

-- a call after others that didn't fail
pub Went-after : {T E : Type 0} (result : Result T E) (a b c : Calls) → NoneFailed a b → Went result b c → Went result a c
Went-after (Ok x) a b c first second = NoneFailed-more a b c first second
Went-after (Err e) a b c first second = LastFailed-after a b c first second
