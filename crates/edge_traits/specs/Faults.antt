-- How an outside counts its faults, and which calls are to fail.
use Rattle.std.specs.Prelude.{◌≡◌, ℕ, ◌+◌, ◌-◌, ◌^◌, min, List, [], ◌∷◌, Bool, true, false, Option, None, Some, Result, Ok, Err, is_err, ◌⊎◌}

-- a count with one fault more, up to the greatest number that 64 bits show
abbrev pub one_more : ℕ → ℕ
one_more faults = min (faults + 1) (2 ^ 64 - 1)

-- the count after a call: one more where it failed, and else as before
abbrev pub count_after : {T E : Type 0} → ℕ → Result T E → ℕ
count_after faults (Ok x) = faults
count_after faults (Err e) = one_more faults

-- ---- which calls are to fail: a truth value for each call to come, and none fails past their end

-- whether the next call is to fail
abbrev pub fails_next : List Bool → Bool
fails_next [] = false
fails_next (fails ∷ later) = fails

-- what is told of the calls after the next one
abbrev pub after_next : List Bool → List Bool
after_next [] = []
after_next (fails ∷ later) = later

-- where it is told which calls are to fail, this one failed if and only if it was to
abbrev pub FailsAsTold : {T E : Type 0} → Option (List Bool) → Option (List Bool) → Result T E → Type 0
FailsAsTold None now result = Unit {0}
FailsAsTold (Some calls) None result = ⊥
FailsAsTold (Some calls) (Some now) result = (is_err result ≡ fails_next calls) × (now ≡ after_next calls)

-- ---- several calls

-- the calls made are a front of those told, and none of them was to fail
abbrev pub NonePassed : List Bool → List Bool → Type 0
NonePassed [] now = now ≡ []
NonePassed (fails ∷ later) now = (now ≡ fails ∷ later) ⊎ ((fails ≡ false) × NonePassed later now)

-- the calls made are those told up to the first that is to fail, this one included
abbrev pub UpToFirst : List Bool → List Bool → Type 0
UpToFirst [] now = ⊥
UpToFirst (true ∷ later) now = now ≡ later
UpToFirst (false ∷ later) now = UpToFirst later now

-- the same, where it is told which calls are to fail
abbrev pub WhereTold : (List Bool → List Bool → Type 0) → Option (List Bool) → Option (List Bool) → Type 0
WhereTold Made None now = Unit {0}
WhereTold Made (Some calls) None = ⊥
WhereTold Made (Some calls) (Some now) = Made calls now

-- what an outside tells of its calls: its count of faults, and which calls to come are to fail
pub record Calls : Type 0 where
  pub faults : ℕ
  pub failing : Option (List Bool)

-- what a value tells of its calls, by these two words of its kind
abbrev pub calls_of : {X : Type 0} → (X → ℕ) → (X → Option (List Bool)) → X → Calls
calls_of faults failing x = record { faults = faults x; failing = failing x }

-- none of the calls made failed
pub record NoneFailed (before now : Calls) : Type 0 where
  pub count : now.faults ≡ before.faults
  pub told : WhereTold NonePassed before.failing now.failing

-- the last of the calls made failed, and none before it: no call follows one that failed
pub record LastFailed (before now : Calls) : Type 0 where
  pub count : now.faults ≡ one_more before.faults
  pub told : WhereTold UpToFirst before.failing now.failing

-- several calls that are one: none of them failed where it answers Ok, and else the last did
abbrev pub Went : {T E : Type 0} → Result T E → Calls → Calls → Type 0
Went (Ok x) before now = NoneFailed before now
Went (Err e) before now = LastFailed before now
