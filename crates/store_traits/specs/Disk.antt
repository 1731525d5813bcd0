-- What the calls of a store do to its file, and what a crash may do between two syncs.
use Rattle.std.specs.Prelude.{◌≡◌, ◌⊎◌, ℕ, ◌+◌, ◌≤◌, max, List, ◌++◌, length, take, drop, Result, Ok, Err}
use Rattle.edge_traits.specs.Faults.{one_more}
use Rattle.store_traits.specs.declared.fault.StoreFault.{StoreFault}
use Rattle.store_traits.specs.declared.fault.StoreFault.TheVariants as faults

-- ---- one call

-- a file with octets written over what stands at a place, and past its end
abbrev pub written : ℕ → List ℕ → List ℕ → List ℕ
written at octets file = take at file ++ octets ++ drop (at + length octets) file

-- what is left of a file by a write of so many octets at a place that a crash cuts short: any octets in
-- its range and past the old end, any length between, and the same elsewhere
pub record Torn (at n : ℕ) (old new : List ℕ) : Type 0 where
  pub before : take at new ≡ take at old
  pub after : drop (at + n) new ≡ drop (at + n) old
  pub no_shorter : length old ≤ length new
  pub no_longer : length new ≤ max (length old) (at + n)

-- each file that may be left now might have been left before, but for such a write
abbrev pub Follows : (List ℕ → List ℕ → Type 0)
    → (List ℕ → Type 0) → (List ℕ → Type 0) → Type 0
Follows step old new = (c : List ℕ) → new c → (d : List ℕ) × old d × step d c

-- nothing may be left that mightn't before
abbrev pub NoneNew : (List ℕ → Type 0) → (List ℕ → Type 0) → Type 0
NoneNew old new = (c : List ℕ) → new c → old c

-- this file may be left, and no other
abbrev pub Only : List ℕ → (List ℕ → Type 0) → Type 0
Only file may_leave = (c : List ℕ) → may_leave c → c ≡ file

-- the count of faults after a call: one more where the outside failed, and else as before
abbrev pub faults_after : {T : Type 0} → ℕ → Result T StoreFault → ℕ
faults_after before (Ok x) = before
faults_after before (Err faults.Failed) = one_more before
faults_after before (Err faults.Memory) = before

-- ---- time

-- Time goes on: a crash since t might have left what it might have left before, or what it may leave
-- now.
pub record Elapses (before now : ℕ) (past since : ℕ → List ℕ → Type 0)
    (may_leave : List ℕ → Type 0) : Type 0 where
  pub later : before ≤ now
  pub nothing_else : (t : ℕ) (c : List ℕ) → t ≤ before → since t c → past t c ⊎ may_leave c
  pub keeps : (t : ℕ) (c : List ℕ) → t ≤ before → past t c → since t c

-- a crash at any moment since the old one leaves a file that has P
pub record LeavesOnly {S : Type 0} (moment : S → ℕ) (left_since : S → ℕ → List ℕ → Type 0)
    (old new : S) (P : List ℕ → Type 0) : Type 0 where
  pub later : moment old ≤ moment new
  pub each : (c : List ℕ) → left_since new (moment old) c → P c
  -- for a run that began earlier
  pub before : (t : ℕ) (c : List ℕ) → t ≤ moment old
      → left_since new t c → left_since old t c ⊎ P c
