-- Where the reading of bundles stands, and what is due of the one that ended last.
use Rattle.std.specs.Prelude.{◌≡◌, ℕ, ◌+◌, ◌<◌, ◌≤◌, List, [], ◌++◌, length, take}
use Rattle.command_frame.specs.Task.{Settling, GoesOnTo}
use Rattle.bundle_runs.specs.declared.bundle_reader.Standing.{Standing}
use Rattle.bundle_runs.specs.declared.bundle_reader.Reading.{Reading}
use Rattle.bundle_runs.specs.declared.bundle_reader.Next.{Next}
use Rattle.bundle_runs.specs.declared.bundle_reader.Next.TheVariants.{After, End}
use Rattle.bundle_runs.specs.Taking.{settling_of, IsSound, EndsWith}

-- a task that stands so, where this text is due and octets still to come settle that
abbrev pub StandsReading : Reading → List ℕ → Settling → Type 0
StandsReading reading due settles = (due ≡ reading.due) × (settles ≡ settling_of reading.standing)

-- text that was due was added to the text before, and the rest of it is due
pub record TellsDue (old new before now : List ℕ) : Type 0 where
  pub part : List ℕ
  pub added : now ≡ before ++ part
  pub parts : old ≡ part ++ new

-- octets were taken: of the text that they settle some was added to the text before, and the rest is due
pub record ReadsOn (old : Standing) (taken before : List ℕ) (new : Standing) (due now : List ℕ) : Type 0 where
  pub sound : IsSound new
  pub text : List ℕ
  pub added : now ≡ before ++ text
  pub goes : GoesOnTo (settling_of old) taken (text ++ due) (settling_of new)
  pub passed : new.at + new.taken ≡ old.at + old.taken + length taken

-- So many octets were taken of those that are left, or the run ended with them.
abbrev pub ReadsStep : Standing → List ℕ → List ℕ → Standing → (due now : List ℕ) → Next → Type 0
ReadsStep old left before new due now (After used) =
    (0 < used) × (used ≤ length left) × ReadsOn old (take used left) before new due now
ReadsStep old left before new due now End = EndsWith old left before now × (due ≡ [])

-- the steps so far: of the piece these octets are left
pub record ReadSoFar (old : Standing) (piece left before : List ℕ) (new : Standing) (due now : List ℕ) : Type 0 where
  pub taken : List ℕ
  pub parts : piece ≡ taken ++ left
  pub on : ReadsOn old taken before new due now
