-- Where the reading of `check` stands: for a reading that keeps all octets of the bundle that has begun.
use Rattle.std.specs.Prelude.{◌≡◌, ℕ, ◌+◌, ◌≤◌, List, [], length, Option, None, Some, false}
use Rattle.command_frame.specs.Task.{Settling}
use Rattle.bundle_judges.specs.Judging6 as judging6
use Rattle.bundle_judges.specs.Judging7 as judging7
use Rattle.bundle_runs.specs.declared.commands.command.Command.TheVariants.{Check}
use Rattle.bundle_runs.specs.declared.given.Given.{Given}
use Rattle.bundle_runs.specs.declared.given.Given.TheVariants.{Whole, Part, Refused}
use Rattle.bundle_runs.specs.declared.unfinished.Unfinished.{Unfinished}
use Rattle.bundle_runs.specs.declared.unfinished.Unfinished.TheVariants.{Six, Seven}
use Rattle.bundle_runs.specs.declared.begun.Begun.{Begun}
use Rattle.bundle_runs.specs.declared.begun.Begun.TheVariants as begins
use Rattle.bundle_runs.specs.declared.bundle_reader.Standing.{Standing}
use Rattle.bundle_runs.specs.declared.bundle_reader.Next.{Next}
use Rattle.bundle_runs.specs.declared.bundle_reader.Next.TheVariants.{After, End}
use Rattle.bundle_runs.specs.declared.check_reader.Checking.{Checking}
use Rattle.bundle_runs.specs.Given.{IsVersion}
use Rattle.bundle_runs.specs.Taking.{kept_of, settling_of, IsReady, Takes, IsSound, Took, GoesAfter, EndsWith}

-- a judge took the octets that a reader of the same version keeps
abbrev pub StandsFor : Begun → Unfinished → Type 0
StandsFor (begins.Six judge) (Six reader) =
    (judge.refused ≡ None) × (judge.spent ≡ false) × judging6.HasTaken 67108864 reader.stream judge.stand
StandsFor (begins.Six judge) (Seven reader) = ⊥
StandsFor (begins.Seven judge) (Six reader) = ⊥
StandsFor (begins.Seven judge) (Seven reader) =
    (judge.refused ≡ None) × (judge.spent ≡ false) × judging7.HasTaken 67108864 reader.stream judge.stand

abbrev pub StandsForAny : Option Begun → Option Unfinished → Type 0
StandsForAny None None = Unit {0}
StandsForAny None (Some bundle) = ⊥
StandsForAny (Some begun) None = ⊥
StandsForAny (Some begun) (Some bundle) = StandsFor begun bundle

-- it may take a piece
abbrev pub MayTake : Begun → List ℕ → Unfinished → Type 0
MayTake begun piece bundle =
    StandsFor begun bundle × IsReady bundle × (length (kept_of bundle) + length piece ≤ 67108864)

-- where octets didn't end the bundle
abbrev pub IfPart : {A : Type 0} → Given A → Type 0 → Type 0
IfPart (Whole wanted used) fact = Unit {0}
IfPart Part fact = fact
IfPart (Refused at cause) fact = Unit {0}

-- or where they gave a bundle or its beginning
abbrev pub IfOn : {A : Type 0} → Given A → Type 0 → Type 0
IfOn (Whole wanted used) fact = fact
IfOn Part fact = fact
IfOn (Refused at cause) fact = Unit {0}

-- a judge of version 7 took nothing
pub record IsNew (judge : judging7.Judging) : Type 0 where
  pub fresh : judge.refused ≡ None
  pub whole : judge.spent ≡ false
  pub taken : judging7.HasTaken 67108864 (record { before = 0; kept = [] }) judge.stand

-- or it may let go of what it took
abbrev pub MayRestart : judging7.Judging → Type 0
MayRestart judge = (judge.refused ≡ None) × (judge.spent ≡ false) × judging7.IsTaking judge.stand

-- a piece was taken, as a reader would have taken it
pub record JudgesMore (old : Unfinished) (piece : List ℕ) (new : Begun) (given : Given ℕ) : Type 0 where
  pub later : Unfinished
  pub takes : Takes IsVersion old piece later given
  pub part : IfPart given (StandsFor new later)

-- a reading that keeps all octets stands where this one does
pub record Shadows (s : Checking) (standing : Standing) : Type 0 where
  pub command : standing.command ≡ Check
  pub number : s.number ≡ standing.number
  pub place : s.at ≡ standing.at
  pub took : s.taken ≡ standing.taken
  pub bundle : StandsForAny s.begun standing.unfinished
  pub sound : IsSound standing
  pub seven : IsNew s.seven

abbrev pub IsShadowed : Checking → Type 0
IsShadowed s = (standing : Standing) × Shadows s standing

-- a task that stands so, where octets still to come settle this
abbrev pub StandsChecking : Checking → Settling → Type 0
StandsChecking s settles = (standing : Standing) × Shadows s standing × (settles ≡ settling_of standing)

-- nothing but the judges differs
abbrev pub with_judges : Checking → Option Begun → judging7.Judging → Checking
with_judges s begun seven = record { number = s.number; at = s.at; taken = s.taken; begun = begun; seven = seven }

-- octets of one bundle were judged, as a reading that keeps them would have taken them
pub record JudgedOn (old : Standing) (left : List ℕ) (new : Checking) (given : Given ℕ) : Type 0 where
  pub mid : Standing
  pub took : Took IsVersion old left mid given
  pub part : IfPart given (StandsForAny new.begun mid.unfinished)
  pub seven : IfOn given (IsNew new.seven)

-- So many octets were taken of those that are left, or the run ended with them.
abbrev pub ChecksOn : Standing → List ℕ → List ℕ → Checking → List ℕ → Next → Type 0
ChecksOn old left before new now (After used) =
    (later : Standing) × Shadows new later × GoesAfter old left used before later now
ChecksOn old left before new now End = EndsWith old left before now
