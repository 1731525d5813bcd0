-- Where the reading of `show` stands: for a reading that keeps all octets of the bundle that has begun.
use Rattle.std.specs.Prelude.{◌≡◌, ℕ, ◌+◌, ◌<◌, ◌≤◌, List, [], ◌++◌, codes, length, take, Option, None, Some}
use Rattle.command_frame.specs.Task.{Settling, GoesOnTo}
use Rattle.wire_fields.specs.Reading.{IsOctets}
use Rattle.bundle6.specs.declared.bundle.Bundle6.{Bundle6}
use Rattle.bundle6.specs.Legal.{Spells6}
use Rattle.bundle_judges.specs.Judging6.{KeepsLittle}
use Rattle.bundle_json.specs.declared.telling6.Telling6.{Telling6}
use Rattle.bundle_json.specs.Telling.{Left, steps_left}
use Rattle.bundle_runs.specs.declared.commands.command.Command.TheVariants.{Show}
use Rattle.bundle_runs.specs.declared.front.Bundle.{Bundle}
use Rattle.bundle_runs.specs.declared.coming.Coming.{Coming}
use Rattle.bundle_runs.specs.declared.coming.Coming.TheVariants as comings
use Rattle.bundle_runs.specs.declared.unfinished.Unfinished.{Unfinished}
use Rattle.bundle_runs.specs.declared.unfinished.Unfinished.TheVariants.{Six, Seven}
use Rattle.bundle_runs.specs.declared.bundle_reader.Standing.{Standing}
use Rattle.bundle_runs.specs.declared.bundle_reader.Next.{Next}
use Rattle.bundle_runs.specs.declared.bundle_reader.Next.TheVariants.{After, End}
use Rattle.bundle_runs.specs.declared.show_reader.Showing.{Showing}
use Rattle.bundle_runs.specs.Front.{whole, front_of, version_of}
use Rattle.bundle_runs.specs.Taking.{settling_of, IsCut, IsSound, EndsWith}
use Rattle.bundle_runs.specs.Coming.{ComesForAny}

-- ---- the line of a bundle

-- this is due of the line of a bundle whose octets are kept
pub record OwesLine (octets : List ℕ) (telling : Telling6) (due : List ℕ) : Type 0 where
  pub bundle : Bundle6
  pub spells : Spells6 bundle octets
  pub rest : List ℕ
  pub left : Left octets telling rest
  pub some : 0 < steps_left octets telling
  pub is : due ≡ rest ++ codes "\n"

-- where a bundle is told, this is due of its line, and else nothing
abbrev pub Owes : Option Telling6 → List ℕ → List ℕ → Type 0
Owes None octets due = due ≡ []
Owes (Some telling) octets due = OwesLine octets telling due

-- how many more steps there can be
abbrev pub steps_due : Option Telling6 → List ℕ → ℕ
steps_due None octets = 0
steps_due (Some telling) octets = steps_left octets telling

-- the octets of a bundle that has begun, if it is of version 6
abbrev pub octets_of_six : Option Unfinished → List ℕ
octets_of_six None = []
octets_of_six (Some (Six reader)) = reader.stream.kept
octets_of_six (Some (Seven reader)) = []

-- they are kept where no bundle is told, and while one is, none has begun
abbrev pub HoldsBegun : Option Telling6 → List ℕ → Option Unfinished → Type 0
HoldsBegun None octets unfinished = octets ≡ octets_of_six unfinished
HoldsBegun (Some telling) octets unfinished = unfinished ≡ None

-- The octets that are kept, and those that the reader of version 7 keeps. They are those of the bundle
-- of version 6 that is told, and nothing has begun. Or they are those that came of the bundle that has
-- begun: of version 6, beside which a judge keeps the primary block and a few octets, or of version 7,
-- which the reader alone keeps. Or there are none.
abbrev pub KeepsOctets : Option Telling6 → Option Coming → List ℕ → List ℕ → Type 0
KeepsOctets (Some telling) begun octets read =
    ((bundle : Bundle6) × Spells6 bundle octets) × (begun ≡ None) × (read ≡ [])
KeepsOctets None (Some (comings.Six judge)) octets read =
    IsCut (front_of octets) × KeepsLittle judge.stand × (read ≡ [])
KeepsOctets None (Some comings.Seven) octets read = (octets ≡ []) × IsCut (front_of read)
KeepsOctets None None octets read = (octets ≡ []) × (read ≡ [])

abbrev pub KeepsOneBundle : Showing → Type 0
KeepsOneBundle s = KeepsOctets s.telling s.begun s.octets.items s.seven.stream.kept

-- ---- the input

-- this text is due, and after it a reading that keeps all octets stands where this one does
pub record ShowsAs (s : Showing) (due : List ℕ) (standing : Standing) : Type 0 where
  pub command : standing.command ≡ Show
  pub number : s.number ≡ standing.number
  pub place : s.at ≡ standing.at
  pub took : s.taken ≡ standing.taken
  pub bundle : ComesForAny s.begun s.seven standing.unfinished
  pub kept : HoldsBegun s.telling s.octets.items standing.unfinished
  pub owes : Owes s.telling s.octets.items due
  pub sound : IsSound standing

abbrev pub IsShowing : Showing → Type 0
IsShowing s = (due : List ℕ) × (standing : Standing) × ShowsAs s due standing

-- a task that stands so, where this text is due and octets still to come settle that
abbrev pub StandsShowing : Showing → List ℕ → Settling → Type 0
StandsShowing s due settles = (standing : Standing) × ShowsAs s due standing × (settles ≡ settling_of standing)

-- how many more parts there can be
abbrev pub parts_due : Showing → ℕ
parts_due s = steps_due s.telling s.octets.items

-- ---- a step

-- the octets that are kept once more came of the bundle that has begun
abbrev pub octets_with : Option Coming → List ℕ → List ℕ → List ℕ
octets_with (Some (comings.Six judge)) octets more = octets ++ more
octets_with (Some comings.Seven) octets more = octets
octets_with None octets more = octets

-- the octets that are kept are those of a bundle of version 6
pub record IsBundle (octets : List ℕ) (b : Bundle) : Type 0 where
  pub named : 6 ≡ version_of b
  pub fits : IsOctets octets
  pub front : front_of octets ≡ whole b (length octets)

-- some text of a line was added to the text before, and the rest of it is due
pub record BeginsLine (line before : List ℕ) (telling : Option Telling6) (octets now : List ℕ) : Type 0 where
  pub text : List ℕ
  pub due : List ℕ
  pub added : now ≡ before ++ text
  pub parts : line ≡ text ++ due
  pub owes : Owes telling octets due
  pub none_begun : HoldsBegun telling octets None

-- octets were taken, and text that they settle was added to the text before
pub record ShowsOn (old : Standing) (taken before : List ℕ) (new : Showing) (now : List ℕ) : Type 0 where
  pub later : Standing
  pub due : List ℕ
  pub shows : ShowsAs new due later
  pub text : List ℕ
  pub added : now ≡ before ++ text
  pub goes : GoesOnTo (settling_of old) taken (text ++ due) (settling_of later)
  pub passed : later.at + later.taken ≡ old.at + old.taken + length taken

-- So many octets were taken of those that are left, or the run ended with them.
abbrev pub ShowsStep : Standing → List ℕ → List ℕ → Showing → List ℕ → Next → Type 0
ShowsStep old left before new now (After used) =
    (0 < used) × (used ≤ length left) × ShowsOn old (take used left) before new now
ShowsStep old left before new now End = EndsWith old left before now

-- the steps so far: of the piece these octets are left
pub record ShowsSoFar (old : Standing) (piece left before : List ℕ) (new : Showing) (now : List ℕ) : Type 0 where
  pub taken : List ℕ
  pub parts : piece ≡ taken ++ left
  pub on : ShowsOn old taken before new now
