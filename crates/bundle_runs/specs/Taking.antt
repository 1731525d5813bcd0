-- Where the reading of bundles stands, and what a piece makes of it.
use Rattle.std.specs.Prelude.{◌≡◌, ◌≢◌, ℕ, ◌+◌, ◌*◌, ◌<◌, ◌≤◌, List, [], ◌++◌, length, drop, slice_index, Option, None, Some, IfSome, IsSomeAnd, Bool, true, false}
use Rattle.wire_fields.specs.Reading.{IsOctets}
use Rattle.edge_traits.specs.declared.status.Status.TheVariants as statuses
use Rattle.fragments.specs.Joining.{Joining}
use Rattle.command_frame.specs.declared.part_task.Taken.{Taken}
use Rattle.command_frame.specs.declared.part_task.Taken.TheVariants as takens
use Rattle.command_frame.specs.Task.{Settling, over, GoesOnTo}
use Rattle.bundle_runs.specs.declared.commands.command.Command.{Command}
use Rattle.bundle_runs.specs.declared.commands.command.Command.TheVariants.{KeepConverting, KeepCutting, KeepJoining}
use Rattle.bundle_runs.specs.declared.front.Bundle.{Bundle}
use Rattle.bundle_runs.specs.declared.given.Given.{Given}
use Rattle.bundle_runs.specs.declared.given.Given.TheVariants.{Whole, Part, Refused}
use Rattle.bundle_runs.specs.declared.unfinished.Unfinished.{Unfinished}
use Rattle.bundle_runs.specs.declared.unfinished.Unfinished.TheVariants.{Six, Seven}
use Rattle.bundle_runs.specs.declared.bundle_reader.Standing.{Standing}
use Rattle.bundle_runs.specs.Front.{Front, whole, cut_short, refused, front_of, front6, front7}
use Rattle.bundle_runs.specs.Given.{Finds}
use Rattle.bundle_runs.specs.Answering.{settles_from}

-- ---- the unfinished bundle

-- its octets so far
abbrev pub kept_of : Unfinished → List ℕ
kept_of (Six reader) = reader.stream.kept
kept_of (Seven reader) = reader.stream.kept

-- the first of them
abbrev pub mark_of : Unfinished → ℕ
mark_of (Six reader) = 0x06
mark_of (Seven reader) = 0x9F

-- what stands at the front of octets that begin so
abbrev pub front_in : Unfinished → List ℕ → Front
front_in (Six reader) octets = front6 octets
front_in (Seven reader) octets = front7 octets

-- its reader took no bundle before it, met no refusal, and had memory
abbrev pub IsReady : Unfinished → Type 0
IsReady (Six reader) = (reader.refused ≡ None) × (reader.spent ≡ false) × (reader.stream.before ≡ 0)
IsReady (Seven reader) = (reader.refused ≡ None) × (reader.spent ≡ false) × (reader.stream.before ≡ 0)

-- octets end inside a bundle
abbrev pub IsCut : Front → Type 0
IsCut (whole bundle size) = ⊥
IsCut (cut_short at) = Unit {0}
IsCut (refused at cause) = ⊥

-- its octets begin a bundle of its version and don't end it, and its reader is ready for more
pub record HasBegun (bundle : Unfinished) : Type 0 where
  pub ready : IsReady bundle
  pub octets : IsOctets (kept_of bundle)
  pub some : 0 < length (kept_of bundle)
  pub mark : slice_index (kept_of bundle) 0 ≡ mark_of bundle
  pub cut : IsCut (front_in bundle (kept_of bundle))

-- they are these
abbrev pub HasBegunWith : List ℕ → Unfinished → Type 0
HasBegunWith octets bundle = HasBegun bundle × (kept_of bundle ≡ octets)

-- the reader of a bundle that begins with an octet took nothing, and there is one where the octet names
-- a version
abbrev pub BeginsWith : ℕ → Option Unfinished → Type 0
BeginsWith first None = (first ≢ 0x06) × (first ≢ 0x9F)
BeginsWith first (Some bundle) = IsReady bundle × (first ≡ mark_of bundle) × (kept_of bundle ≡ [])

-- after a piece that doesn't end it the reader is ready for more, and has the octets
abbrev pub GoesOn : {A : Type 0} → Unfinished → List ℕ → Unfinished → Given A → Type 0
GoesOn old piece new (Whole wanted used) = Unit {0}
GoesOn old piece new Part = IsReady new × (mark_of new ≡ mark_of old) × (kept_of new ≡ kept_of old ++ piece)
GoesOn old piece new (Refused at cause) = Unit {0}

-- a piece was taken
pub record Takes {A : Type 0} (IsWanted : Bundle → A → Type 0) (old : Unfinished) (piece : List ℕ) (new : Unfinished) (given : Given A) : Type 0 where
  pub finds : Finds IsWanted (front_in old (kept_of old ++ piece)) (length (kept_of old)) given
  pub goes_on : GoesOn old piece new given

-- its octets end in the field at a place, or it has none
abbrev pub IsCutAt : Unfinished → Option ℕ → Type 0
IsCutAt bundle None = kept_of bundle ≡ []
IsCutAt bundle (Some at) = (front_in bundle (kept_of bundle) ≡ cut_short at) × (kept_of bundle ≡ [] → ⊥)

-- ---- the input

-- the octets of the bundle that has begun, if one has
abbrev pub kept_by : Option Unfinished → List ℕ
kept_by None = []
kept_by (Some bundle) = kept_of bundle

-- what the octets still to come settle
abbrev pub settling_of : Standing → Settling
settling_of s ends more =
    settles_from s.command s.any_refused s.joiner.joins s.number s.at ends (kept_by s.unfinished ++ more)

-- what octets settle that are followed by those to come
abbrev pub settling_after : Standing → List ℕ → Settling
settling_after s octets ends more = settling_of s ends (octets ++ more)

-- the commands that keep going
abbrev pub keeps_going : Command → Bool
keeps_going KeepConverting = true
keeps_going (KeepCutting most) = true
keeps_going KeepJoining = true
keeps_going _ = false

-- the counts are in range, and there was memory
pub record IsSound (s : Standing) : Type 0 where
  pub begun : IfSome s.unfinished HasBegun
  pub held : s.taken ≡ length (kept_by s.unfinished)
  pub within : s.at + s.taken ≤ 67108864
  pub counted : s.number ≤ s.at + 1
  pub memory : s.joiner.spent ≡ false
  pub clean : keeps_going s.command ≡ false → s.any_refused ≡ false

-- ---- a step

-- nothing but the unfinished bundle differs
abbrev pub with_unfinished : Standing → Option Unfinished → Standing
with_unfinished s unfinished = record {
  command = s.command;
  any_refused = s.any_refused;
  joiner = s.joiner;
  number = s.number;
  at = s.at;
  taken = s.taken;
  unfinished = unfinished;
}

-- or nothing but whether a bundle was refused
abbrev pub with_refused : Standing → Bool → Standing
with_refused s any_refused = record {
  command = s.command;
  any_refused = any_refused;
  joiner = s.joiner;
  number = s.number;
  at = s.at;
  taken = s.taken;
  unfinished = s.unfinished;
}

-- or nothing but the joiner
abbrev pub with_joiner : Standing → Joining → Standing
with_joiner s joiner = record {
  command = s.command;
  any_refused = s.any_refused;
  joiner = joiner;
  number = s.number;
  at = s.at;
  taken = s.taken;
  unfinished = s.unfinished;
}

-- the bundle has ended after so many octets more
abbrev pub passed : Standing → ℕ → Standing
passed s used = record {
  command = s.command;
  any_refused = s.any_refused;
  joiner = s.joiner;
  number = s.number + 1;
  at = s.at + (s.taken + used);
  taken = 0;
  unfinished = None;
}

-- so many octets more don't end it
abbrev pub waiting : Standing → ℕ → Standing
waiting s more = record {
  command = s.command;
  any_refused = s.any_refused;
  joiner = s.joiner;
  number = s.number;
  at = s.at;
  taken = s.taken + more;
  unfinished = s.unfinished;
}

-- octets that don't end the bundle are kept
abbrev pub KeepsBegun : {A : Type 0} → List ℕ → Option Unfinished → Given A → Type 0
KeepsBegun octets unfinished (Whole wanted used) = Unit {0}
KeepsBegun octets unfinished Part = IsSomeAnd unfinished (HasBegunWith octets)
KeepsBegun octets unfinished (Refused at cause) = Unit {0}

-- octets of one bundle were taken, which has begun or begins with them
pub record Took {A : Type 0} (IsWanted : Bundle → A → Type 0) (old : Standing) (left : List ℕ) (new : Standing) (given : Given A) : Type 0 where
  pub same : new ≡ with_unfinished old new.unfinished
  pub finds : Finds IsWanted (front_of (kept_by old.unfinished ++ left)) (length (kept_by old.unfinished)) given
  pub keeps : KeepsBegun (kept_by old.unfinished ++ left) new.unfinished given

-- So many octets were taken of those that are left.
pub record GoesAfter (old : Standing) (left : List ℕ) (used : ℕ) (before : List ℕ) (new : Standing) (now : List ℕ) : Type 0 where
  pub sound : IsSound new
  pub text : List ℕ
  pub added : now ≡ before ++ text
  pub goes : GoesOnTo (settling_of old) left text (settling_after new (drop used left))
  pub inside : used ≤ length left
  pub passed : new.at + new.taken ≡ old.at + old.taken + used
  pub less : new.taken < old.taken + 2 * used

-- the run ended with them
pub record EndsWith (old : Standing) (left before now : List ℕ) : Type 0 where
  pub text : List ℕ
  pub added : now ≡ before ++ text
  pub goes : GoesOnTo (settling_of old) left text (over statuses.Refused)

-- the steps so far: of the piece these octets are left
pub record SoFar (start now : Standing) (piece left before text : List ℕ) : Type 0 where
  pub written : List ℕ
  pub added : text ≡ before ++ written
  pub goes : GoesOnTo (settling_of start) piece written (settling_after now left)

-- the run hasn't ended
abbrev pub IsOn : Taken → Type 0
IsOn takens.All = Unit {0}
IsOn (takens.Due used) = Unit {0}
IsOn (takens.Ends status) = ⊥
