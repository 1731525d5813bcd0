-- Where a judge of version 7 stands in the octets of the bundle that is under way.

use Rattle.std.specs.Prelude.{◌≡◌, ℕ, ◌+◌, ◌-◌, ◌*◌, ◌<◌, ◌≤◌, Bool, false, nat_lt, if◌then◌else◌, List, [], ◌++◌, length, take, drop, Option, Some, None, Result, Ok, Err, ◌⊎◌}
use Rattle.endpoint.specs.declared.extent.Fragment.{Fragment}
use Rattle.wire_fields.specs.Refusal.{because}
use Rattle.wire_fields.specs.Reading.{read, IsOctets}
use Rattle.wire_fields.specs.Gives.{Continues}
use Rattle.bundle7.specs.declared.fault.Cause7.{Cause7}
use Rattle.bundle7.specs.declared.fault.Fail7.{Fail7}
use Rattle.bundle7.specs.declared.fault.Fail7.TheVariants.{Refused, Memory}
use Rattle.bundle7.specs.declared.block.Lead.{Lead}
use Rattle.bundle7.specs.declared.pass.Front.{Front}
use Rattle.bundle7.specs.declared.bundle.Bundle7.{Bundle7}
use Rattle.bundle7.specs.declared.reader.Judged7.{Judged7}
use Rattle.bundle7.specs.Judging.{judged_start, judged_bundle}
use Rattle.bundle7.specs.Passing.{between, blocks_left, judged_on}
use Rattle.bundle7.specs.Streaming.{Stream, IsOpen}
use Rattle.bundle7.specs.Holding.{IsRefused, IsWhole}
use Rattle.bundle_judges.specs.declared.sum7.Sum.{Sum}
use Rattle.bundle_judges.specs.declared.stand7.Small.{Small}
use Rattle.bundle_judges.specs.declared.stand7.Small.TheVariants.{Block, Item, Check, Octets, End}
use Rattle.bundle_judges.specs.declared.stand7.Stage.{Stage}
use Rattle.bundle_judges.specs.declared.stand7.Stage.TheVariants.{Primary, Field, Body}
use Rattle.bundle_judges.specs.declared.stand7.Step.{Step}
use Rattle.bundle_judges.specs.declared.stand7.Step.TheVariants.{After, Waits, Ended}
use Rattle.bundle_judges.specs.declared.stand7.Stand.{Stand}
use Rattle.bundle_judges.specs.Sum7.{no_octets, with_octets}
use Rattle.bundle_judges.specs.Field7.{small_field, most_octets, is_kept, left_for, IsCut}

-- ---- what is kept

-- the octets of a block with a check of this type, from where it began up to a place, are summed
abbrev pub IsSumOf : ℕ → List ℕ → ℕ → ℕ → Sum → Type 0
IsSumOf crc text start to sum = sum ≡ with_octets (no_octets crc) (between start to text)

-- the same where a field of few octets is under way at a place
abbrev pub IsSummed : List ℕ → ℕ → ℕ → Small → Type 0
IsSummed text start at Block = Unit {0}
IsSummed text start at (Item front sum) = IsSumOf front.lead.crc text start at sum
IsSummed text start at (Check lead sum) = IsSumOf lead.crc text start at sum
IsSummed text start at (Octets lead sum) = Unit {0}
IsSummed text start at End = Unit {0}

-- nothing came of a field of few octets, or what came ends inside it
abbrev pub IsBegun : Stand → Small → Type 0
IsBegun s small = (s.head ≡ []) ⊎ IsCut (small_field s.part s.seen small) s.head

-- What is kept of the octets that came: those of the primary block that is under way, which they don't
-- end, or those of a field of few, or nothing of a body.
abbrev pub Keeps : List ℕ → ℕ → Stand → Stage → Type 0
Keeps text start s Primary =
    (s.at ≡ 0) × (s.main.items ≡ take s.came text) × IsCut judged_start s.main.items × (s.head ≡ [])
Keeps text start s (Field small) =
    (s.main.items ≡ []) × (s.head ≡ take (s.came - s.at) (drop s.at text)) × (most_octets small ≤ 1050)
    × IsBegun s small × IsSummed text start s.at small
Keeps text start s (Body front sum) =
    (s.main.items ≡ []) × (s.head ≡ []) × (s.came ≤ s.at + front.size) × (is_kept front ≡ false)
    × IsSumOf front.lead.crc text start s.came sum

-- the octets that came end inside what is under way
abbrev pub IsInside : Stand → Stage → Type 0
IsInside s Primary = Unit {0}
IsInside s (Field small) = IsCut (small_field s.part s.seen small) s.head
IsInside s (Body front sum) = s.came < s.at + front.size

-- Of the octets of a bundle so many came, and the judge stands at a place of them: what is left of the
-- table is all of the bundle that is still to be read.
pub record IsAt (text : List ℕ) (s : Stand) : Type 0 where
  pub octets : IsOctets text
  pub within : s.came ≤ length text
  pub place : s.at ≤ s.came
  pub few : length s.seen.kinds ≤ 64
  pub each : length s.seen.numbers ≡ length s.seen.kinds
  pub start : ℕ
  pub order : start ≤ s.at
  pub goes_on : Continues (judged_bundle 64) 0 (left_for s.part s.seen start s.stage) s.at text
  pub keeps : Keeps text start s s.stage

-- all of them came, and the bundle is open
pub record HasCome (text : List ℕ) (s : Stand) : Type 0 where
  pub stands : IsAt text s
  pub all : s.came ≡ length text
  pub inside : IsInside s s.stage

-- these octets follow those that came
abbrev pub IsThere : Stand → List ℕ → Type 0
IsThere s rest = (text : List ℕ) × IsAt text s × (rest ≡ drop s.came text)

-- of a stream so many octets are in bundles before, and these of the bundle that is under way came
pub record TookSo (stream : Stream) (s : Stand) : Type 0 where
  pub come : HasCome stream.kept s
  pub before : s.before ≡ stream.before

-- ---- steps

-- the octets spell a bundle that ends at a place
abbrev pub HasEnded : List ℕ → ℕ → Type 0
HasEnded text end = read (judged_bundle 64) text 0 ≡ Ok (tt, end)

-- The octets are refused, or memory ran out, which is wanted for the primary block alone: where none of
-- it came before, for octets that end inside the bundle.
abbrev pub Fails7 : List ℕ → Stand → Fail7 → Type 0
Fails7 text old (Refused at cause) = read (judged_bundle 64) text 0 ≡ Err (at, because cause)
Fails7 text old Memory = (old.stage ≡ Primary) × (old.came ≡ 0 → IsOpen text)

-- how many steps there can be without an octet more
abbrev pub steps_left : Stage → ℕ
steps_left Primary = 0
steps_left (Field Block) = 0
steps_left (Field (Item front sum)) = 3
steps_left (Field (Check lead sum)) = 2
steps_left (Field (Octets lead sum)) = 1
steps_left (Field End) = 0
steps_left (Body front sum) = 3

-- so many octets more came
pub record Moves (text : List ℕ) (old : Stand) (n : ℕ) (new : Stand) : Type 0 where
  pub stands : IsAt text new
  pub fewer : steps_left new.stage < 4 * n + steps_left old.stage
  pub came : new.came ≡ old.came + n
  pub before : new.before ≡ old.before
  pub stage : new.stage ≡ Primary → (old.stage ≡ Primary) × (0 < old.came)

-- all came that are there
pub record Stays (text : List ℕ) (old new : Stand) : Type 0 where
  pub come : HasCome text new
  pub before : new.before ≡ old.before

-- the bundle ends with octets that came now
pub record Ends (text : List ℕ) (old : Stand) (end : ℕ) (new : Stand) : Type 0 where
  pub ended : HasEnded text end
  pub late : old.came ≤ end
  pub before : new.before ≡ old.before

-- a step into octets that are there
abbrev pub Steps : List ℕ → Stand → Result Step Fail7 → Stand → Type 0
Steps text old (Ok (After n)) new = Moves text old n new
Steps text old (Ok Waits) new = Stays text old new
Steps text old (Ok (Ended end)) new = Ends text old end new
Steps text old (Err fail) new = Fails7 text old fail

-- the same, of whatever octets came
abbrev pub StepsOn : Stand → List ℕ → Result Step Fail7 → Stand → Type 0
StepsOn old rest result new =
    (text : List ℕ) → IsAt text old → rest ≡ drop old.came text → Steps text old result new

-- all steps into octets that are there
abbrev pub Runs : List ℕ → Stand → Result (Option ℕ) Fail7 → Stand → Type 0
Runs text old (Ok None) new = Stays text old new
Runs text old (Ok (Some end)) new = Ends text old end new
Runs text old (Err fail) new = Fails7 text old fail

abbrev pub RunsOn : Stand → List ℕ → Result (Option ℕ) Fail7 → Stand → Type 0
RunsOn old rest result new =
    (text : List ℕ) → IsAt text old → rest ≡ drop old.came text → Runs text old result new

-- ---- what stands next

-- all of a field came, and this stands next
abbrev pub entered : Stand → Stage → ℕ → Stand
entered s stage at = record {
  before = s.before;
  came = at;
  at = at;
  stage = stage;
  seen = s.seen;
  part = s.part;
  main = s.main;
  head = [];
}

-- so many octets came, and they don't end the field
abbrev pub waiting : Stand → ℕ → Stand
waiting s came = record {
  before = s.before;
  came = came;
  at = s.at;
  stage = s.stage;
  seen = s.seen;
  part = s.part;
  main = s.main;
  head = s.head;
}

-- so many octets were kept of those that are there
abbrev pub waited : ℕ → ℕ → Step
waited more there = if nat_lt more there then After more else Waits

-- what a field of few octets makes up: what a block has before its body, and else nothing
abbrev pub Fitting : Small → Option Front → Type 0
Fitting Block (Some front) = Unit {0}
Fitting Block None = ⊥
Fitting (Item front sum) (Some other) = ⊥
Fitting (Item front sum) None = Unit {0}
Fitting (Check lead sum) (Some front) = ⊥
Fitting (Check lead sum) None = Unit {0}
Fitting (Octets lead sum) (Some front) = ⊥
Fitting (Octets lead sum) None = Unit {0}
Fitting End (Some front) = ⊥
Fitting End None = Unit {0}

-- The octets are there with which a field of few ends: as many as it has, of which so many more come.
pub record Passes (text : List ℕ) (s : Stand) (small : Small) (front : Option Front)
    (end more : ℕ) : Type 0 where
  pub octets : IsOctets text
  pub within : s.came + more ≤ length text
  pub ends : s.came + more ≡ s.at + end
  pub stage : s.stage ≡ Field small
  pub some : steps_left (Field small) ≡ 0 → 0 < more
  pub few : length s.seen.kinds ≤ 64
  pub each : length s.seen.numbers ≡ length s.seen.kinds
  pub main : s.main.items ≡ []
  pub start : ℕ
  pub order : start ≤ s.at
  pub there : end ≤ length s.head
  pub head : take end s.head ≡ between s.at (s.at + end) text
  pub summed : IsSummed text start s.at small
  pub fitting : Fitting small front
  pub reads : read (small_field s.part s.seen small) text s.at ≡ Ok (front, s.at + end)
  pub goes_on : Continues (judged_bundle 64) 0 (left_for s.part s.seen start (Field small)) s.at text

-- A block is there up to its end, with so many octets more.
pub record Checks (text : List ℕ) (s : Stand) (lead : Lead) (more : ℕ) : Type 0 where
  pub octets : IsOctets text
  pub within : s.came + more ≤ length text
  pub some : 0 < 4 * more + steps_left s.stage
  pub few : length s.seen.kinds ≤ 64
  pub each : length s.seen.numbers ≡ length s.seen.kinds
  pub main : s.main.items ≡ []
  pub goes_on : Continues (judged_bundle 64) 0 (judged_on s.part (blocks_left 64 s.seen) s.seen lead) (s.came + more) text

-- The primary block is there up to its end, with so many octets more.
pub record Starts (text : List ℕ) (s : Stand) (part : Option Fragment) (more : ℕ) : Type 0 where
  pub octets : IsOctets text
  pub within : s.came + more ≤ length text
  pub some : 0 < more
  pub stage : s.stage ≡ Primary
  pub main : s.main.items ≡ []
  pub reads : read judged_start text 0 ≡ Ok (part, s.came + more)

-- The stand in which this stage is entered, after so many of the octets that follow those that came, is reached.
pub record Reaches (text : List ℕ) (s : Stand) (rest : List ℕ) (stage : Stage) (more : ℕ) : Type 0 where
  pub moves : Moves text s more (entered s stage (s.came + more))
  pub is : rest ≡ drop s.came text

-- The primary block is there up to its end, with so many of the octets that follow those that came.
pub record StartsOn (text : List ℕ) (s : Stand) (rest : List ℕ) (part : Option Fragment) (more : ℕ) : Type 0 where
  pub starts : Starts text s part more
  pub is : rest ≡ drop s.came text

-- ---- a part of a piece, after which no more may follow where it is cut

-- so many octets of it were taken, and the judge stands after them
abbrev pub TakesPart : Stream → List ℕ → Bool → ℕ → Option ℕ → Stand → Type 0
TakesPart old part cut used (Some end) new =
    (b : Bundle7) × IsWhole (old.kept ++ part) b end × (length old.kept ≤ end) × (used ≡ end - length old.kept)
    × HasCome [] new × (new.before ≡ old.before + end)
TakesPart old part cut used None new =
    (cut ≡ false) × (used ≡ length part) × HasCome (old.kept ++ part) new × (new.before ≡ old.before)

-- a place and a cause are those of a refusal
pub record IsTurned (old : Stream) (part : List ℕ) (cut : Bool) (at : ℕ) (cause : Cause7) : Type 0 where
  pub place : ℕ
  pub refused : IsRefused (old.kept ++ part) cut place cause
  pub spot : at ≡ old.before + place

-- memory ran out, for octets of a primary block that are to be kept
pub record WantsRoom (old : Stream) (part : List ℕ) (cut : Bool) : Type 0 where
  pub begun : old.kept ≡ [] → (cut ≡ false) × IsOpen part
  pub primary : IsCut judged_start old.kept

abbrev pub JudgesPart : Stream → List ℕ → Bool → Result Judged7 Fail7 → Stand → Type 0
JudgesPart old part cut (Ok judged) new = TakesPart old part cut judged.used judged.whole new
JudgesPart old part cut (Err (Refused at cause)) new = IsTurned old part cut at cause
JudgesPart old part cut (Err Memory) new = WantsRoom old part cut
