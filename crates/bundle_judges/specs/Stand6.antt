-- Where a judge of version 6 stands in the octets of the bundle that is under way.

use Rattle.std.specs.Prelude.{◌≡◌, ℕ, ◌+◌, ◌-◌, ◌<◌, ◌≤◌, Bool, false, List, [], ◌++◌, length, take, drop, Option, Some, None, Result, Ok, Err, ◌⊎◌}
use Rattle.endpoint.specs.declared.extent.Fragment.{Fragment}
use Rattle.wire_fields.specs.Refusal.{because}
use Rattle.wire_fields.specs.Reading.{read, IsOctets}
use Rattle.wire_fields.specs.Gives.{Continues}
use Rattle.bundle6.specs.declared.fault.Cause6.{Cause6}
use Rattle.bundle6.specs.declared.fault.Refused6.{Refused6}
use Rattle.bundle6.specs.declared.fault.Fail6.{Fail6}
use Rattle.bundle6.specs.declared.fault.Fail6.TheVariants.{Refused, Memory}
use Rattle.bundle6.specs.declared.block.Seen.{Seen}
use Rattle.bundle6.specs.declared.bundle.Bundle6.{Bundle6}
use Rattle.bundle6.specs.declared.reader.Judged6.{Judged6}
use Rattle.bundle6.specs.Judging.{judged_primary, judged_bundle}
use Rattle.bundle6.specs.Passing.{texts_in, left_at, next_stage}
use Rattle.bundle6.specs.Streaming.{Stream, IsOpen}
use Rattle.bundle6.specs.Holding.{IsRefused, IsWhole}
use Rattle.bundle_judges.specs.declared.stand6.Stage.{Stage}
use Rattle.bundle_judges.specs.declared.stand6.Stage.TheVariants.{Primary, Field, Body}
use Rattle.bundle_judges.specs.declared.stand6.Step.{Step}
use Rattle.bundle_judges.specs.declared.stand6.Step.TheVariants.{After, Ended}
use Rattle.bundle_judges.specs.declared.stand6.Stand.{Stand}
use Rattle.bundle_judges.specs.Field6.{small_field, left_for, IsCut}

-- the dictionary, which is kept with the primary block
abbrev pub dictionary_of : Stand → List ℕ
dictionary_of s = texts_in s.texts s.main.items

-- all of a primary block
abbrev pub IsPrimary : List ℕ → Type 0
IsPrimary main = (x : Option Fragment × List ℕ) × (read judged_primary main 0 ≡ Ok (x, length main))

-- octets of a primary block and no others: they end inside it, or with it
abbrev pub IsOfPrimary : List ℕ → Type 0
IsOfPrimary main = IsCut judged_primary main ⊎ IsPrimary main

-- What is kept of the octets that came: the primary block that is under way, or the first octets of a
-- field of few, or nothing of the octets of a block. They don't end it.
abbrev pub Keeps : List ℕ → Stand → Stage → Type 0
Keeps text s Primary =
    (s.at ≡ 0) × (s.main.items ≡ take s.came text) × IsCut judged_primary s.main.items × (s.head ≡ [])
Keeps text s (Field small) =
    (s.head ≡ take (s.came - s.at) (drop s.at text))
    × IsCut (small_field s.part (dictionary_of s) s.seen small) s.head
Keeps text s (Body size last) = (s.came < s.at + size) × (s.head ≡ [])

-- Of the octets of a bundle so many came, and the judge stands at a place of them: what is left of the
-- table is all of the bundle that is still to be read.
pub record IsAt (text : List ℕ) (s : Stand) : Type 0 where
  pub octets : IsOctets text
  pub within : s.came ≤ length text
  pub place : s.at ≤ s.came
  pub few : s.seen.others ≤ 64
  pub order : s.texts.from ≤ s.texts.to
  pub inside : s.texts.to ≤ length s.main.items
  pub goes_on : Continues (judged_bundle 64) 0 (left_for s.part (dictionary_of s) s.seen s.stage) s.at text
  pub main : IsOfPrimary s.main.items
  pub keeps : Keeps text s s.stage

-- all of them came
pub record HasCome (text : List ℕ) (s : Stand) : Type 0 where
  pub stands : IsAt text s
  pub all : s.came ≡ length text

-- these octets follow those that came, of which there are some
abbrev pub IsThere : Stand → List ℕ → Type 0
IsThere s rest = (text : List ℕ) × IsAt text s × (rest ≡ drop s.came text)

-- of a stream so many octets are in bundles before, and these of the bundle that is under way came
pub record TookSo (stream : Stream) (s : Stand) : Type 0 where
  pub come : HasCome stream.kept s
  pub before : s.before ≡ stream.before

-- the octets spell a bundle that ends at a place
abbrev pub HasEnded : List ℕ → ℕ → Type 0
HasEnded text end = (seen : Seen) × (read (judged_bundle 64) text 0 ≡ Ok (seen, end))

-- the octets are refused, or memory ran out, which is wanted for the primary block alone
abbrev pub Fails6 : List ℕ → Stand → Fail6 → Type 0
Fails6 text old (Refused at cause) = read (judged_bundle 64) text 0 ≡ Err (at, because cause)
Fails6 text old Memory = old.stage ≡ Primary

-- so many octets more came
pub record Moves (text : List ℕ) (old : Stand) (n : ℕ) (new : Stand) : Type 0 where
  pub stands : IsAt text new
  pub some : 0 < n
  pub came : new.came ≡ old.came + n
  pub before : new.before ≡ old.before
  pub stage : new.stage ≡ Primary → old.stage ≡ Primary

-- the bundle ends with octets that came now
pub record Ends (text : List ℕ) (old : Stand) (end : ℕ) (new : Stand) : Type 0 where
  pub ended : HasEnded text end
  pub late : old.came ≤ end
  pub before : new.before ≡ old.before

-- a step into octets that are there
abbrev pub Steps : List ℕ → Stand → Result Step Fail6 → Stand → Type 0
Steps text old (Ok (After n)) new = Moves text old n new
Steps text old (Ok (Ended end)) new = Ends text old end new
Steps text old (Err fail) new = Fails6 text old fail

-- the same, of whatever octets came
abbrev pub StepsOn : Stand → List ℕ → Result Step Fail6 → Stand → Type 0
StepsOn old rest result new =
    (text : List ℕ) → IsAt text old → rest ≡ drop old.came text → Steps text old result new

-- all steps into octets that are there
abbrev pub Runs : List ℕ → Stand → Result (Option ℕ) Fail6 → Stand → Type 0
Runs text old (Ok None) new = HasCome text new × (new.before ≡ old.before)
Runs text old (Ok (Some end)) new = Ends text old end new
Runs text old (Err fail) new = Fails6 text old fail

abbrev pub RunsOn : Stand → List ℕ → Result (Option ℕ) Fail6 → Stand → Type 0
RunsOn old rest result new =
    (text : List ℕ) → IsAt text old → rest ≡ drop old.came text → Runs text old result new

-- ---- what stands next

-- all of a field came, and this stands next
abbrev pub entered : Stand → Seen → Stage → ℕ → Stand
entered s seen stage at = record {
  before = s.before;
  came = at;
  at = at;
  stage = stage;
  seen = seen;
  part = s.part;
  main = s.main;
  texts = s.texts;
  head = s.head;
}

-- a stage after a field of few octets
abbrev pub IsLater : Stage → Type 0
IsLater Primary = ⊥
IsLater (Field small) = Unit {0}
IsLater (Body size last) = Unit {0}

-- the octets are there with which a field ends, and what is left of the table after it is this
pub record Enters (text : List ℕ) (s : Stand) (seen : Seen) (stage : Stage) (more : ℕ) : Type 0 where
  pub octets : IsOctets text
  pub within : s.came + more ≤ length text
  pub some : 0 < more
  pub few : seen.others ≤ 64
  pub order : s.texts.from ≤ s.texts.to
  pub inside : s.texts.to ≤ length s.main.items
  pub main : IsOfPrimary s.main.items
  pub head : s.head ≡ []
  pub later : IsLater stage
  pub goes_on : Continues (judged_bundle 64) 0 (left_for s.part (dictionary_of s) seen stage) (s.came + more) text

-- the same of the octets of a block
pub record Leaves (text : List ℕ) (s : Stand) (last : Bool) (more : ℕ) : Type 0 where
  pub octets : IsOctets text
  pub within : s.came + more ≤ length text
  pub some : 0 < more
  pub few : s.seen.others ≤ 64
  pub order : s.texts.from ≤ s.texts.to
  pub inside : s.texts.to ≤ length s.main.items
  pub main : IsOfPrimary s.main.items
  pub head : s.head ≡ []
  pub goes_on : Continues (judged_bundle 64) 0 (left_at 64 s.part (dictionary_of s) s.seen (next_stage last)) (s.came + more) text

-- all of the primary block comes with so many octets more, and is kept
pub record Fills (text : List ℕ) (s : Stand) (more : ℕ) : Type 0 where
  pub octets : IsOctets text
  pub within : s.came + more ≤ length text
  pub some : 0 < more
  pub stage : s.stage ≡ Primary
  pub head : s.head ≡ []
  pub front : s.main.items ≡ take (s.came + more) text
  pub whole : IsPrimary s.main.items

-- ---- a part of a piece, after which no more may follow where it is cut

-- a bundle ends in it, or none does
abbrev pub Looks : List ℕ → Bool → Result (Option ℕ) Refused6 → Type 0
Looks part cut (Ok (Some end)) = (b : Bundle6) × IsWhole part b end
Looks part cut (Ok None) = (cut ≡ false) × IsOpen part
Looks part cut (Err e) = (e.at ≤ length part) × IsRefused part cut e.at e.cause

-- so many octets of it were taken, and the judge stands after them
abbrev pub TakesPart : Stream → List ℕ → Bool → ℕ → Option ℕ → Stand → Type 0
TakesPart old part cut used (Some end) new =
    (b : Bundle6) × IsWhole (old.kept ++ part) b end × (length old.kept ≤ end) × (used ≡ end - length old.kept)
    × HasCome [] new × (new.before ≡ old.before + end)
TakesPart old part cut used None new =
    (cut ≡ false) × (used ≡ length part) × HasCome (old.kept ++ part) new × (new.before ≡ old.before)

-- a place and a cause are those of a refusal
pub record IsTurned (old : Stream) (part : List ℕ) (cut : Bool) (at : ℕ) (cause : Cause6) : Type 0 where
  pub place : ℕ
  pub refused : IsRefused (old.kept ++ part) cut place cause
  pub spot : at ≡ old.before + place

-- memory ran out, for octets of a primary block that are to be kept
pub record WantsRoom (old : Stream) (part : List ℕ) (cut : Bool) : Type 0 where
  pub begun : old.kept ≡ [] → (cut ≡ false) × IsOpen part
  pub primary : IsCut judged_primary old.kept

abbrev pub JudgesPart : Stream → List ℕ → Bool → Result Judged6 Fail6 → Stand → Type 0
JudgesPart old part cut (Ok judged) new = TakesPart old part cut judged.used judged.whole new
JudgesPart old part cut (Err (Refused at cause)) new = IsTurned old part cut at cause
JudgesPart old part cut (Err Memory) new = WantsRoom old part cut
