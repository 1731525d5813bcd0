-- What ties code to the definitions: records that have views, and those that are kept.
use Rattle.std.specs.Prelude.{◌≡◌, ◌≢◌, ℕ, ◌<◌, ◌^◌, false, true, List, ◌++◌, length, codes, Option, Some, None, Result, Ok, Err}
use Rattle.std.specs.List.{All}
use Rattle.bundle_meaning.specs.declared.full.Full.{Full}
use Rattle.bundle_meaning.specs.Reports.{is_report}
use Rattle.translate.specs.declared.refused.Refused.{Refused}
use Rattle.translate.specs.Sound.{IsSound}
use Rattle.translate.specs.View6.{fits6}
use Rattle.translate.specs.View7.{fits7}
use Rattle.fragments.specs.declared.fault.JoinRefused.{JoinRefused}
use Rattle.fragments.specs.declared.fault.JoinRefused.TheVariants.{Memory}
use Rattle.fragments.specs.declared.join.Join.{Join}
use Rattle.fragments.specs.declared.joining.Joined.{Joined}
use Rattle.fragments.specs.declared.joining.Joined.TheVariants as answers
use Rattle.fragments.specs.Cutting.{octets_of}
use Rattle.fragments.specs.Word.{join_word}
use Rattle.fragment_lines.specs.declared.joining.Answer.{Answer}
use Rattle.fragment_lines.specs.declared.joining.Answer.TheVariants as said
use Rattle.fragment_lines.specs.Said.{Said, says}
use Rattle.fragment_lines.specs.Joins.{said_whole}

-- a record that has a view of version 6
pub record HasRoom6 (full : Full) : Type 0 where
  pub sound : IsSound full
  pub fits : fits6 full ≡ true

-- and one of version 7
pub record HasRoom7 (full : Full) : Type 0 where
  pub sound : IsSound full
  pub fits : fits7 full ≡ true

-- the record that a bundle reads as, or why it doesn't read
abbrev pub Reads : Option Refused → Full → Result Full Refused → Type 0
Reads first value (Ok full) = (first ≡ None) × (full ≡ value)
Reads first value (Err cause) = first ≡ Some cause

-- the first fragment with offset 0, as a whole
pub record IsWhole (head : Full) : Type 0 where
  pub sound : IsSound head
  pub bytes : is_report head.shared.content ≡ false
  pub whole : head.shared.fragment ≡ None

abbrev pub HasHead : Option Full → Type 0
HasHead None = Unit {0}
HasHead (Some head) = IsWhole head

abbrev pub IsBegun : Join → Type 0
IsBegun join = HasHead join.head

abbrev pub AreBegun : List Join → Type 0
AreBegun joins = All IsBegun joins

-- a whole that is said is sound
abbrev pub IsSayable : Answer → Type 0
IsSayable (said.Word word) = Unit {0}
IsSayable (said.Whole whole) = IsSound whole

-- a word is a line, and the whole is one where there is room for its blocks
abbrev pub said_answer : {S : Type 0} → (Full → Option (List ℕ)) → Answer → S → Said S
said_answer spelled (said.Word word) now = says (word.now ++ codes "\n") now
said_answer spelled (said.Whole whole) now = said_whole (spelled whole) now

-- it says what the joiner answered; a number counts the octets of a whole
abbrev pub Tells : Result Joined JoinRefused → Answer → Type 0
Tells (Ok answers.Waiting) (said.Word word) = word.now ≡ codes "Waiting"
Tells (Ok answers.Repeat) (said.Word word) = word.now ≡ codes "Repeat"
Tells (Ok (answers.Whole whole)) (said.Whole same) =
    (same ≡ whole) × (length (octets_of same.shared.content) < 2 ^ 64)
Tells (Err refused) (said.Word word) = (refused ≢ Memory) × (word.now ≡ join_word refused)
Tells _ _ = ⊥
