-- What `join` says of a bundle, beside the fragments that came before it (RFC 5050, section 5.9;
-- RFC 9171, section 5.9).
use Rattle.std.specs.Prelude.{String, ℕ, ◌+◌, ◌<◌, List, ◌++◌, length, codes, Option, Some, None, Result, Ok, Err}
use Rattle.std.specs.String.{string_len, string_capacity}
use Rattle.bundle6.specs.declared.bundle.Bundle6.{Bundle6}
use Rattle.bundle7.specs.declared.bundle.Bundle7.{Bundle7}
use Rattle.bundle_meaning.specs.declared.full.Full.{Full}
use Rattle.translate.specs.declared.refused.Refused.TheVariants.{TooManyBlocks}
use Rattle.translate.specs.Refusals.{first_that_holds, word_of}
use Rattle.translate.specs.Reading6.{refusals6, full6_of}
use Rattle.translate.specs.Reading7.{refusals7, full7_of}
use Rattle.fragments.specs.declared.fault.JoinRefused.{JoinRefused}
use Rattle.fragments.specs.declared.fault.JoinRefused.TheVariants.{NotFragment}
use Rattle.fragments.specs.declared.join.Join.{Join}
use Rattle.fragments.specs.declared.joining.Joined.{Joined}
use Rattle.fragments.specs.declared.joining.Joined.TheVariants as answers
use Rattle.fragments.specs.Again.{answer, after}
use Rattle.fragments.specs.Word.{join_word}
use Rattle.fragment_lines.specs.Said.{Said, says, refuses}
use Rattle.fragment_lines.specs.Lines.{hex_line, spelled_old, spelled_new, unless_refused}

-- the whole as a line, where there is room for its blocks; else the bundle that completes it is refused
abbrev pub said_whole : {S : Type 0} → Option (List ℕ) → S → Said S
said_whole (Some octets) now = says (codes "Whole " ++ hex_line octets) now
said_whole None now = refuses (word_of TooManyBlocks)

-- The line of what the joiner answered. What it refuses has a line as well, and the run goes on.
abbrev pub said_joined : {S : Type 0} → (Full → Option (List ℕ)) → Result Joined JoinRefused → S → Said S
said_joined spelled (Ok answers.Waiting) now = says (codes "Waiting\n") now
said_joined spelled (Ok answers.Repeat) now = says (codes "Repeat\n") now
said_joined spelled (Ok (answers.Whole whole)) now = said_whole (spelled whole) now
said_joined spelled (Err refused) now = says (join_word refused ++ codes "\n") now

-- the line of a bundle that is no fragment, whatever came before it
abbrev pub no_fragment_line : List ℕ
no_fragment_line = join_word NotFragment ++ codes "\n"

-- a text has no room for that line
abbrev pub LacksRoom : {A : Type 0} → String A → Type 0
LacksRoom text = string_capacity text < string_len text + length no_fragment_line

-- a record is taken beside these joins, and the joiner's answer is said
abbrev pub taken_as : (Full → Option (List ℕ)) → List Join → Full → Said (List Join)
taken_as spelled joins full = said_joined spelled (answer joins full) (after joins full)

-- A bundle of version 6 is taken beside these joins; a whole that it completes is of version 6.
unfoldable pub join6 : List Join → Bundle6 → Said (List Join)
join6 joins bundle =
    unless_refused (first_that_holds (refusals6 bundle)) (taken_as spelled_old joins (full6_of bundle))

-- and one of version 7
unfoldable pub join7 : List Join → Bundle7 → Said (List Join)
join7 joins bundle =
    unless_refused (first_that_holds (refusals7 bundle)) (taken_as spelled_new joins (full7_of bundle))
