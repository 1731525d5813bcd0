-- Bundles as lines, and the refusals that stand in place of them.
use Rattle.std.specs.Prelude.{◌≡◌, ℕ, if◌then◌else◌, List, ◌++◌, codes, Option, Some, None, Result, Ok, Err}
use Rattle.hex_text.specs.Hex.{encode_lower}
use Rattle.bundle6.specs.Spelling.{canon6}
use Rattle.bundle7.specs.Spelling.{octets7}
use Rattle.bundle_meaning.specs.declared.full.Full.{Full}
use Rattle.translate.specs.declared.refused.Refused.{Refused}
use Rattle.translate.specs.Refusals.{word_of}
use Rattle.translate.specs.View6.{view6_of, fits6}
use Rattle.translate.specs.View7.{view7_of, fits7}
use Rattle.fragments.specs.declared.fault.CutRefused.TheVariants.{MustNot}
use Rattle.fragments.specs.Word.{cut_word}
use Rattle.fragment_lines.specs.declared.turned_down.TurnedDown.{TurnedDown}
use Rattle.fragment_lines.specs.declared.turned_down.TurnedDown.TheVariants as causes
use Rattle.fragment_lines.specs.Said.{Said, says, refuses}

-- octets are a line of hex in lower case
abbrev pub hex_line : List ℕ → List ℕ
hex_line octets = encode_lower octets ++ codes "\n"

-- the octets of the bundle of version 6 that stands for a record, in its canonical spelling; and of
-- version 7, in its one spelling
abbrev pub octets_old : Full → List ℕ
octets_old full = canon6 (view6_of full)

abbrev pub octets_new : Full → List ℕ
octets_new full = octets7 (view7_of full)

-- the same, where there is room for the blocks
abbrev pub spelled_old : Full → Option (List ℕ)
spelled_old full = if fits6 full then Some (octets_old full) else None

abbrev pub spelled_new : Full → Option (List ℕ)
spelled_new full = if fits7 full then Some (octets_new full) else None

-- ---- refusals

-- a bundle that isn't translated is refused; of any other something is said
abbrev pub unless_refused : {S : Type 0} → Option Refused → Said S → Said S
unless_refused None said = said
unless_refused (Some cause) said = refuses (word_of cause)

-- the word of what turns a bundle down
abbrev pub turned_down_word : TurnedDown → List ℕ
turned_down_word (causes.Untranslated cause) = word_of cause
turned_down_word causes.MustNot = cut_word MustNot

-- All of what is said is due; or the bundle is refused.
abbrev pub Owes : {S : Type 0} → Said S → S → Result (List ℕ) TurnedDown → Type 0
Owes said state (Ok due) = said ≡ says due state
Owes said state (Err cause) = said ≡ refuses (turned_down_word cause)

-- It was said, and the state then: text was written, and the rest is due; or a refusal was answered, and
-- nothing was written.
abbrev pub Writes : {S : Type 0} → Said S → (before now : List ℕ) → S → Result (List ℕ) TurnedDown → Type 0
Writes said before now state (Ok due) = (text : List ℕ) × (said ≡ says (text ++ due) state) × (now ≡ before ++ text)
Writes said before now state (Err cause) = (said ≡ refuses (turned_down_word cause)) × (now ≡ before)
