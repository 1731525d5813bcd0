-- What a line of a recording says.

use Rattle.std.specs.Prelude.{ℕ, Bool, true, false, List, [], ◌∷◌, codes, Option, None, Some}
use Rattle.std.specs.Prelude.{Result, Ok, Err, if◌then◌else◌}
use Rattle.ltp_audit.specs.declared.entry.Entry.{Entry}
use Rattle.replay_script.specs.declared.fault.LineFault.{LineFault}
use Rattle.replay_script.specs.declared.fault.LineFault.TheVariants as faults
use Rattle.replay_script.specs.Words.{words_of, is_word}
use Rattle.replay_script.specs.Events.{hex_of, or_fault}

-- a datagram that left the engine, or came to it, in hex
abbrev pub entry_of_hex : Bool → List ℕ → Result Entry LineFault
entry_of_hex out hex =
    or_fault (hex_of hex) faults.Hex (λ octets. Ok (record { out = out; datagram = octets }))

-- the first of two words says whether it left
abbrev pub side_of : List ℕ → Option Bool
side_of word =
    if is_word word (codes "in") then Some false
    else if is_word word (codes "out") then Some true
    else None

abbrev pub entry_in : List ℕ → List ℕ → Result Entry LineFault
entry_in side hex = or_fault (side_of side) faults.Word (λ out. entry_of_hex out hex)

-- two words, where there are just so many
abbrev pub two_words : List (List ℕ) → Option (List ℕ × List ℕ)
two_words [] = None
two_words (first ∷ []) = None
two_words (first ∷ second ∷ []) = Some (first, second)
two_words (first ∷ second ∷ third ∷ words) = None

abbrev pub entry_by : Option (List ℕ × List ℕ) → Result Entry LineFault
entry_by None = Err faults.Word
entry_by (Some words) = entry_in words.0 words.1

-- what a line says
unfoldable pub entry_of : List ℕ → Result Entry LineFault
entry_of line = entry_by (two_words (words_of line))
