-- The lines that `node` writes.
use Rattle.std.specs.Prelude.{ℕ, List, [], ◌∷◌, ◌++◌, codes, None}
use Rattle.std.specs.List.{flat_map}
use Rattle.std.specs.Fmt.{decimal}
use Rattle.hex_text.specs.Hex.{encode_lower}
use Rattle.ltp_segment.specs.declared.session.Green.{Green}
use Rattle.ltp_session.specs.Engine.{SubmitFault}
use Rattle.ltp_engine.specs.declared.effects.Up.{Up}
use Rattle.ltp_engine.specs.declared.effects.Effects.{Effects}
use Rattle.ltp_engine.specs.Refused.{submit_word, refusal_of}
use Rattle.replay_script.specs.declared.fault.LineFault.{LineFault}
use Rattle.replay_script.specs.Fault.{word_of}
use Rattle.replay_script.specs.Lines.{bit_word}
use Rattle.replay_script.specs.NoteLines.{line_of, note_line}

-- ---- what an engine does

-- a datagram is sent
abbrev pub out_line : List ℕ → List ℕ
out_line datagram = line_of (codes "out" ∷ encode_lower datagram ∷ [])

-- the words of a line about a red part that is handed up
abbrev pub up_words : Up → List (List ℕ)
up_words up = codes "up" ∷ decimal up.session ∷ encode_lower up.body ∷ []

abbrev pub up_line : Up → List ℕ
up_line up = line_of (up_words up)

-- a piece of a green part is handed up: 1 where the block ends with it, else 0
abbrev pub green_line : Green → List ℕ
green_line g = line_of
    (codes "green" ∷ decimal g.session ∷ decimal g.offset ∷ bit_word g.last ∷ encode_lower g.body ∷ [])

-- what was done: what is sent, red parts, pieces of green parts, and notes
unfoldable pub effects_text : Effects → List ℕ
effects_text e =
    flat_map out_line e.out
    ++ (flat_map up_line e.ups ++ (flat_map green_line e.greens ++ flat_map (note_line None) e.notes))

-- ---- what isn't done

-- a block isn't sent
abbrev pub block_line : SubmitFault → List ℕ
block_line fault = line_of (codes "refused" ∷ submit_word (refusal_of fault) ∷ [])

-- line n is refused
abbrev pub refusal_line : ℕ → LineFault → List ℕ
refusal_line n fault = line_of (codes "refused" ∷ codes "line" ∷ decimal n ∷ word_of fault ∷ [])
