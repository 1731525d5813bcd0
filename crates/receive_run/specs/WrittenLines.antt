-- The lines that `receive` writes.
use Rattle.std.specs.Prelude.{ℕ, List, [], ◌∷◌, codes}
use Rattle.std.specs.Fmt.{decimal}
use Rattle.hex_text.specs.Hex.{encode_lower}
use Rattle.edge_traits.specs.Content.{joined}
use Rattle.ltp_segment.specs.declared.fault.SegmentCause.{SegmentCause}
use Rattle.ltp_segment.specs.Cause.{word_of}
use Rattle.ltp_session.specs.declared.name.SessionName.{SessionName}
use Rattle.receive_run.specs.Session.{Reply, nothing, up, note, skip}

-- the red part of a session is handed up
abbrev pub up_line : SessionName → List ℕ → List ℕ
up_line name body = joined
    (codes "up " ∷ decimal name.originator ∷ codes " " ∷ decimal name.number ∷ codes " "
    ∷ encode_lower body ∷ codes "\n" ∷ [])

-- the piece of line n can't be one of its red part
abbrev pub note_line : ℕ → List ℕ
note_line n = joined (codes "note " ∷ decimal n ∷ codes " BadBounds\n" ∷ [])

-- line n is skipped
abbrev pub skip_line : ℕ → List ℕ
skip_line n = joined (codes "skip " ∷ decimal n ∷ codes "\n" ∷ [])

-- line n is no hex
abbrev pub hex_line : ℕ → List ℕ
hex_line n = joined (codes "refused line " ∷ decimal n ∷ codes " Hex\n" ∷ [])

-- line n is refused at a place, for the cause of this word
abbrev pub refusal_line : ℕ → ℕ → List ℕ → List ℕ
refusal_line n at word = joined
    (codes "refused line " ∷ decimal n ∷ codes " " ∷ decimal at ∷ codes " " ∷ word ∷ codes "\n" ∷ [])

-- the datagram of line n is no segment
abbrev pub cause_line : ℕ → ℕ → SegmentCause → List ℕ
cause_line n at cause = refusal_line n at (word_of cause)

-- the line for what the piece of line n brings about, where one is due
abbrev pub reply_line : ℕ → Reply → List ℕ
reply_line n nothing = []
reply_line n (up name body) = up_line name body
reply_line n note = note_line n
reply_line n skip = skip_line n
