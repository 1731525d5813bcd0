-- The lines of an engine's notes (RFC 5326).
use Rattle.std.specs.Prelude.{ℕ, List, [], ◌∷◌, ◌++◌, codes, Option}
use Rattle.std.specs.Fmt.{decimal}
use Rattle.ltp_segment.specs.declared.session.Note.{Note}
use Rattle.ltp_segment.specs.declared.session.Note.TheVariants as notes
use Rattle.ltp_segment.specs.Notes.{note_name}
use Rattle.ltp_segment.specs.Cause.{word_of as cause_word}
use Rattle.replay_script.specs.declared.line.Site.{Site}
use Rattle.replay_script.specs.Words.{spaced}
use Rattle.replay_script.specs.Lines.{if_site, numbers, if_word}
use Rattle.replay_script.specs.declared.notes.NoteDetails.{NoteDetails}

-- a line of these words
abbrev pub line_of : List (List ℕ) → List ℕ
line_of words = spaced words ++ codes "\n"

-- the words of a note after its name
abbrev pub note_details : Note → List (List ℕ)
note_details (notes.Sent session) = decimal session ∷ []
note_details (notes.Failed session reason) = decimal session ∷ decimal reason ∷ []
note_details (notes.Refused session service) = decimal session ∷ decimal service ∷ []
note_details (notes.Cancelled session reason) = decimal session ∷ decimal reason ∷ []
note_details (notes.Evicted session) = decimal session ∷ []
note_details notes.Stranger = []
note_details (notes.BadSegment at cause) = decimal at ∷ cause_word cause ∷ []
note_details (notes.BadBounds session) = decimal session ∷ []
note_details (notes.Closed session) = decimal session ∷ []
note_details (notes.HistoryFull session) = decimal session ∷ []

-- a note, at a site where there are several
abbrev pub note_line : Option Site → Note → List ℕ
note_line site note =
    line_of (codes "note" ∷ (if_site site ++ note_name note ∷ note_details note))

-- the words that the code keeps for a note
abbrev pub detail_words : NoteDetails → List (List ℕ)
detail_words d = numbers d.first d.second ++ if_word d.word
