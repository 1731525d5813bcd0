-- The lines of the gateway's notes.
use Rattle.std.specs.Prelude.{ℕ, List, [], ◌∷◌, codes}
use Rattle.std.specs.Fmt.{decimal}
use Rattle.gate_cases.specs.Blocks.{word_of as bad_word}
use Rattle.gateway_core.specs.declared.note.GateNote.{GateNote}
use Rattle.gateway_core.specs.declared.note.GateNote.TheVariants as notes
use Rattle.gateway_core.specs.Notes.{gate_note_name}
use Rattle.translate.specs.Refusals.{word_of as refused_word}
use Rattle.replay_script.specs.declared.line.Site.{Site}
use Rattle.replay_script.specs.Lines.{site_word}
use Rattle.replay_script.specs.NoteLines.{line_of, note_details}

-- the words of a note after its name
abbrev pub gate_details : GateNote → List (List ℕ)
gate_details (notes.Engine note) = note_details note
gate_details (notes.BadBundle session at cause) = decimal session ∷ decimal at ∷ bad_word cause ∷ []
gate_details (notes.Untranslated session cause) = decimal session ∷ refused_word cause ∷ []
gate_details (notes.Expired session) = decimal session ∷ []
gate_details (notes.HopLimit session) = decimal session ∷ []
gate_details (notes.Storage session) = decimal session ∷ []
gate_details (notes.Passed session pieces) = decimal session ∷ decimal pieces ∷ []
gate_details (notes.Reported session) = decimal session ∷ []
gate_details (notes.Unreported session) = decimal session ∷ []

-- a note at a site
abbrev pub gate_note_line : Site → GateNote → List ℕ
gate_note_line site note =
    line_of (codes "note" ∷ site_word site ∷ gate_note_name note ∷ gate_details note)
