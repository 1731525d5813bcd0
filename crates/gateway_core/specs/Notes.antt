-- The names of the gateway's notes.

use Rattle.std.specs.Prelude.{ℕ, List, codes}
use Rattle.ltp_segment.specs.Notes.{note_name}
use Rattle.gateway_core.specs.declared.note.GateNote.{GateNote}
use Rattle.gateway_core.specs.declared.note.GateNote.TheVariants as notes

-- an engine's note keeps its own name
abbrev pub gate_note_name : GateNote → List ℕ
gate_note_name (notes.Engine note) = note_name note
gate_note_name (notes.BadBundle session at cause) = codes "BadBundle"
gate_note_name (notes.Untranslated session cause) = codes "Untranslated"
gate_note_name (notes.Expired session) = codes "Expired"
gate_note_name (notes.HopLimit session) = codes "HopLimit"
gate_note_name (notes.Storage session) = codes "Storage"
gate_note_name (notes.Passed session pieces) = codes "Passed"
gate_note_name (notes.Reported session) = codes "Reported"
gate_note_name (notes.Unreported session) = codes "Unreported"
