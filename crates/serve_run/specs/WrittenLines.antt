-- The lines that `serve` writes about the gate: red parts that were handed up at a face, and notes.
use Rattle.std.specs.Prelude.{ℕ, List, [], ◌∷◌, ◌++◌, codes}
use Rattle.std.specs.List.{flat_map}
use Rattle.std.specs.Fmt.{decimal}
use Rattle.hex_text.specs.Hex.{encode_lower}
use Rattle.gate_cases.specs.declared.face.Face.{Face}
use Rattle.gate_cases.specs.declared.face.Face.TheVariants.{Old, New}
use Rattle.gateway_core.specs.declared.effects.FaceUp.{FaceUp}
use Rattle.gateway_core.specs.declared.effects.FaceNote.{FaceNote}
use Rattle.replay_script.specs.declared.line.Site.{Site}
use Rattle.replay_script.specs.declared.line.Site.TheVariants as sites
use Rattle.replay_script.specs.Lines.{site_word}
use Rattle.replay_script.specs.NoteLines.{line_of}
use Rattle.gate_lines.specs.GateLines.{gate_note_line}

-- where a line stands that is about a face: `g.o` or `g.n`
abbrev pub site_of : Face → Site
site_of Old = sites.GateOld
site_of New = sites.GateNew

-- a red part was handed up
abbrev pub up_line : FaceUp → List ℕ
up_line up = line_of (codes "up" ∷ site_word (site_of up.face) ∷ decimal up.session ∷ encode_lower up.body ∷ [])

-- a note about a face
abbrev pub face_note_line : FaceNote → List ℕ
face_note_line n = gate_note_line (site_of n.face) n.note

-- the lines of a step: red parts, and then notes
unfoldable pub step_text : List FaceUp → List FaceNote → List ℕ
step_text ups notes = flat_map up_line ups ++ flat_map face_note_line notes
