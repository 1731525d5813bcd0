-- A run, and then another.

use Rattle.std.proofs.Common.{◌≡◌, List, [], ◌∷◌, ◌++◌, refl, sym, ◌∙◌, ap, subst}
use Rattle.std.proofs.lemmas.List.{append_assoc}
use Rattle.ltp_laws.specs.View.{IsIn}
use Rattle.path_laws.specs.declared.effects.NoteAt.{NoteAt}
use Rattle.path_laws.specs.Path.{PathSetup, Path, PathEvent, path_run, path_step}
use Rattle.path_laws.specs.Places.{face_place}
use Rattle.path_laws.proofs.LogLemmas.{in-left, in-right}
use Rattle.path_drain.specs.Pieces.{case_at}
use Rattle.path_drain.proofs.CaseNotes.{path-notes}
use Rattle.path_drain.specs.Completion.{IsCaseNotedIn}
use Rattle.path_drain.specs.Effects.{notes_in}
use Rattle.path_drain.proofs.CompletionLemmas.{cases-noted}
use Rattle.path_drain.proofs.WholeLemmas.{ups-append, begun-append}
use Rattle.path_drain.specs.Runs.{CaseNotesStandInRuns, CasesAreNotedInRuns, RunsGoOn}

pub run-append : (s : PathSetup) (w : Path) (xs ys : List PathEvent)
    → path_run s w (xs ++ ys) ≡ path_run s (path_run s w xs) ys
unfolding path_run
run-append s w [] ys = refl
run-append s w (x ∷ xs) ys = run-append s (path_step s w x).path xs ys

notes-append : (s : PathSetup) (w : Path) (xs ys : List PathEvent)
    → notes_in s w (xs ++ ys) ≡ notes_in s w xs ++ notes_in s (path_run s w xs) ys
unfolding notes_in path_run
notes-append s w [] ys = refl
notes-append s w (x ∷ xs) ys =
    ap (λ (ns : List NoteAt). (path_step s w x).effects.notes ++ ns)
    (notes-append s (path_step s w x).path xs ys)
    ∙ sym (append_assoc (path_step s w x).effects.notes (notes_in s (path_step s w x).path xs)
    (notes_in s (path_run s (path_step s w x).path xs) ys))

pub go-on : RunsGoOn
go-on s w events made = record {
  leads = run-append s w events made;
  begun = begun-append s w events made;
  ups = ups-append s w events made;
  notes = notes-append s w events made;
}

pub noted-in-runs : CasesAreNotedInRuns
noted-in-runs = cases-noted path-notes

-- the note of an event is one of the run
pub notes-stand : CaseNotesStandInRuns
unfolding notes_in
notes-stand s w events face up case =
    subst (λ (es : List PathEvent). IsIn (case_note_of case) (notes_in s w es)) (sym case.among)
    (subst (λ (ns : List NoteAt). IsIn (case_note_of case) ns)
    (sym (notes-append s w case.earlier (case.event ∷ case.later)))
    (in-right (case_note_of case) (notes_in s w case.earlier)
    (notes_in s (path_run s w case.earlier) (case.event ∷ case.later))
    (in-left (case_note_of case)
    (path_step s (path_run s w case.earlier) case.event).effects.notes
    (notes_in s (path_step s (path_run s w case.earlier) case.event).path case.later)
    case.noted)))
  where
    case_note_of : IsCaseNotedIn s w events face up → NoteAt
    case_note_of c = record {
      place = face_place face;
      note = case_at s.gate face (path_run s w c.earlier).now up.session up.body
          (path_run s w c.earlier).gate;
    }
