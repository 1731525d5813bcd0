-- Each piece that a run adds stays in its journal until the session ends in whose block it is.

use Rattle.std.specs.Prelude.{◌≡◌, ℕ, ◌<◌, Bool, false, List, [], ◌∷◌, ◌++◌, ◌⊎◌, Option, None, Some, IfSome}
use Rattle.gate_cases.specs.declared.face.Face.{Face}
use Rattle.gateway_core.specs.declared.effects.FaceNote.{FaceNote}
use Rattle.journal_file.specs.declared.kept.Pending.{Pending}
use Rattle.journal_file.specs.declared.record.How.{How}
use Rattle.journal_file.specs.Values.{KeptValue}
use Rattle.journal_file.specs.Keeping.{is_pending}
use Rattle.journal_file.specs.Legal.{IsLegal}
use Rattle.gate_records.specs.Happened.{note_ends}
use Rattle.peer_gateway.specs.Gate.{AddedAt}
use Rattle.peer_records.specs.Happened.{notes_in}
use Rattle.peer_records.specs.Keeping.{times}
use Rattle.peer_records.specs.Records.{ids_of, pending_with}
use Rattle.peer_records.specs.Laws.{IsHeld, IsKeptPiece}
use Rattle.peer_half.specs.Half.{Came}
use Rattle.peer_half.specs.Runs.{Run}
use Rattle.peer_journal_laws.specs.Keeps.{known_after}
use Rattle.peer_journal_laws.specs.Steps.{JournalStep, known_then, steps_of}

-- a piece is among those that are pending
abbrev pub IsAmong : Pending → List Pending → Type 0
IsAmong p [] = ⊥
IsAmong p (first ∷ more) = (p ≡ first) ⊎ IsAmong p more

-- With a step the session ended in whose block the piece of this id was: a note tells of it, and the session isn't
-- open after the step.
pub record EndsPiece (id : ℕ) (step : JournalStep) : Type 0 where
  pub earlier : List FaceNote
  pub note : FaceNote
  pub later : List FaceNote
  pub session : ℕ
  pub how : How
  pub noted : notes_in (step.happened).told ≡ earlier ++ note ∷ later
  pub tells : note_ends note.note ≡ Some (session, how)
  pub closed : (step.happened).is_open note.face session ≡ false
  pub has : 0 < times id (ids_of note.face session (step.keeping).named)

-- with one of some steps
abbrev pub IsEnded : ℕ → List JournalStep → Type 0
IsEnded id [] = ⊥
IsEnded id (step ∷ more) = EndsPiece id step ⊎ IsEnded id more

-- ---- pieces of this run

-- A piece that was added with a step: it is pending then, under an id that waits or is in a session. And it is pending
-- in what is kept, or with a later step its session ended.
pub record IsPieceKept (a : AddedAt) (step : JournalStep) (later : List JournalStep)
    (kept : KeptValue) : Type 0 where
  pub piece : IsKeptPiece a (known_then step)
  pub stays : IsAmong (pending_with piece.id a) kept.pending ⊎ IsEnded piece.id later

-- So it is with each piece that a step of a run with a journal adds, once the records of the step's half or of a
-- later one are committed, and so at each datagram from then on.
abbrev pub KeepsPieces : Run → Face → Came → KeptValue → Type 0
KeepsPieces r face came kept =
    (earlier : List JournalStep) (step : JournalStep) (later : List JournalStep)
    → steps_of face came r ≡ earlier ++ step ∷ later → (step.happened).again ≡ None
    → (before : List AddedAt) (a : AddedAt) (after : List AddedAt)
    → (step.happened).added ≡ before ++ a ∷ after → a.is_report ≡ false
    → IsPieceKept a step later kept

abbrev pub PiecesAreKept : Type 0
PiecesAreKept =
    (r : Run) (face : Face) (came : Came) (kept : KeptValue)
    → known_after face came r ≡ Some kept → KeepsPieces r face came kept

-- ---- each at one place

-- After each step of a run an id waits at one face, or is in one session, or neither: never two of these, and never
-- twice. While it does, its piece is pending. So no piece is in two blocks.
abbrev pub HeldOnceInRuns : Type 0
HeldOnceInRuns =
    (r : Run) (face : Face) (came : Came) → IfSome r.kept IsLegal
    → (earlier : List JournalStep) (step : JournalStep) (later : List JournalStep)
    → steps_of face came r ≡ earlier ++ step ∷ later → (id : ℕ) → IsHeld (known_then step) id

-- ---- pieces of earlier runs

-- what is pending in what is kept, where something is
abbrev pub pending_of : Option KeptValue → List Pending
pending_of None = []
pending_of (Some kept) = kept.pending

-- Each that was pending when the run began is pending in what is kept, or with a step of the run its session ended.
abbrev pub KeepsEarlier : Run → Face → Came → KeptValue → Type 0
KeepsEarlier r face came kept =
    (p : Pending) → IsAmong p (pending_of r.kept)
    → IsAmong p kept.pending ⊎ IsEnded p.id (steps_of face came r)

abbrev pub EarlierAreKept : Type 0
EarlierAreKept =
    (r : Run) (face : Face) (came : Came) (kept : KeptValue)
    → known_after face came r ≡ Some kept → KeepsEarlier r face came kept

-- ---- pieces whose session ended

-- Once a step of a run has ended the session of a piece's block, the piece is pending no longer in what is kept, from
-- the end of the step's half on: no later run adds it again. So it is with each piece of a block.
abbrev pub EndedAreGone : Type 0
EndedAreGone =
    (r : Run) (face : Face) (came : Came) (kept : KeptValue)
    → IfSome r.kept IsLegal → known_after face came r ≡ Some kept
    → (earlier : List JournalStep) (step : JournalStep) (later : List JournalStep)
    → steps_of face came r ≡ earlier ++ step ∷ later
    → (id : ℕ) → EndsPiece id step → is_pending id kept.pending ≡ false
