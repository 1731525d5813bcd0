-- What the loops of the driver do with one piece.
use Rattle.std.specs.Prelude.{◌≡◌, ℕ, List, [], ◌++◌, Option, None, Some}
use Rattle.edge_traits.specs.declared.status.Status.{Status}
use Rattle.edge_traits.specs.declared.status.Status.TheVariants as statuses
use Rattle.edge_traits.specs.Content.{Gains, GainsFront}
use Rattle.edge_traits.specs.Faults.{NoneFailed, LastFailed}
use Rattle.edge_traits.specs.Outcome.{SinkTells, EndsAs}
use Rattle.edge_traits.specs.Settled.{at_end}
use Rattle.command_frame.specs.declared.line_passed.LinePassed.{LinePassed}
use Rattle.command_frame.specs.Task.{Settling, GoesOnTo, Takes}
use Rattle.command_frame.specs.Limits.{Limiting, HasPassed, LeadsOn}

-- ---- the text that is due

-- a text is a front of the text that is due
abbrev pub IsFront : List ℕ → List ℕ → Type 0
IsFront due text = (rest : List ℕ) × (due ≡ text ++ rest)

-- all of it was written, or a front of it, up to a failed write or want of memory
abbrev pub Told : (Later : Type 0) → List ℕ → SinkTells → SinkTells → Option Status → Type 0
Told Later due before now None =
    Later × Gains before.held now.held due × NoneFailed before.calls now.calls
Told Later due before now (Some statuses.WriteFault) = (text : List ℕ) × IsFront due text
    × GainsFront before.held now.held text × LastFailed before.calls now.calls
Told Later due before now (Some statuses.Memory) = (text : List ℕ) × IsFront due text
    × Gains before.held now.held text × NoneFailed before.calls now.calls
Told Later due before now (Some statuses.Done) = ⊥
Told Later due before now (Some statuses.Refused) = ⊥
Told Later due before now (Some statuses.Usage) = ⊥
Told Later due before now (Some statuses.ReadFault) = ⊥
Told Later due before now (Some statuses.Limit) = ⊥

-- ---- a piece

-- the first octets of a piece settle a text that begins with this
pub record SettlesFirst (settles : Settling) (piece text : List ℕ) : Type 0 where
  pub taken : List ℕ
  pub left : List ℕ
  pub parts : piece ≡ taken ++ left
  pub due : List ℕ
  pub later : Settling
  pub goes : GoesOnTo settles taken (text ++ due) later

-- all that the piece settles was written, or up to a failed write or want of memory a front of it
abbrev pub Handed : (Settling → Type 0) → Settling → List ℕ → SinkTells → SinkTells → Option Status → Type 0
Handed Stands settles piece before now None = (text : List ℕ) × Takes Stands settles piece text None
    × Gains before.held now.held text × NoneFailed before.calls now.calls
Handed Stands settles piece before now (Some statuses.WriteFault) = (text : List ℕ) × SettlesFirst settles piece text
    × GainsFront before.held now.held text × LastFailed before.calls now.calls
Handed Stands settles piece before now (Some statuses.Memory) = (text : List ℕ) × SettlesFirst settles piece text
    × Gains before.held now.held text × NoneFailed before.calls now.calls
Handed Stands settles piece before now (Some statuses.Refused) = (text : List ℕ)
    × Takes Stands settles piece text (Some statuses.Refused)
    × Gains before.held now.held text × NoneFailed before.calls now.calls
Handed Stands settles piece before now (Some statuses.Limit) = (text : List ℕ)
    × Takes Stands settles piece text (Some statuses.Limit)
    × Gains before.held now.held text × NoneFailed before.calls now.calls
Handed Stands settles piece before now (Some statuses.Done) = ⊥
Handed Stands settles piece before now (Some statuses.Usage) = ⊥
Handed Stands settles piece before now (Some statuses.ReadFault) = ⊥

-- ---- the end of the input

-- the end, by what it settles: a run that ended so wrote all of the text, or up to a failed write or want of
-- memory a front of it
abbrev pub EndedSo : Status → Settling → SinkTells → SinkTells → Type 0
EndedSo status settles before now =
    EndsAs (settles at_end []) status before.held now.held × NoneFailed before.calls now.calls

abbrev pub HandedEnd : (Began : Type 0) → Settling → SinkTells → SinkTells → Status → Type 0
HandedEnd Began settles before now statuses.Done = EndedSo statuses.Done settles before now
HandedEnd Began settles before now statuses.Refused = EndedSo statuses.Refused settles before now
HandedEnd Began settles before now statuses.Limit = EndedSo statuses.Limit settles before now
HandedEnd Began settles before now statuses.WriteFault =
    GainsFront before.held now.held (settles at_end []).text × LastFailed before.calls now.calls
HandedEnd Began settles before now statuses.Memory =
    Began × GainsFront before.held now.held (settles at_end []).text × NoneFailed before.calls now.calls
HandedEnd Began settles before now statuses.Usage = ⊥
HandedEnd Began settles before now statuses.ReadFault = ⊥

-- ---- the limits on lines

-- the octets of a piece pass no limit, or this one where they end the run with a limit
abbrev pub HandedWithin : (Limiting → Type 0) → Option LinePassed → Limiting → List ℕ → Option Status → Type 0
HandedWithin Awaits passed limits piece None = LeadsOn Awaits passed limits piece
HandedWithin Awaits passed limits piece (Some statuses.Limit) = HasPassed limits piece passed
HandedWithin Awaits passed limits piece (Some statuses.Done) = Unit {0}
HandedWithin Awaits passed limits piece (Some statuses.Refused) = Unit {0}
HandedWithin Awaits passed limits piece (Some statuses.Usage) = Unit {0}
HandedWithin Awaits passed limits piece (Some statuses.ReadFault) = Unit {0}
HandedWithin Awaits passed limits piece (Some statuses.WriteFault) = Unit {0}
HandedWithin Awaits passed limits piece (Some statuses.Memory) = Unit {0}
