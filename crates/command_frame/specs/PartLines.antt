-- A command that answers line by line, and hands on in parts a text that is too long to be kept whole.
use Rattle.std.specs.Prelude.{◌≡◌, ℕ, ◌<◌, List, [], Bool, true, false, Option, None, Some}
use Rattle.edge_traits.specs.declared.status.Status.{Status}
use Rattle.command_frame.specs.declared.turned.Turned.{Turned}
use Rattle.command_frame.specs.declared.turned.Turned.TheVariants.{Passes, Owes, Ends}
use Rattle.command_frame.specs.Task.{Settling, Feeds}
use Rattle.command_frame.specs.declared.line_passed.LinePassed.{LinePassed}
use Rattle.command_frame.specs.Limits.{Limiting, HasPassed, LeadsOn}
use Rattle.command_frame.specs.PartTask.{Owing, Awaiting}
use Rattle.command_frame.specs.Lines.{Turn, TurnsAs}

-- a line was answered as is due: its text was added, or no text was added and all of it is due
abbrev pub TurnsPart : {S : Type 0} → (List ℕ → S → Type 0) → Turn S → List ℕ → List ℕ → Turned → Type 0
TurnsPart Shows turn before now Passes = TurnsAs (Shows []) turn before now None
TurnsPart Shows turn before now Owes = (now ≡ before) × ((due : List ℕ) × TurnsAs (Shows due) turn [] due None)
TurnsPart Shows turn before now (Ends status) = TurnsAs (Shows []) turn before now (Some status)

-- whether there is one more part was answered, and then there can be fewer than before
abbrev pub LeavesLess : ℕ → ℕ → Bool → Type 0
LeavesLess before now true = (0 < now) × (now < before)
LeavesLess before now false = now ≡ 0

-- ---- what only ties code to these

-- the octets of a line were fed, and its text was added; or no text was, and all of it is due
abbrev pub FeedsLine : Owing → Settling → List ℕ → List ℕ → List ℕ → Turned → Type 0
FeedsLine Stands settles piece before now Passes = Feeds (Stands []) settles piece before now None
FeedsLine Stands settles piece before now Owes = (now ≡ before) × ((due : List ℕ) × Feeds (Stands due) settles piece [] due None)
FeedsLine Stands settles piece before now (Ends status) = Feeds (Stands []) settles piece before now (Some status)

-- the octets of a line pass no limit, or this one where they end the run
abbrev pub FeedsWithin : Awaiting → Option LinePassed → Limiting → List ℕ → Turned → Type 0
FeedsWithin Awaits passed limits piece Passes = LeadsOn (Awaits []) passed limits piece
FeedsWithin Awaits passed limits piece Owes = (due : List ℕ) × LeadsOn (Awaits due) passed limits piece
FeedsWithin Awaits passed limits piece (Ends status) = HasPassed limits piece passed

-- the octets of a line that hasn't ended pass no limit, or this one where they end the run
abbrev pub KeepsWithin : (Limiting → Type 0) → Option LinePassed → Limiting → List ℕ → Option Status → Type 0
KeepsWithin Awaits passed limits piece None = LeadsOn Awaits passed limits piece
KeepsWithin Awaits passed limits piece (Some status) = HasPassed limits piece passed
