-- A command that hands on in parts the text that its octets settle.
use Rattle.std.specs.Prelude.{◌≡◌, ℕ, ◌<◌, ◌≤◌, List, [], ◌++◌, length, take, Bool, true, false, Option, None, Some}
use Rattle.command_frame.specs.declared.part_task.Taken.{Taken}
use Rattle.command_frame.specs.declared.part_task.Taken.TheVariants.{All, Due, Ends}
use Rattle.command_frame.specs.declared.turned.Turned.{Turned}
use Rattle.command_frame.specs.declared.turned.Turned.TheVariants as turned
use Rattle.edge_traits.specs.Settled.{at_end, put_before}
use Rattle.command_frame.specs.Stops.{IsStop}
use Rattle.command_frame.specs.declared.line_passed.LinePassed.{LinePassed}
use Rattle.command_frame.specs.Task.{Settling, Takes, Finishes}
use Rattle.command_frame.specs.Limits.{Limiting, HasPassed, LeadsOn, EndsWithin}

-- how a task stands: this text is due, and after it the octets still to come settle that
abbrev pub Owing : Type 1
Owing = List ℕ → Settling → Type 0

-- all octets of a piece were taken, or so many, which settle text that is due beside this, or as many
-- as settle how the run ends
abbrev pub TakesPart : Owing → Settling → List ℕ → List ℕ → Taken → Type 0
TakesPart Stands settles piece text All = Takes (Stands []) settles piece text None
TakesPart Stands settles piece text (Due used) =
    (due : List ℕ) × Takes (Stands due) settles (take used piece) (text ++ due) None
TakesPart Stands settles piece text (Ends status) = Takes (Stands []) settles piece text (Some status)

-- octets of a piece were taken, and text that they settle was added to the text before
pub record FeedsPart (Stands : Owing) (settles : Settling) (piece before now : List ℕ) (taken : Taken) : Type 0 where
  pub text : List ℕ
  pub added : now ≡ before ++ text
  pub takes : TakesPart Stands settles piece text taken

-- After all octets of a piece no part is due. Where text is due, an octet at least was taken, and there
-- is a part at least.
abbrev pub LeavesDue : List ℕ → ℕ → Taken → Type 0
LeavesDue piece parts All = parts ≡ 0
LeavesDue piece parts (Due used) = (0 < used) × (used ≤ length piece) × (0 < parts)
LeavesDue piece parts (Ends status) = Unit {0}

-- a part of the text that is due was added to the text before, and the rest of it is due, if any
pub record TellsPart {S : Type 0} (Stands : List ℕ → S → Type 0) (state : S) (due before now : List ℕ) (more : Bool) : Type 0 where
  pub part : List ℕ
  pub rest : List ℕ
  pub added : now ≡ before ++ part
  pub parts : due ≡ part ++ rest
  pub stands : Stands rest state
  pub last : more ≡ false → rest ≡ []

-- a part is due at least, or none
abbrev pub IsDue : Bool → ℕ → Type 0
IsDue true parts = 0 < parts
IsDue false parts = parts ≡ 0

-- there can be fewer parts than before, and whether there is one more was answered
abbrev pub LeavesFewer : ℕ → ℕ → Bool → Type 0
LeavesFewer before now more = (now < before) × IsDue more now

-- ---- the last octets

-- the input ended with octets that settle this text, which was added to the text before; after it is settled
-- what an input without octets settles from there
pub record EndsOn (Stands : Settling → Type 0) (settles : Settling) (before now : List ℕ) : Type 0 where
  pub text : List ℕ
  pub later : Settling
  pub added : now ≡ before ++ text
  pub stands : Stands later
  pub ends : settles at_end [] ≡ put_before text (later at_end [])

-- the input ended, and with it octets that were kept: their text was added, or no text was added and all of
-- it is due, or they settle how the run ends
abbrev pub TakesLast : Owing → Settling → List ℕ → List ℕ → Turned → Type 0
TakesLast Stands settles before now turned.Passes = EndsOn (Stands []) settles before now
TakesLast Stands settles before now turned.Owes = (now ≡ before) × ((due : List ℕ) × EndsOn (Stands due) settles [] due)
TakesLast Stands settles before now (turned.Ends status) = Finishes settles before now status

-- After octets whose text was added no part is due, and where their text is due there is a part at least.
-- They end the run with a refusal or a limit.
abbrev pub LeavesTurn : ℕ → Turned → Type 0
LeavesTurn parts turned.Passes = parts ≡ 0
LeavesTurn parts turned.Owes = 0 < parts
LeavesTurn parts (turned.Ends status) = IsStop status

-- memory is wanted after them only of a task whose end might want it before
abbrev pub BeganBefore : Type 0 → Type 0 → Turned → Type 0
BeganBefore Before Now turned.Passes = Now → Before
BeganBefore Before Now turned.Owes = Before
BeganBefore Before Now (turned.Ends status) = Unit {0}

-- ---- the limits on lines

-- how a task stands to them: this text is due, and the octets still to come pass these
abbrev pub Awaiting : Type 1
Awaiting = List ℕ → Limiting → Type 0

-- the octets of a piece that were taken pass no limit, or this one where they end the run
abbrev pub TakesWithin : Awaiting → Option LinePassed → Limiting → List ℕ → Taken → Type 0
TakesWithin Awaits passed limits piece All = LeadsOn (Awaits []) passed limits piece
TakesWithin Awaits passed limits piece (Due used) =
    (due : List ℕ) × LeadsOn (Awaits due) passed limits (take used piece)
TakesWithin Awaits passed limits piece (Ends status) = HasPassed limits piece passed

-- the input ended, and with it octets that were kept: they pass no limit, or this one
abbrev pub LastWithin : Awaiting → Option LinePassed → Limiting → Turned → Type 0
LastWithin Awaits passed limits turned.Passes = EndsWithin (Awaits []) limits
LastWithin Awaits passed limits turned.Owes = (due : List ℕ) × EndsWithin (Awaits due) limits
LastWithin Awaits passed limits (turned.Ends status) = limits at_end [] ≡ passed
