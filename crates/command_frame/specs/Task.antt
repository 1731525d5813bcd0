-- A command that is answered as its input comes, by what the octets still to come settle.
use Rattle.std.specs.Prelude.{◌≡◌, ℕ, ◌<◌, List, [], ◌++◌, length, Option, None, Some}
use Rattle.edge_traits.specs.declared.status.Status.{Status}
use Rattle.edge_traits.specs.Settled.{Ends, at_end, goes_on, Settled, nothing_yet, put_before}
use Rattle.command_frame.specs.Stops.{IsStop}

-- what octets settle, by whether the input ends after them
abbrev pub Settling : Type 0
Settling = Ends → List ℕ → Settled

-- nothing is settled before octets come
abbrev pub IsQuiet : Settling → Type 0
IsQuiet settles = settles goes_on [] ≡ nothing_yet

-- an input without octets has an answer that writes something
abbrev pub WritesOfNothing : Settling → Type 0
WritesOfNothing settles = 0 < length (settles at_end []).text

-- how the run ends is settled, whatever follows
abbrev pub over : Status → Settling
over status ends more = record { text = []; ends = Some status }

-- octets settle this text, and from there what follows settles as `later` has it
abbrev pub GoesOnTo : Settling → List ℕ → List ℕ → Settling → Type 0
GoesOnTo settles piece text later =
    (ends : Ends) (more : List ℕ) → settles ends (piece ++ more) ≡ put_before text (later ends more)

-- a task goes on after octets, by what it stands for then; or they settle how the run ends
abbrev pub Takes : (Settling → Type 0) → Settling → List ℕ → List ℕ → Option Status → Type 0
Takes Stands settles piece text None =
    (later : Settling) × Stands later × IsQuiet later × GoesOnTo settles piece text later
Takes Stands settles piece text (Some status) = IsStop status × GoesOnTo settles piece text (over status)

-- octets were fed to a task, and the text that they settle was added to the text before
pub record Feeds (Stands : Settling → Type 0) (settles : Settling) (piece before now : List ℕ) (ends : Option Status) : Type 0 where
  pub text : List ℕ
  pub added : now ≡ before ++ text
  pub takes : Takes Stands settles piece text ends

-- the input ended, and the text that this settles was added to the text before
pub record Finishes (settles : Settling) (before now : List ℕ) (status : Status) : Type 0 where
  pub text : List ℕ
  pub added : now ≡ before ++ text
  pub ends : settles at_end [] ≡ record { text = text; ends = Some status }
