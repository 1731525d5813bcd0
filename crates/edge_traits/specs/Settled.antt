-- What octets settle of a command's answer: the text that is to be written, and how the run ends.
use Rattle.std.specs.Prelude.{◌≡◌, ℕ, List, [], ◌++◌, Option, None, Some}
use Rattle.edge_traits.specs.declared.status.Status.{Status}

-- some octets are the whole input, or the input goes on after them
pub data Ends : Type 0 where
  at_end : Ends
  goes_on : Ends

-- the text that octets settle, and how the run ends, where they settle that too
pub record Settled : Type 0 where
  pub text : List ℕ
  pub ends : Option Status

abbrev pub nothing_yet : Settled
nothing_yet = record { text = []; ends = None }

-- a text before what is settled
abbrev pub put_before : List ℕ → Settled → Settled
put_before text settled = record { text = text ++ settled.text; ends = settled.ends }

-- ---- fronts

-- What is settled of the octets taken, `earlier`, is a front of what is settled later: its text goes
-- on; and once it settles how the run ends, nothing that follows changes it.
abbrev pub GoesOnAs : Option Status → Settled → Settled → Type 0
GoesOnAs None earlier later = (rest : List ℕ) × (later.text ≡ earlier.text ++ rest)
GoesOnAs (Some status) earlier later = later ≡ earlier

abbrev pub IsFrontOf : Settled → Settled → Type 0
IsFrontOf earlier later = GoesOnAs earlier.ends earlier later

-- The earliest place decides: what octets settle while the input goes on is a front of what they
-- settle with any octets after them.
abbrev pub EarliestDecides : (Ends → List ℕ → Settled) → Type 0
EarliestDecides settles = (ends : Ends) (taken more : List ℕ) → IsFrontOf (settles goes_on taken) (settles ends (taken ++ more))

-- a command that answers nothing before its input ends, by its answer to a whole input
abbrev pub gathered : (List ℕ → Settled) → Ends → List ℕ → Settled
gathered answer at_end input = answer input
gathered answer goes_on taken = nothing_yet
