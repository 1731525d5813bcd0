-- Which limit on lines an input passes, of a command that answers line by line.
use Rattle.std.specs.Prelude.{◌≡◌, ℕ, ◌+◌, ◌||◌, nat_lt, List, [], ◌∷◌, ◌++◌, length, take, false, Option, None, Some, if◌then◌else◌}
use Rattle.edge_traits.specs.declared.status.Status.{Status}
use Rattle.edge_traits.specs.declared.status.Status.TheVariants as statuses
use Rattle.edge_traits.specs.Settled.{Ends, at_end, goes_on}
use Rattle.command_frame.specs.declared.line_passed.LinePassed.{LinePassed}
use Rattle.command_frame.specs.declared.line_passed.LinePassed.TheVariants.{Lines, Length, Own}
use Rattle.command_frame.specs.declared.turned.Turned.{Turned}
use Rattle.command_frame.specs.declared.turned.Turned.TheVariants as turned
use Rattle.command_frame.specs.InputLines.{lines_of, ended_part, open_part}
use Rattle.command_frame.specs.Lines.{Turn, passes, ends_run, LineRules, opens_past}

-- which limit octets pass, if any, by whether the input ends after them
abbrev pub Limiting : Type 0
Limiting = Ends → List ℕ → Option LinePassed

-- ---- one line

-- the limit of line n where it is one too many, or too long
abbrev pub past_limit : {S : Type 0} → LineRules S → ℕ → Option LinePassed
past_limit rules n = if nat_lt rules.lines n then Some Lines else Some (Length n)

-- line n, within those limits, ends the run so: it passes a limit of the command's own, or none
abbrev pub own_limit : ℕ → Status → Option LinePassed
own_limit n statuses.Done = None
own_limit n statuses.Refused = None
own_limit n statuses.Usage = None
own_limit n statuses.ReadFault = None
own_limit n statuses.WriteFault = None
own_limit n statuses.Limit = Some (Own n)
own_limit n statuses.Memory = None

-- what line n brings about: the limit that what follows it passes, or the one that ends the run
abbrev pub after_line : {S : Type 0} → ℕ → Turn S → (S → Option LinePassed) → Option LinePassed
after_line n (passes text state) later = later state
after_line n (ends_run text status) later = own_limit n status

-- the limit that line n passes, or what follows it
unfoldable pub limit_at : {S : Type 0} → LineRules S → ℕ → S → List ℕ → (S → Option LinePassed)
    → Option LinePassed
limit_at rules n state line later =
    if nat_lt rules.lines n || nat_lt rules.octets (length line) then past_limit rules n
    else after_line n (rules.step n state line) later

-- ---- line by line

-- the limit that the lines pass from line n on; `last` is the one that is passed after them
unfoldable pub lines_pass : {S : Type 0} → LineRules S → ℕ → S → List (List ℕ) → (last : Option LinePassed)
    → Option LinePassed
lines_pass rules n state [] last = last
lines_pass rules n state (line ∷ lines) last =
    limit_at rules n state line (λ now. lines_pass rules (n + 1) now lines last)

-- the first octets of line n, which hasn't ended, pass a limit
abbrev pub open_limit : {S : Type 0} → LineRules S → ℕ → List ℕ → Option LinePassed
open_limit rules n first = if opens_past rules n first then past_limit rules n else None

-- the limit that octets pass from line n on: each line that has ended, and at the end of the input
-- the last one, which may lack its line feed
unfoldable pub limits_from : {S : Type 0} → LineRules S → ℕ → S → Limiting
limits_from rules n state at_end input = lines_pass rules n state (lines_of input) None
limits_from rules n state goes_on taken = lines_pass rules n state (lines_of (ended_part taken))
    (open_limit rules (n + length (lines_of (ended_part taken))) (open_part taken))

-- the limit that octets pass of a command that answers line by line, from this state
abbrev pub limits_by_lines : {S : Type 0} → LineRules S → S → Limiting
limits_by_lines rules start = limits_from rules 1 start

-- the limit that an input passes of a command that looks at no more than so many octets: of more
-- the one that the first so many pass
unfoldable pub limits_within : ℕ → Limiting → List ℕ → Option LinePassed
limits_within most limits input =
    if nat_lt most (length input) then limits goes_on (take most input) else limits at_end input

-- ---- what only ties code to these

-- a reader's line brought this about: the limit that it passed, where it ended the run
abbrev pub turned_limit : ℕ → Turned → Option LinePassed
turned_limit n turned.Passes = None
turned_limit n turned.Owes = None
turned_limit n (turned.Ends status) = own_limit n status

-- octets passed this, whatever follows
abbrev pub HasPassed : Limiting → List ℕ → Option LinePassed → Type 0
HasPassed limits piece limit = (ends : Ends) (more : List ℕ) → limits ends (piece ++ more) ≡ limit

-- a task passed no limit so far, and octets still to come pass these
pub record IsWithin (Awaits : Limiting → Type 0) (passed : Option LinePassed) (limits : Limiting) : Type 0 where
  pub awaits : Awaits limits
  pub none : passed ≡ None
  pub quiet : limits goes_on [] ≡ None

-- octets pass no limit, and what follows passes what `later` has
pub record LeadsOn (Awaits : Limiting → Type 0) (passed : Option LinePassed) (limits : Limiting) (piece : List ℕ) : Type 0 where
  pub later : Limiting
  pub within : IsWithin Awaits passed later
  pub leads : (ends : Ends) (more : List ℕ) → limits ends (piece ++ more) ≡ later ends more

-- the input ended with octets that pass no limit; after them is passed what an input without octets
-- passes from there
pub record EndsWithin (Awaits : Limiting → Type 0) (limits : Limiting) : Type 0 where
  pub later : Limiting
  pub awaits : Awaits later
  pub ends : limits at_end [] ≡ later at_end []

-- a reader of lines stands in line `number`, of which these octets came, and passed no limit
pub record InLimits {S : Type 0} (rules : LineRules S) (Shows : S → Type 0) (number : ℕ) (rest : List ℕ)
    (passed : Option LinePassed) (limits : Limiting) : Type 0 where
  pub state : S
  pub shows : Shows state
  pub plain : ended_part rest ≡ []
  pub inside : opens_past rules number rest ≡ false
  pub none : passed ≡ None
  pub is : (ends : Ends) (more : List ℕ) → limits ends more ≡ limits_from rules number state ends (rest ++ more)
