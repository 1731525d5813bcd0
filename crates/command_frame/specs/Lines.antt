-- A command that answers line by line.
use Rattle.std.specs.Prelude.{◌≡◌, ℕ, ◌+◌, ◌&&◌, ◌||◌, nat_lt, List, [], ◌∷◌, ◌++◌, length, Option, None, Some, if◌then◌else◌, Bool, false}
use Rattle.edge_traits.specs.declared.status.Status.{Status}
use Rattle.edge_traits.specs.declared.status.Status.TheVariants as statuses
use Rattle.edge_traits.specs.Settled.{Ends, at_end, goes_on, Settled, nothing_yet, put_before}
use Rattle.command_frame.specs.InputLines.{lines_of, ended_part, open_part}
use Rattle.command_frame.specs.Task.{Settling}

-- a line's answer: its text and the state after it; or its text, and how the run ends with it
pub data Turn (S : Type 0) : Type 0 where
  passes : List ℕ → S → Turn S
  ends_run : List ℕ → Status → Turn S

-- the most lines, and the most octets of one; what a line of this number brings about within those
-- limits; and what the end of the input settles after the last line
pub record LineRules (S : Type 0) : Type 0 where
  pub lines : ℕ
  pub octets : ℕ
  pub step : ℕ → S → List ℕ → Turn S
  pub finish : S → Settled

-- the answer to line n: one too many, or too long, ends the run
unfoldable pub turn_at : {S : Type 0} → LineRules S → ℕ → S → List ℕ → Turn S
turn_at rules n state line =
    if nat_lt rules.lines n || nat_lt rules.octets (length line) then ends_run [] statuses.Limit
    else rules.step n state line

abbrev pub after_turn : {S : Type 0} → Turn S → (S → Settled) → Settled
after_turn (passes text state) later = put_before text (later state)
after_turn (ends_run text status) later = record { text = text; ends = Some status }

-- what the lines settle from line n on; `ending` is what is settled after the last of them
unfoldable pub lines_settle : {S : Type 0} → LineRules S → ℕ → S → List (List ℕ) → (S → Settled) → Settled
lines_settle rules n state [] ending = ending state
lines_settle rules n state (line ∷ lines) ending =
    after_turn (turn_at rules n state line) (λ now. lines_settle rules (n + 1) now lines ending)

-- the first octets of line n, which hasn't ended, pass a limit: it is one line too many, or too
-- long
abbrev pub opens_past : {S : Type 0} → LineRules S → ℕ → List ℕ → Bool
opens_past rules n first =
    (nat_lt rules.lines n && nat_lt 0 (length first)) || nat_lt rules.octets (length first)

abbrev pub open_ending : {S : Type 0} → LineRules S → ℕ → List ℕ → Settled
open_ending rules n first =
    if opens_past rules n first then record { text = []; ends = Some statuses.Limit } else nothing_yet

-- what octets settle from line n on: each line that has ended, and at the end of the input the last
-- one, which may lack its line feed
unfoldable pub lines_from : {S : Type 0} → LineRules S → ℕ → S → Settling
lines_from rules n state at_end input = lines_settle rules n state (lines_of input) rules.finish
lines_from rules n state goes_on taken = lines_settle rules n state (lines_of (ended_part taken))
    (λ now. open_ending rules (n + length (lines_of (ended_part taken))) (open_part taken))

-- what octets settle of a command that answers line by line, from this state
abbrev pub by_lines : {S : Type 0} → LineRules S → S → Settling
by_lines rules start = lines_from rules 1 start

-- ---- what only ties code to these

-- the code answered a line as is due: its text was added, and the run goes on or ends
abbrev pub TurnsAs : {S : Type 0} → (S → Type 0) → Turn S → List ℕ → List ℕ → Option Status → Type 0
TurnsAs Shows (passes text state) before now None = (now ≡ before ++ text) × Shows state
TurnsAs Shows (passes text state) before now (Some status) = ⊥
TurnsAs Shows (ends_run text due) before now (Some status) = (now ≡ before ++ text) × (status ≡ due)
TurnsAs Shows (ends_run text due) before now None = ⊥

-- the code answered the end of the input as is due
pub record EndsAs (due : Settled) (before now : List ℕ) (status : Status) : Type 0 where
  pub added : now ≡ before ++ due.text
  pub ends : due.ends ≡ Some status

-- a reader of lines stands in line `number`, of which these octets came
pub record InLine {S : Type 0} (rules : LineRules S) (Shows : S → Type 0) (number : ℕ) (rest : List ℕ) (settles : Settling) : Type 0 where
  pub state : S
  pub shows : Shows state
  pub plain : ended_part rest ≡ []
  pub inside : opens_past rules number rest ≡ false
  pub is : (ends : Ends) (more : List ℕ) → settles ends more ≡ lines_from rules number state ends (rest ++ more)
