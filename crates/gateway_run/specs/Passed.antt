-- Which limit an input passes, and which is named.
use Rattle.std.specs.Prelude.{◌≡◌, ℕ, Bool, true, false, List, length, nat_lt, Option, None, Some, IfSome, if◌then◌else◌}
use Rattle.edge_traits.specs.declared.status.Status.{Status}
use Rattle.edge_traits.specs.declared.status.Status.TheVariants as statuses
use Rattle.command_frame.specs.declared.line_passed.LinePassed.{LinePassed}
use Rattle.command_frame.specs.declared.line_passed.LinePassed.TheVariants as lines
use Rattle.edge_traits.specs.Content.{most_input}
use Rattle.command_frame.specs.Limits.{Limiting, limits_within}
use Rattle.gateway_run.specs.declared.commands.passed.Passed.{Passed}
use Rattle.gateway_run.specs.declared.commands.passed.Passed.TheVariants as passed

-- the run ended with a limit
abbrev pub is_limit : Status → Bool
is_limit statuses.Done = false
is_limit statuses.Refused = false
is_limit statuses.Usage = false
is_limit statuses.ReadFault = false
is_limit statuses.WriteFault = false
is_limit statuses.Limit = true
is_limit statuses.Memory = false

-- a limit is named if and only if the run ended with one
abbrev pub named_by : Status → Passed → Option Passed
named_by status limit = if is_limit status then Some limit else None

-- the limit that an input passes which passes one, by what its lines pass: where that is none, it is
-- the limit on the size of the input
abbrev pub passed_on_lines : Option LinePassed → Passed
passed_on_lines None = passed.Size
passed_on_lines (Some lines.Lines) = passed.Lines
passed_on_lines (Some (lines.Length line)) = passed.LineLength line
passed_on_lines (Some (lines.Own line)) = passed.Own line

-- the limit that an input passes, by whether it is too long, and by what its lines pass
abbrev pub limit_by : (too_long : Bool) → Option LinePassed → Option Passed
limit_by true lines_pass = Some (passed_on_lines lines_pass)
limit_by false None = None
limit_by false (Some limit) = Some (passed_on_lines (Some limit))

-- of a command that looks at no more than so many octets, and whose octets pass these limits on lines
abbrev pub input_limit : ℕ → Limiting → List ℕ → Option Passed
input_limit most limits input = limit_by (nat_lt most (length input)) (limits_within most limits input)

-- the octets have no lines, or no limit on them
abbrev pub no_limits : Limiting
no_limits ends octets = None

-- the limit of a script that a command makes itself, by how its answer ends
abbrev pub script_limit : Option Status → Option Passed
script_limit None = None
script_limit (Some status) = named_by status passed.Script

-- ---- what only ties code to these

-- a run over lines names a limit if and only if it ended with one, by what its lines passed
pub record NamesOnLines (limits : Limiting) (left : Option (List ℕ)) (status : Status) (named : Option Passed) : Type 0 where
  pub lines_pass : Option LinePassed
  pub is : named ≡ named_by status (passed_on_lines lines_pass)
  pub by_input : status ≡ statuses.Limit → IfSome left (λ input. limits_within most_input limits input ≡ lines_pass)
