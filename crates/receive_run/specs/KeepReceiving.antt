-- What `receive --keep-going` writes: a line that is refused has its line, and the next is read.
use Rattle.std.specs.Prelude.{◌≡◌, ◌≢◌, ℕ, Bool, true, false, List, [], Some, if◌then◌else◌}
use Rattle.edge_traits.specs.declared.status.Status.{Status}
use Rattle.edge_traits.specs.declared.status.Status.TheVariants as statuses
use Rattle.edge_traits.specs.Settled.{at_end, Settled}
use Rattle.command_frame.specs.Task.{Settling}
use Rattle.command_frame.specs.Within.{within}
use Rattle.command_frame.specs.Lines.{Turn, passes, ends_run, LineRules, by_lines}
use Rattle.receive_run.specs.LineContent.{content_of}
use Rattle.receive_run.specs.KeptSessions.{Kept}
use Rattle.receive_run.specs.Receive.{Limits, content_turn, received}

-- the sessions of which a piece came, and whether a line was refused
pub record Receiving : Type 0 where
  pub kept : List Kept
  pub refused : Bool

-- what a line brings about, by what it brings about without the word: after a refusal the sessions
-- are as before the line, and the run goes on
abbrev pub turn_on : Receiving → Turn (List Kept) → Turn Receiving
turn_on state (passes text kept) = passes text (record { kept = kept; refused = state.refused })
turn_on state (ends_run text statuses.Refused) =
    passes text (record { kept = state.kept; refused = true })
turn_on state (ends_run text statuses.Limit) = ends_run text statuses.Limit
turn_on state (ends_run text statuses.Done) = ends_run text statuses.Done
turn_on state (ends_run text statuses.Usage) = ends_run text statuses.Usage
turn_on state (ends_run text statuses.ReadFault) = ends_run text statuses.ReadFault
turn_on state (ends_run text statuses.WriteFault) = ends_run text statuses.WriteFault
turn_on state (ends_run text statuses.Memory) = ends_run text statuses.Memory

-- after the last line the run is done, or refused where a line was
abbrev pub last_status : Bool → Status
last_status refused = if refused then statuses.Refused else statuses.Done

abbrev pub keep_receiving_rules : Limits → LineRules Receiving
keep_receiving_rules limits = record {
  lines = limits.lines;
  octets = limits.octets;
  step = λ n state line. turn_on state (content_turn limits n state.kept (content_of line));
  finish = λ state. record { text = []; ends = Some (last_status state.refused) };
}

abbrev pub nothing_received : Receiving
nothing_received = record { kept = []; refused = false }

-- what octets settle, whatever the size of the input
abbrev pub settles : Limits → Settling
settles limits = by_lines (keep_receiving_rules limits) nothing_received

-- what `receive --keep-going` answers to an input
abbrev pub received_on : Limits → ℕ → List ℕ → Settled
received_on limits most input = within most (settles limits) at_end input

-- where `receive` refuses no line, both answer the same
abbrev pub SameUnlessRefused : Limits → ℕ → List ℕ → Type 0
SameUnlessRefused limits most input =
    (received limits most input).ends ≢ Some statuses.Refused
    → received_on limits most input ≡ received limits most input
