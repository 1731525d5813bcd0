-- Which limit a run names: the one that its input passes.
use Rattle.std.proofs.Common.{◌≡◌, ℕ, ◌+◌, ◌<◌, ◌≤◌, Bool, true, false, List, [], ◌∷◌, length, Option, None, Some, IfSome, refl, ◌∙◌, inl, inr, le-ltb, lt-ltb}
use Rattle.std.proofs.lemmas.Bool.{cases_lt}
use Rattle.edge_traits.specs.declared.status.Status.{Status}
use Rattle.edge_traits.specs.declared.status.Status.TheVariants as statuses
use Rattle.edge_traits.specs.Content.{most_input}
use Rattle.edge_traits.specs.Outcome.{SourceTells, SinkTells, Wrote, Ran}
use Rattle.edge_traits.specs.Settled.{Ends, at_end, goes_on, Settled}
use Rattle.command_frame.specs.declared.line_passed.LinePassed.{LinePassed}
use Rattle.command_frame.specs.declared.line_passed.LinePassed.TheVariants as lines
use Rattle.command_frame.specs.Task.{Settling}
use Rattle.command_frame.specs.Within.{within}
use Rattle.command_frame.specs.Lines.{LineRules, by_lines}
use Rattle.command_frame.specs.Limits.{Limiting, limits_by_lines, limits_within}
use Rattle.command_frame.proofs.WithinLemmas.{within-low}
use Rattle.command_frame.proofs.LimitsRunLemmas.{short-named, limits-low, limits-long}
use Rattle.fragment_lines.specs.Said.{Said, says, refuses}
use Rattle.bundle_runs.specs.declared.commands.command.Command as bundle_commands
use Rattle.bundle_runs.specs.Front.{Front, whole, cut_short, refused}
use Rattle.bundle_runs.specs.Fronts.{fronts_of}
use Rattle.bundle_runs.specs.Answering.{Step, Leaves, after_said, by_bundles, step_of, leaves_of, settles_from, status_by}
use Rattle.link_run.specs.Link.{LinkState, no_link, planned, on_link, drained, link_rules}
use Rattle.world_run.specs.World.{WorldState, no_path, on_path, world_rules}
use Rattle.world_run.specs.World as world
use Rattle.make_run.specs.Runs.{WroteMade, RanMade}
use Rattle.serve_run.specs.Serve.{Serving}
use Rattle.serve_run.specs.Turns.{Act}
use Rattle.serve_run.specs.Tells.{OutsideTells, RanTurns}
use Rattle.gateway_run.specs.declared.commands.command.Command.{Command}
use Rattle.gateway_run.specs.declared.commands.passed.Passed.{Passed}
use Rattle.gateway_run.specs.declared.commands.passed.Passed.TheVariants as passed
use Rattle.receive_run.specs.Receive.{the_limits}
use Rattle.receive_run.specs.KeepReceiving.{Receiving, keep_receiving_rules, last_status}
use Rattle.gateway_run.specs.Rules.{reads}
use Rattle.gateway_run.specs.Commands.{rules_of, limits_of, limit_of}
use Rattle.gateway_run.specs.Passed.{is_limit, named_by, passed_on_lines, limit_by, input_limit, no_limits, script_limit, NamesOnLines}
use Rattle.gateway_run.specs.Runs.{may_pass, NamesPassed}

-- ---- by the status

-- a limit that a command may pass, and that its input passed where the run ended with one
pub names-passed : (command : Command) (left : Option (List ℕ)) (status : Status) (named : Option Passed) (limit : Passed)
    → named ≡ named_by status limit → may_pass (rules_of command) limit ≡ true
    → (status ≡ statuses.Limit → IfSome left (λ input. limit_of command input ≡ Some limit))
    → NamesPassed (Some command) left status named
names-passed command left statuses.Done named limit is may passed = is
names-passed command left statuses.Refused named limit is may passed = is
names-passed command left statuses.Usage named limit is may passed = is
names-passed command left statuses.ReadFault named limit is may passed = is
names-passed command left statuses.WriteFault named limit is may passed = is
names-passed command left statuses.Limit named limit is may passed = rw is (record { may = may; by_input = passed refl })
names-passed command left statuses.Memory named limit is may passed = is

-- a run that didn't end with a limit, and names none
pub names-none : (command : Command) (left : Option (List ℕ)) (status : Status) (named : Option Passed)
    → named ≡ None → is_limit status ≡ false → NamesPassed (Some command) left status named
names-none command left statuses.Done named none other = none
names-none command left statuses.Refused named none other = none
names-none command left statuses.Usage named none other = none
names-none command left statuses.ReadFault named none other = none
names-none command left statuses.WriteFault named none other = none
names-none command left statuses.Limit named none other = absurd (cc)
names-none command left statuses.Memory named none other = none

-- ---- lines

may-pass-lines : (settles : Settling) (told : Option LinePassed) → may_pass (reads settles) (passed_on_lines told) ≡ true
may-pass-lines settles None = refl
may-pass-lines settles (Some lines.Lines) = refl
may-pass-lines settles (Some (lines.Length line)) = refl
may-pass-lines settles (Some (lines.Own line)) = refl

limit-is : (most : ℕ) (limits : Limiting) (input : List ℕ) (told : Option LinePassed) → limits_within most limits input ≡ told
    → (length input ≤ most → told ≡ None → ⊥) → input_limit most limits input ≡ Some (passed_on_lines told)
limit-is most limits input told is short = elim (cases_lt most (length input)) [
  | inl long ↦ rw (lt-ltb most (length input) long, is) refl
  | inr low ↦ rw (le-ltb most (length input) low, is) (by_told told (short low))
]
  where
    by_told : (told : Option LinePassed) → (told ≡ None → ⊥) → limit_by false told ≡ Some (passed_on_lines told)
    by_told None some = absurd (some refl)
    by_told (Some limit) some = refl

-- a run of a command that reads, by what its octets pass where it ended with a limit
pub reads-named : (command : Command) (settles : Settling) → rules_of command ≡ reads settles → (left : Option (List ℕ)) (status : Status) (named : Option Passed)
    → (names : NamesOnLines (limits_of command) left status named)
    → (status ≡ statuses.Limit → IfSome left (λ input. limit_of command input ≡ Some (passed_on_lines names.lines_pass)))
    → NamesPassed (Some command) left status named
reads-named command settles rules left status named names passes =
    names-passed command left status named (passed_on_lines names.lines_pass) names.is
    (rw rules (may-pass-lines settles names.lines_pass)) passes

-- a run over lines, of a command whose answers to the end of an input are no limits
module _ {S : Type 0} (rules : LineRules S) (free : (state : S) → (rules.finish state).ends ≡ Some statuses.Limit → ⊥) (start : S) (most : ℕ) where
  on-lines : (left rest held after : Option (List ℕ)) (told : Option LinePassed)
      → IfSome left (λ input. Wrote (within most (by_lines rules start)) statuses.Limit input rest held after)
      → IfSome left (λ input. limits_within most (limits_by_lines rules start) input ≡ told)
      → IfSome left (λ input. input_limit most (limits_by_lines rules start) input ≡ Some (passed_on_lines told))
  on-lines None rest held after told wrote is = tt
  on-lines (Some input) rest held after told wrote is =
      limit-is most (limits_by_lines rules start) input told is
      (λ low none. short-named rules free most start input wrote.0 low (is ∙ none))

  pub lines-pass : (source source_now : SourceTells) (sink sink_now : SinkTells) (status : Status) (named : Option Passed)
      → Ran (within most (by_lines rules start)) status source source_now sink sink_now
      → (names : NamesOnLines (limits_by_lines rules start) source.left status named) → most ≡ most_input
      → status ≡ statuses.Limit → IfSome source.left (λ input. input_limit most (limits_by_lines rules start) input ≡ Some (passed_on_lines names.lines_pass))
  lines-pass source source_now sink sink_now status named ran names same limit =
      on-lines source.left source_now.left sink.held sink_now.held names.lines_pass (rw limit at ran.wrote) (rw same (names.by_input limit))

-- ---- the answers to the end of an input

pub keep_receiving-free : (state : Receiving) → ((keep_receiving_rules the_limits).finish state).ends ≡ Some statuses.Limit → ⊥
keep_receiving-free state is = by_test state.refused is
  where
    by_test : (t : Bool) → Some (last_status t) ≡ Some statuses.Limit → ⊥
    by_test true is = cc
    by_test false is = cc

pub link-free : (state : LinkState) → (link_rules.finish state).ends ≡ Some statuses.Limit → ⊥
link-free no_link is = cc
link-free (planned start windows) is = cc
link-free (on_link s c) is = cc
link-free drained is = cc

pub world-free : (state : WorldState) → (world_rules.finish state).ends ≡ Some statuses.Limit → ⊥
world-free no_path is = cc
world-free (on_path s w) is = cc
world-free world.drained is = cc

-- ---- bundles

-- what bundles settle ends with no limit
bundles-free : {S : Type 0} (step : Step S) (leaves : Leaves S) (ends : Ends) (any : Bool) (state : S) (n at : ℕ) (fronts : List Front)
    → (by_bundles step leaves ends any state n at fronts).ends ≡ Some statuses.Limit → ⊥
unfolding by_bundles
bundles-free step leaves goes_on any state n at [] is = cc
bundles-free step leaves at_end any state n at [] is = by_test any is
  where
    by_test : (t : Bool) → Some (status_by t) ≡ Some statuses.Limit → ⊥
    by_test true is = cc
    by_test false is = cc
bundles-free {S} step leaves ends any state n at (whole bundle size ∷ fronts) is =
    by_said (step state bundle size) (leaves state bundle) (λ later now. bundles-free step leaves ends later now (n + 1) (at + size) fronts) is
  where
    by_said : (said : Said S) (left : Option S)
        → ((later : Bool) (now : S) → (by_bundles step leaves ends later now (n + 1) (at + size) fronts).ends ≡ Some statuses.Limit → ⊥)
        → (after_said n said left any (λ later now. by_bundles step leaves ends later now (n + 1) (at + size) fronts)).ends ≡ Some statuses.Limit → ⊥
    by_said (says text now) left on is = on any now is
    by_said (refuses word) None on is = cc
    by_said (refuses word) (Some now) on is = on true now is
bundles-free step leaves goes_on any state n at (cut_short place ∷ fronts) is = cc
bundles-free step leaves at_end any state n at (cut_short place ∷ fronts) is = cc
bundles-free step leaves ends any state n at (refused place cause ∷ fronts) is = cc

bundles-long : (most : ℕ) (command : bundle_commands.Command) (input : List ℕ)
    → (within most (settles_from command false [] 1 0) at_end input).ends ≡ Some statuses.Limit → most < length input
unfolding settles_from
bundles-long most command input ends = elim (cases_lt most (length input)) [
  | inl long ↦ long
  | inr low ↦
      absurd (bundles-free (step_of command) (leaves_of command) at_end false [] 1 0 (fronts_of input)
      (rw (within-low most (settles_from command false [] 1 0) at_end input low) at ends))
]

-- an input of bundles passes the limit on its size alone
pub bundles-pass : (most : ℕ) (command : bundle_commands.Command) (source source_now : SourceTells) (sink sink_now : SinkTells) (status : Status)
    → Ran (within most (settles_from command false [] 1 0)) status source source_now sink sink_now
    → (told : Option LinePassed) → (status ≡ statuses.Limit → IfSome source.left (λ input. limits_within most no_limits input ≡ told))
    → status ≡ statuses.Limit → IfSome source.left (λ input. input_limit most no_limits input ≡ Some (passed_on_lines told))
bundles-pass most command source source_now sink sink_now status ran told is limit =
    by_left source.left source_now.left sink.held sink_now.held (rw limit at ran.wrote) (is limit)
  where
    by_left : (left rest held after : Option (List ℕ))
        → IfSome left (λ input. Wrote (within most (settles_from command false [] 1 0)) statuses.Limit input rest held after)
        → IfSome left (λ input. limits_within most no_limits input ≡ told)
        → IfSome left (λ input. input_limit most no_limits input ≡ Some (passed_on_lines told))
    by_left None rest held after wrote is = tt
    by_left (Some input) rest held after wrote is =
        rw (lt-ltb most (length input) (bundles-long most command input wrote.0), is) refl

no_limits-passed : (most : ℕ) (input : List ℕ) → limits_within most no_limits input ≡ None
no_limits-passed most input = elim (cases_lt most (length input)) [
  | inl long ↦ limits-long most no_limits input long
  | inr low ↦ limits-low most no_limits input low
]

-- a run that passes no limit on lines names the one on the size
pub names-size : (left : Option (List ℕ)) (status : Status) (named : Option Passed) → named ≡ named_by status passed.Size
    → NamesOnLines no_limits left status named
names-size left status named is = record { lines_pass = None; is = is; by_input = λ limit. by_left left }
  where
    by_left : (left : Option (List ℕ)) → IfSome left (λ input. limits_within most_input no_limits input ≡ None)
    by_left None = tt
    by_left (Some input) = no_limits-passed most_input input

-- ---- a script that the command makes

pub script-passes : (due : Settled) (status : Status) (left : Option (List ℕ)) (sink sink_now : SinkTells) → RanMade due status sink sink_now
    → status ≡ statuses.Limit → IfSome left (λ input. script_limit due.ends ≡ Some passed.Script)
script-passes due status left sink sink_now ran limit = by_left left (rw limit at ran.wrote)
  where
    by_left : (left : Option (List ℕ)) → WroteMade due statuses.Limit sink.held sink_now.held
        → IfSome left (λ input. script_limit due.ends ≡ Some passed.Script)
    by_left None wrote = tt
    by_left (Some input) wrote = rw wrote.0 refl

-- ---- turns

-- a run that acts passes none
pub acting-limit : (act : Act Serving) (status : Status) (links links_now : OutsideTells) (sink sink_now : SinkTells)
    → RanTurns act status links links_now sink sink_now → is_limit status ≡ false
acting-limit act statuses.Done links links_now sink sink_now ran = refl
acting-limit act statuses.WriteFault links links_now sink sink_now ran = refl
acting-limit act statuses.Memory links links_now sink sink_now ran = refl
acting-limit act statuses.Refused links links_now sink sink_now ran = refl
acting-limit act statuses.Usage links links_now sink sink_now ran = refl
acting-limit act statuses.ReadFault links links_now sink sink_now ran = refl
acting-limit act statuses.Limit links links_now sink sink_now ran = absurd ran.went
