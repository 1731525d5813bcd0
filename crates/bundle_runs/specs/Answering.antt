-- What a command answers to an input: its lines for each bundle, one after the other.
use Rattle.std.specs.Prelude.{ℕ, ◌+◌, Bool, true, false, List, [], ◌∷◌, codes, Option, None, Some}
use Rattle.edge_traits.specs.declared.status.Status.{Status}
use Rattle.edge_traits.specs.declared.status.Status.TheVariants as statuses
use Rattle.edge_traits.specs.Content.{most_input}
use Rattle.edge_traits.specs.Settled.{Ends, at_end, goes_on, Settled, nothing_yet, put_before}
use Rattle.command_frame.specs.Within.{within}
use Rattle.fragments.specs.declared.join.Join.{Join}
use Rattle.bundle_runs.specs.declared.commands.command.Command.{Command}
use Rattle.bundle_runs.specs.declared.commands.command.Command.TheVariants as commands
use Rattle.bundle_runs.specs.declared.front.Bundle.{Bundle}
use Rattle.bundle_runs.specs.Front.{word_of, version_of, Front, whole, cut_short, refused}
use Rattle.bundle_runs.specs.Fronts.{fronts_of}
use Rattle.bundle_runs.specs.WrittenLines.{check_line, show_line, refused_line, turned_down_line}
use Rattle.fragment_lines.specs.Said.{Said, says, refuses}
use Rattle.bundle_runs.specs.Convert.{converted}
use Rattle.bundle_runs.specs.Fragments.{pieces_said, join_said, joins_left}

-- ---- one bundle

-- a last line, and the run's end
abbrev pub refused_by : List ℕ → Settled
refused_by line = record { text = line; ends = Some statuses.Refused }

-- what a command says of a bundle of so many octets that it meets in a state
abbrev pub Step : Type 0 → Type 0
Step S = S → Bundle → ℕ → Said S

-- the state in which a run goes on after a bundle that the command refuses; or the refusal ends the run
abbrev pub Leaves : Type 0 → Type 0
Leaves S = S → Bundle → Option S

-- What was said of bundle n stands before what follows, which is settled by whether a bundle was refused,
-- and by the state. A refusal ends the run, unless it leaves a state in which the run goes on.
abbrev pub after_said : {S : Type 0} → ℕ → Said S → Option S → Bool → (Bool → S → Settled) → Settled
after_said n (says text now) left any_refused later = put_before text (later any_refused now)
after_said n (refuses word) None any_refused later = refused_by (turned_down_line n word)
after_said n (refuses word) (Some now) any_refused later = put_before (turned_down_line n word) (later true now)

-- Bundle n is unfinished, in the field at a place: while the input goes on this settles nothing, and
-- at its end the bundle is refused.
abbrev pub unfinished : Ends → ℕ → ℕ → Settled
unfinished goes_on n at = nothing_yet
unfinished at_end n at = refused_by (refused_line n at (codes "Truncated"))

-- at the end of the input a run is done, or refused where a bundle before was
abbrev pub status_by : Bool → Status
status_by false = statuses.Done
status_by true = statuses.Refused

-- after the last bundle the run ends so, where the input ends
abbrev pub after_last : Ends → Bool → Settled
after_last goes_on any_refused = nothing_yet
after_last at_end any_refused = record { text = []; ends = Some (status_by any_refused) }

-- ---- bundle by bundle

-- What fronts settle, of which the first is bundle n and begins at a place of the input: a step for
-- each bundle. The first that is no bundle ends the run, and so does the first that the command refuses,
-- unless that leaves a state.
unfoldable pub by_bundles : {S : Type 0}
    → Step S → Leaves S → Ends → (any_refused : Bool) → S → (n at : ℕ) → List Front → Settled
by_bundles step leaves ends any_refused state n at [] = after_last ends any_refused
by_bundles step leaves ends any_refused state n at (whole bundle size ∷ fronts) =
    after_said n (step state bundle size) (leaves state bundle) any_refused
    (λ any now. by_bundles step leaves ends any now (n + 1) (at + size) fronts)
by_bundles step leaves ends any_refused state n at (cut_short place ∷ fronts) = unfinished ends n (at + place)
by_bundles step leaves ends any_refused state n at (refused place cause ∷ fronts) =
    refused_by (refused_line n (at + place) (word_of cause))

-- ---- the commands

-- what is said by a command that looks at nothing but the bundle: the state stays
abbrev pub leaving : {S : Type 0} → S → Said (Unit {0}) → Said S
leaving state (says text done) = says text state
leaving state (refuses word) = refuses word

-- What a command says of a bundle of so many octets. The state of all commands is that of `join`: the
-- joins that are open.
abbrev pub step_of : Command → Step (List Join)
step_of commands.Check joins bundle size = says (check_line (version_of bundle) size) joins
step_of commands.Show joins bundle size = says (show_line bundle) joins
step_of commands.Convert joins bundle size = leaving joins (converted bundle)
step_of (commands.Cut most) joins bundle size = leaving joins (pieces_said most bundle)
step_of commands.Join joins bundle size = join_said joins bundle
step_of commands.KeepConverting joins bundle size = leaving joins (converted bundle)
step_of (commands.KeepCutting most) joins bundle size = leaving joins (pieces_said most bundle)
step_of commands.KeepJoining joins bundle size = join_said joins bundle

-- The state in which a command goes on after a bundle that it refuses, where it keeps going. The run of any
-- other ends.
abbrev pub leaves_of : Command → Leaves (List Join)
leaves_of commands.KeepConverting joins bundle = Some joins
leaves_of (commands.KeepCutting most) joins bundle = Some joins
leaves_of commands.KeepJoining joins bundle = Some (joins_left joins bundle)
leaves_of _ joins bundle = None

-- what octets settle of which the first is at a place of the input, where bundle n begins, by whether a
-- bundle before was refused
unfoldable pub settles_from : Command → (any_refused : Bool) → List Join → (n at : ℕ) → Ends → List ℕ → Settled
settles_from command any_refused joins n at ends octets =
    by_bundles (step_of command) (leaves_of command) ends any_refused joins n at (fronts_of octets)

-- what octets settle of a command's answer
abbrev pub settles : Command → Ends → List ℕ → Settled
settles command = within most_input (settles_from command false [] 1 0)
