-- A command that keeps going, beside the same command whose run ends with the first bundle that it refuses.
use Rattle.std.specs.Prelude.{◌≡◌, List, [], ◌∷◌, ◌++◌, ℕ, take, Some}
use Rattle.edge_traits.specs.declared.status.Status.TheVariants.{Done}
use Rattle.edge_traits.specs.Content.{most_input}
use Rattle.edge_traits.specs.Settled.{Ends}
use Rattle.fragment_lines.specs.Said.{Said, says, refuses}
use Rattle.bundle_runs.specs.declared.commands.command.Command.{Command}
use Rattle.bundle_runs.specs.declared.commands.command.Command.TheVariants as commands
use Rattle.bundle_runs.specs.Front.{Front, whole, cut_short, refused}
use Rattle.bundle_runs.specs.Fronts.{fronts_of}
use Rattle.bundle_runs.specs.Answering.{Step, step_of, settles}

-- the same command, which doesn't keep going
abbrev pub plain : Command → Command
plain commands.Check = commands.Check
plain commands.Show = commands.Show
plain commands.Convert = commands.Convert
plain (commands.Cut most) = commands.Cut most
plain commands.Join = commands.Join
plain commands.KeepConverting = commands.Convert
plain (commands.KeepCutting most) = commands.Cut most
plain commands.KeepJoining = commands.Join

-- ---- without refusals both write the same

-- something is said of a bundle, and this holds of the state after it
abbrev pub IfSays : {S : Type 0} → Said S → (S → Type 0) → Type 0
IfSays (says text now) Fact = Fact now
IfSays (refuses word) Fact = ⊥

-- no bundle among fronts is refused by the command
unfoldable pub RefusesNone : {S : Type 0} → Step S → S → List Front → Type 0
RefusesNone step state [] = Unit {0}
RefusesNone step state (whole bundle size ∷ fronts) =
    IfSays (step state bundle size) (λ now. RefusesNone step now fronts)
RefusesNone step state (cut_short place ∷ fronts) = Unit {0}
RefusesNone step state (refused place cause ∷ fronts) = Unit {0}

-- an input of which the command refuses no bundle within the limit
abbrev pub IsWithoutRefusals : Command → List ℕ → Type 0
IsWithoutRefusals command octets = RefusesNone (step_of command) [] (fronts_of (take most_input octets))

abbrev pub SameWithoutRefusals : Type 0
SameWithoutRefusals = (command : Command) (ends : Ends) (octets : List ℕ) → IsWithoutRefusals command octets
    → settles command ends octets ≡ settles (plain command) ends octets

-- ---- and with refusals

-- whatever the run writes that the first refusal ends, that which keeps going writes first
abbrev pub WritesMore : Type 0
WritesMore = (command : Command) (ends : Ends) (octets : List ℕ)
    → (rest : List ℕ) × ((settles command ends octets).text ≡ (settles (plain command) ends octets).text ++ rest)

-- it is done only where the other is, and then wrote the same
abbrev pub DoneOnlyTogether : Type 0
DoneOnlyTogether = (command : Command) (ends : Ends) (octets : List ℕ)
    → (settles command ends octets).ends ≡ Some Done → settles (plain command) ends octets ≡ settles command ends octets
