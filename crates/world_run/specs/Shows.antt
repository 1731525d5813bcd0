-- What ties the code to the definition.
use Rattle.std.specs.Prelude.{◌≡◌, ℕ, ◌≤◌, false, List, ◌++◌, Option, None, Some, Result, Ok, Err}
use Rattle.std.specs.List.{flat_map}
use Rattle.gateway_core.specs.Config.{IsGateConfig}
use Rattle.ltp_segment.specs.declared.session.TheConstants.{BLOCK_MAX}
use Rattle.ltp_segment.specs.PolicyViews.{policy_value}
use Rattle.replay_script.specs.NoteLines.{line_of}
use Rattle.path_laws.specs.declared.effects.PathEffects.{PathEffects}
use Rattle.path_laws.specs.declared.effects.SentAt.{SentAt}
use Rattle.path_laws.specs.Path.{PathSetup, Path, PathEvent, path_setup}
use Rattle.path_drain.specs.Left.{IsTimed}
use Rattle.path_world.specs.Values.{PathValue, setup_of}
use Rattle.path_world.specs.Shows.{ShowsRun, path_after}
use Rattle.replay_script.specs.declared.fault.LineFault.{LineFault}
use Rattle.replay_script.specs.declared.fault.LineFault.TheVariants as faults
use Rattle.world_run.specs.declared.script.SetUp.{SetUp}
use Rattle.world_run.specs.WrittenLines.{sent_words, up_line, join_line, note_line}
use Rattle.world_run.specs.World.{PathStart, WorldState, no_path, on_path, drained, octets_sent}
use Rattle.world_run.specs.World.{most_sent}

-- ---- what is kept

-- a path world of the code stands for this path, of which every drain ends, and on which no more
-- octets were sent than may be
pub record StandsOn (v : PathValue) (s : PathSetup) (w : Path) : Type 0 where
  pub whole : v.spent ≡ false
  pub setup : s ≡ setup_of v
  pub timed : IsTimed s BLOCK_MAX
  pub start : ℕ
  pub events : List PathEvent
  pub run : ShowsRun v start events
  pub path : w ≡ path_after v start events
  pub few : octets_sent w.sent ≤ most_sent

-- before a drain the code keeps nothing, or a path
abbrev pub StandsFor : Option PathValue → WorldState → Type 0
StandsFor None no_path = Unit {0}
StandsFor None (on_path s w) = ⊥
StandsFor None drained = ⊥
StandsFor (Some v) no_path = ⊥
StandsFor (Some v) (on_path s w) = StandsOn v s w
StandsFor (Some v) drained = ⊥

-- after one it keeps a path at which it no longer looks
abbrev pub StandsAfter : Option PathValue → WorldState → Type 0
StandsAfter None state = ⊥
StandsAfter (Some v) state = state ≡ drained

-- ---- what is read

abbrev pub start_of : SetUp → PathStart
start_of s = record {
  setup = path_setup s.config.gate (policy_value s.config.policy) s.config.cut;
  now = s.now;
}

-- the first line says this, or is refused; where memory ran out nothing is said of it
abbrev pub ReadsStart : Result PathStart LineFault → Result SetUp LineFault → Type 0
ReadsStart said (Ok s) = (said ≡ Ok (start_of s)) × IsGateConfig s.config.gate s.config.cut
ReadsStart said (Err faults.Word) = said ≡ Err faults.Word
ReadsStart said (Err faults.Name) = said ≡ Err faults.Name
ReadsStart said (Err faults.Number) = said ≡ Err faults.Number
ReadsStart said (Err faults.Hex) = said ≡ Err faults.Hex
ReadsStart said (Err faults.Memory) = Unit {0}

-- ---- what is written

abbrev pub sent_at_line : SentAt → List ℕ
sent_at_line d = line_of (sent_words d.k d.from d.datagram)

-- the lines of effects as the code has them, each datagram with its number
unfoldable pub told_text : PathEffects → List ℕ
told_text e =
    flat_map sent_at_line e.sent
    ++ (flat_map up_line e.ups ++ (flat_map join_line e.joins ++ flat_map note_line e.notes))

-- the lines of what was done at each event, in order
abbrev pub steps_text : List PathEffects → List ℕ
steps_text steps = flat_map told_text steps
