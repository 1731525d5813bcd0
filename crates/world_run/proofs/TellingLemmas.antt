-- Answers that are written at once, and those that are due.
use Rattle.std.proofs.Common.{◌≡◌, ℕ, Bool, false, List, [], ◌++◌, Option, None, Some, Result, Ok, Err, IfOk, if◌then◌else◌, inl, inr, refl, sym, ap}
use Rattle.edge_traits.specs.declared.status.Status.{Status}
use Rattle.edge_traits.specs.declared.status.Status.TheVariants as statuses
use Rattle.command_frame.specs.declared.turned.Turned.TheVariants as turned
use Rattle.command_frame.specs.Lines.{passes, ends_run}
use Rattle.command_frame.specs.PartLines.{TurnsPart}
use Rattle.path_world.specs.Values.{PathValue}
use Rattle.replay_script.specs.declared.event.Event.{Event}
use Rattle.replay_script.specs.declared.fault.LineFault.{LineFault}
use Rattle.replay_script.specs.Events.{Reads}
use Rattle.world_run.specs.declared.telling.Telling.{Telling}
use Rattle.world_run.specs.declared.world.Course.TheVariants as courses
use Rattle.world_run.specs.World.{WorldState, drained, later_said, line_said, line_in}
use Rattle.world_run.specs.Telling.{left_text, OwesAs, at_once}

-- ---- an answer that is written at once

pub once-refused : {E : Type 0} (Shows : List ℕ → WorldState → Type 0) (text before now : List ℕ) (answer : Result (Option Status) E)
    → IfOk answer (λ ends. (ends ≡ Some statuses.Refused) × (now ≡ before ++ text)) → IfOk (at_once answer) (TurnsPart Shows (ends_run text statuses.Refused) before now)
once-refused Shows text before now (Ok None) (is, added) = absurd (cc)
once-refused Shows text before now (Ok (Some status)) (is, added) = (added, cc)
once-refused Shows text before now (Err e) refused = tt

-- ---- what a line says

pub line-in : (line : List ℕ) (said : Result Event LineFault) → later_said line ≡ said → line_in line ≡ line_said said
unfolding line_in
line-in line said is = ap line_said is

pub reads-ok : (said : Result Event LineFault) (event : Event) → Reads said (Ok event) → said ≡ Ok event
reads-ok said event (inl is) = sym is
reads-ok said event (inr none) = absurd (cc)

-- ---- what is due

-- what a drain did
pub owed : (path : PathValue) (telling : Telling) (whole text : List ℕ) (test : Bool) → test ≡ false → left_text telling ≡ whole
    → TurnsPart (OwesAs (courses.Drains telling) (Some path)) (if test then ends_run [] statuses.Limit else passes whole drained) text text turned.Owes
owed path telling whole text test few is = rw few (refl, (left_text telling, (is, (refl, refl))))
