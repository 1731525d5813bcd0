-- The transcript of a drain, part by part.
use Rattle.std.specs.Prelude.{◌≡◌, ℕ, ◌+◌, ◌<◌, Option, List, [], ◌++◌, length, reverse, Bool, true, false, None, Some, Result, Ok, Err}
use Rattle.edge_traits.specs.declared.status.Status.{Status}
use Rattle.command_frame.specs.declared.turned.Turned.{Turned}
use Rattle.command_frame.specs.declared.turned.Turned.TheVariants as turned
use Rattle.path_world.specs.Values.{PathValue}
use Rattle.world_run.specs.declared.telling.Telling.{Telling}
use Rattle.world_run.specs.declared.world.Course.{Course}
use Rattle.world_run.specs.declared.world.Course.TheVariants as courses
use Rattle.world_run.specs.WrittenLines.{end_line}
use Rattle.world_run.specs.World.{WorldState}
use Rattle.world_run.specs.Shows.{StandsFor, StandsAfter, steps_text}

-- ---- the text that is left

-- the lines of the events that are left, and that the drain ended
abbrev pub left_text : Telling → List ℕ
left_text t = steps_text (reverse t.left.items) ++ end_line t.events

-- some text was added to the text before, and then less is left
pub record TellsOn (old new : Telling) (before now : List ℕ) : Type 0 where
  pub part : List ℕ
  pub added : now ≡ before ++ part
  pub parts : left_text old ≡ part ++ left_text new

-- a part was added that is left, and fewer events are; or all that is left was
abbrev pub Tells : Telling → Telling → List ℕ → List ℕ → Bool → Type 0
Tells old new before now true = TellsOn old new before now × (length new.left.items < length old.left.items)
Tells old new before now false = now ≡ before ++ left_text old

-- ---- what is kept

-- the text that is due, and the parts that there can be of it
abbrev pub due_text : Course → List ℕ
due_text courses.Open = []
due_text (courses.Drains telling) = left_text telling
due_text courses.Over = []

abbrev pub due_parts : Course → ℕ
due_parts courses.Open = 0
due_parts (courses.Drains telling) = length telling.left.items + 1
due_parts courses.Over = 0

-- a line drained the path
abbrev pub is_over : Course → Bool
is_over courses.Open = false
is_over (courses.Drains telling) = true
is_over courses.Over = true

-- before a drain the code keeps nothing or a path, and after one a path at which it no longer looks
abbrev pub StandsAs : Course → Option PathValue → WorldState → Type 0
StandsAs courses.Open path state = StandsFor path state
StandsAs (courses.Drains telling) path state = StandsAfter path state
StandsAs courses.Over path state = StandsAfter path state

-- this text is due, and after it what the code keeps stands for this
abbrev pub OwesAs : Course → Option PathValue → List ℕ → WorldState → Type 0
OwesAs course path due state = (due ≡ due_text course) × StandsAs course path state

-- the same where memory hasn't run out
abbrev pub ShowsWorld : Bool → Course → Option PathValue → List ℕ → WorldState → Type 0
ShowsWorld spent course path due state = (spent ≡ false) × OwesAs course path due state

-- ---- an answer that is written at once

abbrev pub at_once : {E : Type 0} → Result (Option Status) E → Result Turned E
at_once (Ok None) = Ok turned.Passes
at_once (Ok (Some status)) = Ok (turned.Ends status)
at_once (Err e) = Err e
