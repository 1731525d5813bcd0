-- What `make` answers: the script is run as `world` runs one, and its transcript is summed.
use Rattle.std.specs.Prelude.{ℕ, ◌+◌, ◌*◌, ◌%◌, ◌^◌, Bool, true, false, ◌||◌, List, [], ◌∷◌, ◌++◌, length, codes, count_by, Some}
use Rattle.std.specs.Fmt.{decimal}
use Rattle.edge_traits.specs.declared.status.Status.TheVariants as statuses
use Rattle.edge_traits.specs.Settled.{Settled}
use Rattle.command_frame.specs.Lines.{Turn, passes, ends_run}
use Rattle.replay_script.specs.NoteLines.{line_of}
use Rattle.path_laws.specs.declared.effects.UpAt.{UpAt}
use Rattle.path_laws.specs.declared.places.Place.{Place}
use Rattle.path_laws.specs.declared.places.Place.TheVariants as places
use Rattle.path_laws.specs.Path.{PathSetup, Path, PathEvent, path_step, path_run}
use Rattle.path_laws.specs.Log.{ups_in}
use Rattle.world_run.specs.World.{WorldState, happens, drain_made, drains_by, drain_text, events_text}
use Rattle.make_run.specs.Script.{the_setup, the_start, script_of}

-- ---- the limit

-- `world` ends here
abbrev pub is_over : Turn WorldState → Bool
is_over (passes text state) = false
is_over (ends_run text status) = true

-- it ends at one of these events, which passes its limit
unfoldable pub is_past : PathSetup → Path → List PathEvent → Bool
is_past s w [] = false
is_past s w (event ∷ events) =
    is_over (happens s w event) || is_past s (path_step s w event).path events

-- ---- the transcript

-- the sum with these octets, where those before them have this one
unfoldable pub sum_after : ℕ → List ℕ → ℕ
sum_after sum [] = sum
sum_after sum (octet ∷ octets) = sum_after ((31 * sum + octet) % 2 ^ 32) octets

-- a block that came whole at an end, and not at the gate
abbrev pub is_at_end : Place → Bool
is_at_end places.OldNode = true
is_at_end places.OldFace = false
is_at_end places.NewFace = false
is_at_end places.NewNode = true

abbrev pub count_at_ends : List UpAt → ℕ
count_at_ends ups = count_by (λ (up : UpAt). is_at_end up.place) ups

-- ---- the line

-- how much was done: datagrams, blocks that came whole at the ends, events of the drain, and the sum
pub record Done : Type 0 where
  pub sent : ℕ
  pub ups : ℕ
  pub events : ℕ
  pub sum : ℕ

-- of events that were played, and those of the drain after them
unfoldable pub done_by : PathSetup → Path → List PathEvent → List PathEvent → Done
done_by s w played drained = record {
  sent = length (path_run s w (played ++ drained)).sent;
  ups = count_at_ends (ups_in s w (played ++ drained));
  events = length drained;
  sum = sum_after 0 (events_text s w played ++ drain_text s (path_run s w played) drained);
}

abbrev pub made_line : ℕ → Done → List ℕ
made_line count done =
    line_of (codes "made" ∷ decimal count ∷ codes "sent" ∷ decimal done.sent ∷ codes "up" ∷ decimal done.ups
    ∷ codes "events" ∷ decimal done.events ∷ codes "sum" ∷ decimal done.sum ∷ [])

-- ---- the answer

-- nothing is written where `world` passes its limit
abbrev pub answer_if : Bool → List ℕ → Settled
answer_if true line = record { text = []; ends = Some statuses.Limit }
answer_if false line = record { text = line; ends = Some statuses.Done }

-- events are played, and then the path is drained
unfoldable pub answer_to : PathSetup → Path → ℕ → List PathEvent → List PathEvent → Settled
answer_to s w count played drained =
    answer_if (is_past s w played || is_over (drains_by s (path_run s w played) drained))
    (made_line count (done_by s w played drained))

abbrev pub answer_after : ℕ → List PathEvent → Settled
answer_after count played =
    answer_to the_setup the_start count played
    (drain_made the_setup (path_run the_setup the_start played))

unfoldable pub answer_of : ℕ → ℕ → Settled
answer_of seed count = answer_after count (script_of seed count)
