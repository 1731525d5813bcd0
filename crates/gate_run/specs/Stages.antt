-- The stages of a half as the code takes them, each from a point of a run to another.

use Rattle.std.specs.Prelude.{◌≡◌, ℕ, zero, suc, Bool, true, false, List, [], ◌∷◌, ◌++◌, length}
use Rattle.std.specs.Prelude.{Option, Some, Result, Ok, Err, if◌then◌else◌}
use Rattle.std.specs.Option.{is_some}
use Rattle.edge_traits.specs.Content.{Gains, GainsFront}
use Rattle.edge_traits.specs.Faults.{Calls, NoneFailed, LastFailed}
use Rattle.gate_cases.specs.declared.face.Face.{Face}
use Rattle.gate_cases.specs.declared.face.Face.TheVariants.{Old, New}
use Rattle.gate_edges.specs.Ahead.{Ahead, Polled, failed, empty, gave, polled_at, past_poll}
use Rattle.gate_edges.specs.Ahead.{dropped_at, past_count}
use Rattle.gate_edges.specs.Ahead.{send_fails, past_send, show_fails, past_show}
use Rattle.gate_edges.specs.Made.{Made, written}
use Rattle.outbox.specs.Outbox.{next_of}
use Rattle.gate_face.specs.Halves.{taking}
use Rattle.peer_half.specs.Standing.{Standing, doing_at, face_of, wall_of}
use Rattle.peer_half.specs.Acts.{Act, Acted}
use Rattle.peer_half.specs.Parts.{arrives, fails_polling, drops_foreign, commits, goes, tried, where_some}
use Rattle.peer_half.specs.Parts.{ends_sending, writes, makes_anew, installs, shows, shows_now}
use Rattle.peer_half.specs.Half.{half}
use Rattle.gate_run.specs.Comes.{comes, past_polls}
use Rattle.gate_run.specs.Course.{Point, heard, past_half, past_shows, shows_in}
use Rattle.gate_run.specs.Outcome.{made_by_all}
use Rattle.gate_run.specs.declared.stop.Stop.{Stop}
use Rattle.gate_run.specs.declared.stop.Stop.TheVariants.{Fault, NoMemory, NoJournal}

-- ---- where code stands, and what it made

-- a gateway at work shows how the run stands, and the outside tells what it will give
pub record IsAt (Shows : Standing → Type 0) (ahead : Option Ahead) (p : Point) : Type 0 where
  pub shown : Shows p.standing
  pub told : ahead ≡ Some p.ahead

-- a stage leads to a point, and makes this
pub record Reached : Type 0 where
  pub point : Point
  pub acts : List Act

abbrev pub stays : Point → Reached
stays p = record { point = p; acts = [] }

-- one stage, and then another
abbrev pub and_on : Reached → (Point → Reached) → Reached
and_on first next = record {
  point = (next first.point).point;
  acts = first.acts ++ (next first.point).acts;
}

-- code stands there, and made that
pub record Leads (Shows : Standing → Type 0) (reached : Reached) (ahead : Option Ahead) (before now : Option (List Made)) : Type 0 where
  pub at : IsAt Shows ahead reached.point
  pub made : Gains before now (made_by_all reached.acts)

-- the same of code that may stop: then it made a front of that
abbrev pub Goes : {X E : Type 0} → (Standing → Type 0) → Reached → Result X E → Option Ahead → Option (List Made) → Option (List Made) → Type 0
Goes Shows reached (Ok x) ahead before now = Leads Shows reached ahead before now
Goes Shows reached (Err e) ahead before now = GainsFront before now (made_by_all reached.acts)

-- code made that, or a front of it where it stopped
abbrev pub WentSo : {X E : Type 0} → Reached → Result X E → Option (List Made) → Option (List Made) → Type 0
WentSo reached (Ok x) before now = Gains before now (made_by_all reached.acts)
WentSo reached (Err e) before now = GainsFront before now (made_by_all reached.acts)

-- a text was written, or a front of it by code that stopped
abbrev pub WroteText : {X E : Type 0} → List ℕ → Result X E → Option (List Made) → Option (List Made) → Type 0
WroteText text (Ok x) before now = Gains before now (written text)
WroteText text (Err e) before now = GainsFront before now (written text)

-- these acts were made, or a front of them by code that stopped
abbrev pub Did : {X E : Type 0} → List Act → Result X E → Option (List Made) → Option (List Made) → Type 0
Did acts (Ok x) before now = Gains before now (made_by_all acts)
Did acts (Err e) before now = GainsFront before now (made_by_all acts)

-- the writes of code that may stop: it stopped by a failed one, or none failed
abbrev pub StopsWriting : {X : Type 0} → Result X Stop → Calls → Calls → Type 0
StopsWriting (Ok x) before now = NoneFailed before now
StopsWriting (Err Fault) before now = LastFailed before now
StopsWriting (Err NoMemory) before now = NoneFailed before now
StopsWriting (Err NoJournal) before now = NoneFailed before now

-- its calls on the journal: it stopped by a failed one, or none failed
abbrev pub StopsStoring : {X : Type 0} → Result X Stop → Calls → Calls → Type 0
StopsStoring (Ok x) before now = NoneFailed before now
StopsStoring (Err Fault) before now = NoneFailed before now
StopsStoring (Err NoMemory) before now = NoneFailed before now
StopsStoring (Err NoJournal) before now = LastFailed before now

-- ---- polls

abbrev pub is_given : Polled → Bool
is_given failed = false
is_given empty = false
is_given (gave datagram) = true

abbrev pub after_polled : Polled → Face → Standing → Standing
after_polled failed face s = fails_polling face s
after_polled empty face s = s
after_polled (gave datagram) face s = arrives face datagram s

abbrev pub past_polled : Face → Point → Point
past_polled face p = record {
  ahead = past_poll face p.ahead;
  standing = after_polled (polled_at face p.ahead) face p.standing;
}

unfoldable pub polls_within : ℕ → Face → Point → Point
polls_within zero face p = p
polls_within (suc n) face p =
    if is_given (polled_at face p.ahead) then polls_within n face (past_polled face p)
    else past_polled face p

-- the datagrams from elsewhere that were dropped are counted
abbrev pub past_counted : Face → Point → Point
past_counted face p = record {
  ahead = past_count face p.ahead;
  standing = drops_foreign face (dropped_at face p.ahead) p.standing;
}

-- the clocks were read already; what comes is taken
abbrev pub hears_over : Face → Point → Point
hears_over face p = record { ahead = past_polls face p.ahead; standing = heard face p }

-- ---- a part that makes acts by itself

abbrev pub over_part : (Standing → Acted) → Point → Reached
over_part part p = record {
  point = record { ahead = p.ahead; standing = (part p.standing).standing };
  acts = (part p.standing).acts;
}

-- the half's records are committed
abbrev pub commits_over : Point → Reached
commits_over = over_part commits

-- the journal's file is made anew; and where it is large
abbrev pub makes_anew_over : Point → Reached
makes_anew_over = over_part makes_anew

abbrev pub installs_over : Point → Reached
installs_over = over_part installs

-- ---- sends

abbrev pub next_at : Face → Point → Option (List ℕ)
next_at face p = next_of (face_of face p.standing).outbox

abbrev pub past_going : Face → List ℕ → Point → Point
past_going face datagram p = record {
  ahead = past_send face p.ahead;
  standing = goes face (send_fails face p.ahead) datagram (doing_at face taking p.standing);
}

-- the datagram that may go next, if one may
abbrev pub sends_one : Face → Point → Reached
sends_one face p =
    where_some (next_at face p)
    (λ datagram. record {
      point = past_going face datagram p;
      acts = tried face (send_fails face p.ahead) datagram ∷ [];
    })
    (stays p)

unfoldable pub sends_up_to : ℕ → Face → Point → Reached
sends_up_to zero face p = stays p
sends_up_to (suc n) face p =
    if is_some (next_at face p) then and_on (sends_one face p) (sends_up_to n face)
    else sends_one face p

abbrev pub sends_over : Face → Point → Reached
sends_over face p = sends_up_to (length ((face_of face p.standing).outbox).waiting) face p

-- ---- what is told

abbrev pub ends_over : Point → Point
ends_over p = record { ahead = p.ahead; standing = ends_sending p.standing }

abbrev pub writes_over : Point → Reached
writes_over p = record { point = p; acts = (writes p.standing).acts }

-- the metrics are due
abbrev pub shows_due : Point → Reached
shows_due p = record {
  point = record {
    ahead = past_show p.ahead;
    standing = record p.standing { shown = Some (wall_of p.standing) };
  };
  acts = shows_now (show_fails p.ahead) p.standing;
}

abbrev pub shows_over : (board : Bool) → Point → Reached
shows_over board p = record {
  point = record {
    ahead = past_shows (shows_in board p.standing) p.ahead;
    standing = (shows board (show_fails p.ahead) p.standing).standing;
  };
  acts = (shows board (show_fails p.ahead) p.standing).acts;
}

-- ---- what is done after what came was taken

-- the journal's file is made anew where it is large, and then the metrics are shown
abbrev pub shows_after : (board : Bool) → Point → Reached
shows_after board p = and_on (installs_over p) (shows_over board)

abbrev pub tells_over : (board : Bool) → Point → Reached
tells_over board p = and_on (writes_over (ends_over p)) (shows_after board)

abbrev pub sends_both : Point → Reached
sends_both p = and_on (sends_over Old p) (sends_over New)

abbrev pub sends_and_tells : (board : Bool) → Point → Reached
sends_and_tells board p = and_on (sends_both p) (tells_over board)

abbrev pub answers_over : (board : Bool) → Point → Reached
answers_over board p = and_on (commits_over p) (sends_and_tells board)

-- ---- halves

abbrev pub half_over : (board : Bool) → Face → Point → Reached
half_over board face p = record {
  point = past_half board face p;
  acts = (half board face (comes face p.ahead) p.standing).acts;
}

abbrev pub turn_over : (board : Bool) → Point → Reached
turn_over board p = and_on (half_over board Old p) (half_over board New)

unfoldable pub turns_over : (board : Bool) → ℕ → Point → Reached
turns_over board zero p = stays p
turns_over board (suc n) p = and_on (turn_over board p) (turns_over board n)

-- ---- a run

-- before the first turn the journal's file is made anew of what is recovered
abbrev pub run_over_turns : (board : Bool) → ℕ → Point → Reached
run_over_turns board turns p = and_on (makes_anew_over p) (turns_over board turns)
