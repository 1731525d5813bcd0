-- What the text of `link` says of its script: the red parts that its `up` lines have were handed up by
-- the events that the lines make, and by those of a drain after them; each is a block that a line
-- `send` has, whole and once; and where the link is hopeful and has room, a drain from there that the
-- plan doesn't end completes the sessions, in no more events than they cost and, where nobody is
-- turned away, old datagrams do that come once more.

use Rattle.std.specs.Prelude.{◌≡◌, ◌≢◌, ℕ, ◌+◌, ◌*◌, ◌≤◌, ◌⊎◌, Bool, nat_lt, length, map}
use Rattle.std.specs.Prelude.{List, [], ◌∷◌, ◌++◌, codes, Option, None, Some, Result, Ok}
use Rattle.std.specs.Prelude.{if◌then◌else◌}
use Rattle.std.specs.List.{AllByRecursion, flat_map}
use Rattle.std.specs.Fmt.{decimal}
use Rattle.hex.specs.Hex.{encode_lower}
use Rattle.edge_traits.specs.declared.status.Status.{Status}
use Rattle.edge_traits.specs.declared.status.Status.TheVariants as statuses
use Rattle.edge_traits.specs.Settled.{at_end}
use Rattle.command_frame.specs.InputLines.{lines_of, lines_within}
use Rattle.command_frame.specs.Within.{within}
use Rattle.ltp_segment.specs.declared.session.Note.{Note}
use Rattle.ltp_segment.specs.Notes.{note_name}
use Rattle.ltp_session.specs.Engine.{Party}
use Rattle.ltp_session.specs.World.{End as LinkEnd}
use Rattle.ltp_session.specs.World.{Event, World, clock, deliver, run, starts_world, submit}
use Rattle.ltp_laws.specs.Log.{HandUp, HandsUpFronts, Submission, hand_ups, submissions}
use Rattle.ltp_laws.specs.View.{IsIn}
use Rattle.ltp_drain.specs.Clean.{link_deadline}
use Rattle.ltp_drain.specs.Completion.{IsComplete}
use Rattle.ltp_drain.specs.Effects.{effects_in}
use Rattle.ltp_drain.specs.Effects.{EndEffects as LinkEffects}
use Rattle.ltp_drain.specs.Hopeful.{Hopeful, Room, cost}
use Rattle.ltp_picks.specs.CopyCosts.{copies_cost}
use Rattle.ltp_picks.specs.PickedRuns.{NoneTurnedAway, PickedRun, PicksNew, run_events}
use Rattle.ltp_picks.specs.Picks.{Pick, copies, crosses_at}
use Rattle.ltp_world.specs.Ends.{link_end, named}
use Rattle.contact_plan.specs.declared.window.Window.{Window}
use Rattle.contact_plan.specs.Windows.{elapsed, is_open, total}
use Rattle.replay_script.specs.NoteLines.{note_details}
use Rattle.replay_script.specs.declared.fault.LineFault.{LineFault}
use Rattle.replay_script.specs.declared.link.LinkEvent.{LinkEvent}
use Rattle.replay_script.specs.declared.link.LinkEvent.TheVariants as events
use Rattle.replay_script.specs.Words.{spaced}
use Rattle.node_run.specs.TextLines.{lines_with}
use Rattle.window_world.specs.Made.{EndsBy}
use Rattle.window_world.specs.Values.{later_of}
use Rattle.link_run.specs.Link.{LinkSetup, LinkStart, end_named, later_said, link_setup, settles}
use Rattle.link_run.specs.Link.{start_in}
use Rattle.link_run.specs.Picks.{said_picks}
use Rattle.link_run.specs.WrittenLines.{end_word}

-- ---- what the lines of a script say

-- the lines of windows
abbrev pub says_window : Window → Result LinkEvent LineFault
says_window w = Ok (events.Window w.from w.to)

-- the last line, where it drains the link
abbrev pub if_drain : Option LinkEvent → List LinkEvent
if_drain None = []
if_drain (Some drain) = drain ∷ []

-- what a line says that may be an event on the link: a block is sent, a datagram is delivered, or the
-- clock is set
abbrev pub IsEvent : LinkEvent → Type 0
IsEvent (events.Send first body) = Unit {0}
IsEvent (events.Deliver k) = Unit {0}
IsEvent (events.Clock now) = Unit {0}
IsEvent (events.Link segment timeout limit cap start) = ⊥
IsEvent (events.Window from to) = ⊥
IsEvent events.Drain = ⊥
IsEvent (events.DrainBy picks) = ⊥

-- The first line sets up a link, lines after it give its windows, further ones say these events,
-- and one after them drains the link, or none; these lines are left.
pub record SaysScript
    (lines : List (List ℕ)) (start : LinkStart) (windows : List Window) (said : List LinkEvent)
    (drain : Option LinkEvent) (left : List (List ℕ)) : Type 0 where
  pub first : List ℕ
  pub given : List (List ℕ)
  pub later : List (List ℕ)
  pub lines_are : lines ≡ first ∷ (given ++ (later ++ left))
  pub sets_up : start_in first ≡ Ok start
  pub gives : map later_said given ≡ map says_window windows
  pub says : map later_said later ≡ map Ok (said ++ if_drain drain)
  pub are_events : AllByRecursion IsEvent said

-- ---- what they make on the link

-- A block that is sent and a datagram that is delivered are events where the link is open at this
-- moment, and a clock is one where it doesn't go back: at contact time.
abbrev pub makes : LinkSetup → ℕ → LinkEvent → List Event
makes s moment (events.Send first body) =
    if is_open s.plan moment
    then submit (link_end (end_named first)) body (length body) ∷ [] else []
makes s moment (events.Deliver k) = if is_open s.plan moment then deliver k ∷ [] else []
makes s moment (events.Clock now) =
    if nat_lt now moment then [] else clock (elapsed s.plan now) ∷ []
makes s moment (events.Link segment timeout limit cap start) = []
makes s moment (events.Window from to) = []
makes s moment events.Drain = []
makes s moment (events.DrainBy picks) = []

-- the moment that the clock shows after it
abbrev pub moment_after : ℕ → LinkEvent → ℕ
moment_after moment (events.Clock now) = later_of moment now
moment_after moment (events.Send first body) = moment
moment_after moment (events.Deliver k) = moment
moment_after moment (events.Link segment timeout limit cap start) = moment
moment_after moment (events.Window from to) = moment
moment_after moment events.Drain = moment
moment_after moment (events.DrainBy picks) = moment

-- line by line
unfoldable pub made_by : LinkSetup → ℕ → List LinkEvent → List Event
made_by s moment [] = []
made_by s moment (said ∷ more) =
    makes s moment said ++ made_by s (moment_after moment said) more

-- from the beginning of a link on: its clock is set to the contact time of the first moment
abbrev pub script_events : LinkSetup → ℕ → List LinkEvent → List Event
script_events s now said = clock (elapsed s.plan now) ∷ made_by s now said

-- where some events lead, from a world on and from the beginning
abbrev pub after_all : Party × Party → World → List Event → World
after_all parties w made = run parties w made

abbrev pub link_by : LinkSetup → List Event → World
link_by s made = run s.parties (starts_world s.parties) made

-- ---- what a drain makes

-- the events of a drain with picks: their turns, and those after them, until nothing is left to do
pub record IsPickedDrain (parties : Party × Party) (w : World) (picks : List Pick)
    (made : List Event) : Type 0 where
  pub run : PickedRun parties w picks (length made) (after_all parties w made)
  pub events : made ≡ run_events parties w picks run.rest

-- A drain makes clean events as long as the next one has a moment; with picks their turns and those
-- after them, until nothing is left to do. Without a drain nothing is made.
abbrev pub DrainMakes : LinkSetup → World → Option LinkEvent → List Event → Type 0
DrainMakes s w None made = made ≡ []
DrainMakes s w (Some events.Drain) made =
    EndsBy (total s.plan) s.parties w (length w.sent) made
DrainMakes s w (Some (events.DrainBy picks)) made =
    IsPickedDrain s.parties w (said_picks picks) made
DrainMakes s w (Some (events.Link segment timeout limit cap start)) made = ⊥
DrainMakes s w (Some (events.Window from to)) made = ⊥
DrainMakes s w (Some (events.Send first body)) made = ⊥
DrainMakes s w (Some (events.Deliver k)) made = ⊥
DrainMakes s w (Some (events.Clock now)) made = ⊥

-- ---- that it completes the sessions

-- each session that was open at its sender is noted there as sent, and its red part was handed up
-- before or in the drain
abbrev pub Completes : LinkSetup → World → List Event → Type 0
Completes s w made = IsComplete s.parties w made (run s.parties w made)

-- A drain without picks has no more events than the sessions cost, however many gaps lie between,
-- and completes them where the plan doesn't end it.
pub record CompletesInTime (s : LinkSetup) (w : World) (made : List Event) : Type 0 where
  pub bound : length made ≤ cost s.parties w (run s.parties w made)
  pub complete : link_deadline (run s.parties w made) ≡ None → Completes s w made

-- One with picks completes them too. Where its picks are of new datagrams alone it has no more
-- events than the sessions cost. Else, where nobody is turned away, it has three more at most for
-- each old datagram that comes; and so no more than the segments of that one's session and 8.
pub record CompletesByPicks (s : LinkSetup) (w : World) (picks : List Pick) (made : List Event)
    : Type 0 where
  pub crossing :
      PicksNew picks
      → (length made ≤ cost s.parties w (run s.parties w made)) × Completes s w made
  pub tight :
      NoneTurnedAway (effects_in s.parties w made)
      → (length made
      ≤ cost s.parties w (run s.parties w made) + 3 * copies s.parties (crosses_at w) picks)
      × Completes s w made
  pub wide :
      NoneTurnedAway (effects_in s.parties w made)
      → length made
      ≤ cost s.parties w (run s.parties w made) + copies_cost s.parties w (crosses_at w) picks

-- where the link is hopeful and has room
abbrev pub DrainCompletes : LinkSetup → World → Option LinkEvent → List Event → Type 0
DrainCompletes s w None made = Unit {0}
DrainCompletes s w (Some events.Drain) made =
    Hopeful s.parties w → Room w → CompletesInTime s w made
DrainCompletes s w (Some (events.DrainBy picks)) made =
    Hopeful s.parties w → Room w → CompletesByPicks s w (said_picks picks) made
DrainCompletes s w (Some (events.Link segment timeout limit cap start)) made = Unit {0}
DrainCompletes s w (Some (events.Window from to)) made = Unit {0}
DrainCompletes s w (Some (events.Send first body)) made = Unit {0}
DrainCompletes s w (Some (events.Deliver k)) made = Unit {0}
DrainCompletes s w (Some (events.Clock now)) made = Unit {0}

-- ---- the lines of a text, by how they begin

-- the lines that say that a red part was handed up; the notes; and those that say that a drain
-- ended, or that the plan ended it
abbrev pub up_lines_in : List ℕ → List (List ℕ)
up_lines_in text = lines_with (codes "up ") (lines_of text)

abbrev pub note_lines_in : List ℕ → List (List ℕ)
note_lines_in text = lines_with (codes "note ") (lines_of text)

abbrev pub end_lines_in : List ℕ → List (List ℕ)
end_lines_in text = lines_with (codes "end ") (lines_of text)

abbrev pub stop_lines_in : List ℕ → List (List ℕ)
stop_lines_in text = lines_with (codes "stop ") (lines_of text)

-- the line of a red part, and that of a note
abbrev pub up_text : HandUp → List ℕ
up_text u =
    spaced (codes "up" ∷ end_word (named u.end) ∷ decimal u.session ∷ encode_lower u.body ∷ [])

abbrev pub note_text : LinkEnd × Note → List ℕ
note_text n =
    spaced (codes "note" ∷ end_word (named n.0) ∷ note_name n.1 ∷ note_details n.1)

-- those of the end of a drain, with how many events it had
abbrev pub end_text : ℕ → List ℕ
end_text n = spaced (codes "end" ∷ decimal n ∷ [])

abbrev pub stop_text : ℕ → List ℕ
stop_text n = spaced (codes "stop" ∷ decimal n ∷ [])

-- a drain without picks ends where no timer runs, and else the plan ends it
abbrev pub TellsLast : Option ℕ → ℕ → List (List ℕ) → List (List ℕ) → Type 0
TellsLast None n ends stops = (ends ≡ end_text n ∷ []) × (stops ≡ [])
TellsLast (Some deadline) n ends stops = (ends ≡ []) × (stops ≡ stop_text n ∷ [])

-- these are the lines of the end of a drain that made these events
abbrev pub TellsEnd :
    LinkSetup → World → Option LinkEvent → List Event → List (List ℕ) → List (List ℕ) → Type 0
TellsEnd s w (Some events.Drain) made ends stops =
    TellsLast (link_deadline (run s.parties w made)) (length made) ends stops
TellsEnd s w (Some (events.DrainBy picks)) made ends stops =
    (ends ≡ end_text (length made) ∷ []) × (stops ≡ [])
TellsEnd s w None made ends stops = (ends ≡ []) × (stops ≡ [])
TellsEnd s w (Some (events.Link segment timeout limit cap start)) made ends stops = ⊥
TellsEnd s w (Some (events.Window from to)) made ends stops = ⊥
TellsEnd s w (Some (events.Send first body)) made ends stops = ⊥
TellsEnd s w (Some (events.Deliver k)) made ends stops = ⊥
TellsEnd s w (Some (events.Clock now)) made ends stops = ⊥

-- the notes of ends, in order
abbrev pub notes_of : LinkEffects → List (LinkEnd × Note)
notes_of e = map (λ note. (e.end, note)) e.effects.notes

-- ---- the law

-- a block that was submitted is that of a line `send`, and all of it is red
abbrev pub IsSent : List LinkEvent → Submission → Type 0
IsSent said p =
    (first : Bool) × (IsIn (events.Send first p.block) said)
    × (link_end (end_named first) ≡ p.from) × (p.red ≡ length p.block)

-- The text of a script that sets up a link; where the run is done, these are all its lines. Its `up`
-- lines are exactly the red parts that are handed up at the events that the lines make and at those
-- of a drain after them, and its notes those of these events; a line `end` or `stop` has the number
-- of the drain's. Each red part is the front of the block that was submitted for its session, up to
-- its red length; each of these is the block of a line `send`, all of it red; no session's is handed
-- up twice, and no session number is given twice. And a drain completes the sessions, where
-- `DrainCompletes` says so.
pub record PlaysScript (lines : List (List ℕ)) (text : List ℕ) (ending : Status) : Type 0 where
  pub start : LinkStart
  pub windows : List Window
  pub said : List LinkEvent
  pub drain : Option LinkEvent
  pub left : List (List ℕ)
  pub says : SaysScript lines start windows said drain left
  pub all : ending ≡ statuses.Done → left ≡ []
  pub made : List Event
  pub drains :
      DrainMakes (link_setup start windows)
      (link_by (link_setup start windows) (script_events (link_setup start windows) start.now said))
      drain made
  pub ups :
      up_lines_in text
      ≡ map up_text
      (hand_ups (link_setup start windows).parties (starts_world (link_setup start windows).parties)
      (script_events (link_setup start windows) start.now said ++ made))
  pub notes :
      note_lines_in text
      ≡ map note_text
      (flat_map notes_of
      (effects_in (link_setup start windows).parties
      (starts_world (link_setup start windows).parties)
      (script_events (link_setup start windows) start.now said ++ made)))
  pub end :
      TellsEnd (link_setup start windows)
      (link_by (link_setup start windows) (script_events (link_setup start windows) start.now said))
      drain made (end_lines_in text) (stop_lines_in text)
  pub fronts :
      HandsUpFronts (link_setup start windows).parties
      (submissions (link_setup start windows).parties
      (starts_world (link_setup start windows).parties)
      (script_events (link_setup start windows) start.now said ++ made))
      (hand_ups (link_setup start windows).parties (starts_world (link_setup start windows).parties)
      (script_events (link_setup start windows) start.now said ++ made))
  pub sent :
      AllByRecursion (IsSent said)
      (submissions (link_setup start windows).parties
      (starts_world (link_setup start windows).parties)
      (script_events (link_setup start windows) start.now said ++ made))
  pub completes :
      DrainCompletes (link_setup start windows)
      (link_by (link_setup start windows) (script_events (link_setup start windows) start.now said))
      drain made

-- or nothing is told of a link, and the run isn't done: so where none is set up, and where a limit is
-- passed or a line is refused before anything is told
pub record PlaysNothing (text : List ℕ) (ending : Status) : Type 0 where
  pub undone : ending ≢ statuses.Done
  pub ups : up_lines_in text ≡ []
  pub notes : note_lines_in text ≡ []
  pub ends : end_lines_in text ≡ []
  pub stops : stop_lines_in text ≡ []

-- what is promised of a link, of the text that `link` writes of an input of which at most so many
-- octets are looked at
abbrev pub KeepsLinkLaw : ℕ → List ℕ → List ℕ → Status → Type 0
KeepsLinkLaw most input text ending =
    PlaysScript (lines_within most input) text ending ⊎ PlaysNothing text ending

-- what `link` answers to every input keeps it
pub record EndsLawfully (most : ℕ) (input : List ℕ) : Type 0 where
  pub ending : Status
  pub ends : (within most settles at_end input).ends ≡ Some ending
  pub law : KeepsLinkLaw most input (within most settles at_end input).text ending

abbrev pub LinksKeepLaw : Type 0
LinksKeepLaw = (most : ℕ) (input : List ℕ) → EndsLawfully most input
