-- What the text of `world` says of its script: the answers to the events that its lines say, and to
-- those of a drain after them. Each `up` line is a block that came whole and as it was sent, once; and
-- where a path is hopeful and has room, a drain from there completes the sessions, in no more events
-- than they cost.
use Rattle.std.specs.Prelude.{◌≡◌, ℕ, ◌+◌, ◌<◌, ◌≤◌, nat_lt, ◌⊎◌, Bool, true, false, length, map, take, List, [], ◌∷◌, ◌++◌}
use Rattle.std.specs.Prelude.{slice_index_or, codes, None, Some, Ok, Err, if◌then◌else◌}
use Rattle.std.specs.List.{AllByRecursion}
use Rattle.edge_traits.specs.declared.status.Status.{Status}
use Rattle.edge_traits.specs.declared.status.Status.TheVariants as statuses
use Rattle.edge_traits.specs.Settled.{at_end}
use Rattle.command_frame.specs.InputLines.{lines_of, lines_within}
use Rattle.command_frame.specs.Within.{within}
use Rattle.ltp_segment.specs.Spelling.{segment_octets}
use Rattle.replay_script.specs.declared.fault.LineFault.{LineFault}
use Rattle.replay_script.specs.declared.fault.LineFault.TheVariants as faults
use Rattle.replay_script.specs.Words.{spaced}
use Rattle.ltp_laws.specs.View.{IsIn}
use Rattle.gate_cases.specs.declared.face.Face.{Face}
use Rattle.path_laws.specs.declared.effects.EndJoin.{EndJoin}
use Rattle.path_laws.specs.declared.effects.JoinAt.{JoinAt}
use Rattle.path_laws.specs.declared.effects.NoteAt.{NoteAt}
use Rattle.path_laws.specs.declared.effects.UpAt.{UpAt}
use Rattle.path_laws.specs.declared.places.PathEnd.{PathEnd}
use Rattle.path_laws.specs.declared.places.PathEnd.TheVariants as ends
use Rattle.path_laws.specs.declared.places.Place.{Place}
use Rattle.path_laws.specs.declared.places.Place.TheVariants as places
use Rattle.path_laws.specs.Path.{PathSetup, Path, SentFrom, PathEvent, starts_path, path_step, path_run}
use Rattle.path_laws.specs.Path.{fragments_in, joins_told}
use Rattle.path_laws.specs.Laws.{HandsOn}
use Rattle.path_laws.specs.Log.{Begun, begun_at, ups_in}
use Rattle.path_laws.specs.Places.{face_of, face_place}
use Rattle.path_drain.specs.PathRoom.{PathRoom}
use Rattle.path_drain.specs.Clean.{AreCleanOnPathFrom}
use Rattle.path_drain.specs.Effects.{notes_in}
use Rattle.path_drain.specs.Hopeful.{PathHopeful}
use Rattle.path_drain.specs.Left.{IsBefore}
use Rattle.path_drain.specs.Arrival.{IsPassedOnIn}
use Rattle.path_drain.specs.CarriedOut.{IsReportBegun, IsReportNoted, PiecesBegin}
use Rattle.path_drain.specs.Completion.{IsCaseNotedIn}
use Rattle.path_drain.specs.Decided.{IsBegunIn}
use Rattle.path_drain.specs.WholeRun.{IsRunComplete, run_begun, run_path, run_ups}
use Rattle.node_run.specs.TextLines.{lines_with, up_lines}
use Rattle.world_run.specs.WrittenLines.{sent_words, up_words, note_words, join_words, end_words}
use Rattle.world_run.specs.WrittenLines.{refusal_line, after_drain_line}
use Rattle.world_run.specs.World.{PathStart, LaterLine, says_event, says_drain, start_in, line_in}
use Rattle.world_run.specs.World.{no_moment, is_late, is_late_if_any, most_sent, octets_sent}
use Rattle.world_run.specs.World.{drain_made, clean_after, events_text, drain_text, world_rules, settles}

-- ---- what the lines of a script say

-- the line `drain`, or none
abbrev pub if_drain : Bool → List LaterLine
if_drain true = says_drain ∷ []
if_drain false = []

-- what the lines after the first say: events, and after them that the path is drained, or not
abbrev pub lines_said : List PathEvent → Bool → List LaterLine
lines_said events drains = map says_event events ++ if_drain drains

-- the first of these lines say how a path is set up, the events on it, and whether it is drained
-- then; these lines are left
pub record SaysScript
    (lines : List (List ℕ)) (start : PathStart) (events : List PathEvent) (drains : Bool)
    (left : List (List ℕ)) : Type 0 where
  pub first : List ℕ
  pub later : List (List ℕ)
  pub lines_are : lines ≡ first ∷ (later ++ left)
  pub sets_up : start_in first ≡ Ok start
  pub says : map line_in later ≡ map Ok (lines_said events drains)

-- ---- what a drain makes, and what is written of it

-- A drain makes clean events, none past the last moment, until none can follow. Without one nothing
-- is made.
abbrev pub DrainMakes : Bool → PathSetup → Path → List PathEvent → Type 0
DrainMakes true s w made =
    AreCleanOnPathFrom s w made × AllByRecursion (IsBefore no_moment) made
    × (clean_after s w made ≡ None)
DrainMakes false s w made = made ≡ []

-- the lines of its events and `end`, with how many they are
abbrev pub if_drained_text : Bool → PathSetup → Path → List PathEvent → List ℕ
if_drained_text true s w made = drain_text s w made
if_drained_text false s w made = []

-- ---- limits

-- line n is one too many, or too long
abbrev pub IsPastLines : ℕ → List ℕ → Type 0
IsPastLines n line = (world_rules.lines < n) ⊎ (world_rules.octets < length line)

-- what a line says isn't done on a path: the clock would be set past the last moment, or all datagrams
-- together would have too many octets
abbrev pub IsPastPath : PathSetup → Path → LaterLine → Type 0
IsPastPath s w (says_event event) =
    (is_late event ≡ true) ⊎ (most_sent < octets_sent (path_step s w event).path.sent)
IsPastPath s w says_drain =
    (is_late_if_any (clean_after s w (drain_made s w)) ≡ true)
    ⊎ (most_sent < octets_sent (path_run s w (drain_made s w)).sent)

-- line n passes a limit, on a path or after its drain
abbrev pub PassesLimit : Bool → PathSetup → Path → ℕ → List ℕ → Type 0
PassesLimit true s w n line = IsPastLines n line
PassesLimit false s w n line =
    IsPastLines n line ⊎ ((said : LaterLine) × (line_in line ≡ Ok said) × IsPastPath s w said)

-- The next line, line n, passes a limit; or none is left, and the input is longer than is looked at.
abbrev pub LimitsNext : Bool → Bool → PathSetup → Path → ℕ → List (List ℕ) → Type 0
LimitsNext longer drained s w n [] = longer ≡ true
LimitsNext longer drained s w n (line ∷ left) = PassesLimit drained s w n line

-- the first line is too long, or its clock shows no moment
abbrev pub PassesFirst : List ℕ → Type 0
PassesFirst line =
    IsPastLines 1 line ⊎ ((start : PathStart) × (start_in line ≡ Ok start) × (no_moment ≤ start.now))

-- ---- how the text ends

-- line n is refused: after a drain whatever it says, and else for what it says
abbrev pub RefusesLine : Bool → ℕ → List ℕ → List ℕ → Type 0
RefusesLine true n line closing = closing ≡ after_drain_line n
RefusesLine false n line closing =
    (fault : LineFault) × (line_in line ≡ Err fault) × (closing ≡ refusal_line n fault)

-- the next line, line n, is neither one too many nor too long, and is refused
abbrev pub RefusesNext : Bool → ℕ → List (List ℕ) → List ℕ → Type 0
RefusesNext drained n [] closing = ⊥
RefusesNext drained n (line ∷ left) closing = (IsPastLines n line → ⊥) × RefusesLine drained n line closing

-- How the text ends after what happens, by how the run ends. Where it is done, the input has been looked
-- at whole, all lines were answered, and nothing more is written. Where it ends at a limit, the next line,
-- line n, or the length of the input passes that limit, and nothing more is written. Else the next line
-- passes none, and is refused.
abbrev pub ClosesAs : Bool → PathSetup → Path → Status → Bool → ℕ → List (List ℕ) → List ℕ → Type 0
ClosesAs longer s w statuses.Done drained n left closing = (longer ≡ false) × (left ≡ []) × (closing ≡ [])
ClosesAs longer s w statuses.Limit drained n left closing =
    LimitsNext longer drained s w n left × (closing ≡ [])
ClosesAs longer s w statuses.Refused drained n left closing = RefusesNext drained n left closing
ClosesAs longer s w statuses.Usage drained n left closing = ⊥
ClosesAs longer s w statuses.ReadFault drained n left closing = ⊥
ClosesAs longer s w statuses.WriteFault drained n left closing = ⊥
ClosesAs longer s w statuses.Memory drained n left closing = ⊥

-- ---- the lines of a text, by how they begin

-- the lines that say that a datagram was sent, the notes, what the ends' joiners answered, and the lines
-- that say that a drain ended
abbrev pub datagram_lines : List ℕ → List (List ℕ)
datagram_lines text = lines_with (codes "sent ") (lines_of text)

abbrev pub note_lines : List ℕ → List (List ℕ)
note_lines text = lines_with (codes "note ") (lines_of text)

abbrev pub join_lines : List ℕ → List (List ℕ)
join_lines text = lines_with (codes "join ") (lines_of text)

abbrev pub end_lines : List ℕ → List (List ℕ)
end_lines text = lines_with (codes "end ") (lines_of text)

-- datagrams, of which the first has number k
unfoldable pub datagram_texts : ℕ → List SentFrom → List (List ℕ)
datagram_texts k [] = []
datagram_texts k (d ∷ sent) =
    spaced (sent_words k d.from (segment_octets d.segment)) ∷ datagram_texts (k + 1) sent

abbrev pub up_text : UpAt → List ℕ
up_text up = spaced (up_words up)

abbrev pub note_text : NoteAt → List ℕ
note_text n = spaced (note_words n)

abbrev pub join_text : JoinAt → List ℕ
join_text j = spaced (join_words j)

-- the line that says that a drain ended after so many events, where there was one
abbrev pub end_texts : Bool → ℕ → List (List ℕ)
end_texts true n = spaced (end_words n) ∷ []
end_texts false n = []

-- ---- fragments that come to an end

-- what joiners answer in some events, in order
unfoldable pub joins_in : PathSetup → Path → List PathEvent → List JoinAt
joins_in s w [] = []
joins_in s w (event ∷ events) =
    (path_step s w event).effects.joins ++ joins_in s (path_step s w event).path events

-- an end's node is at this place
abbrev pub is_node : PathEnd → Place → Bool
is_node ends.Old places.OldNode = true
is_node ends.Old places.OldFace = false
is_node ends.Old places.NewFace = false
is_node ends.Old places.NewNode = false
is_node ends.New places.OldNode = false
is_node ends.New places.OldFace = false
is_node ends.New places.NewFace = false
is_node ends.New places.NewNode = true

-- of these what an end's joiner answers
unfoldable pub answers_at : PathEnd → List JoinAt → List EndJoin
answers_at end [] = []
answers_at end (j ∷ joins) =
    if is_node end j.place then j.answer ∷ answers_at end joins else answers_at end joins

-- the blocks that came whole at an end
unfoldable pub blocks_at : PathEnd → List UpAt → List (List ℕ)
blocks_at end [] = []
blocks_at end (up ∷ ups) =
    if is_node end up.place then up.body ∷ blocks_at end ups else blocks_at end ups

-- An end has one joiner, to which nothing came before. Of all answers its own are those to the
-- fragments among the blocks that came whole there, one after another.
abbrev pub JoinsFragments : PathEnd → List UpAt → List JoinAt → Type 0
JoinsFragments end ups joins =
    answers_at end joins
    ≡ joins_told (face_of end) [] (fragments_in (face_of end) (blocks_at end ups))

-- ---- what the gate decides

-- A block came whole at a face in one of some events, and the gate did with it as it decided then.
-- event notes the block's case; with it each piece of a bundle that passes begins its session at the other
-- face, and where it notes a report the report begins its own at this one.
pub record IsDoneIn
    (s : PathSetup) (w : Path) (events : List PathEvent) (face : Face) (up : UpAt) : Type 0 where
  pub case : IsCaseNotedIn s w events face up
  pub pieces : PiecesBegin s (path_run s w case.earlier) case.event face up
  pub report :
      IsReportNoted (path_step s (path_run s w case.earlier) case.event).effects.notes face up
      → IsReportBegun s (path_run s w case.earlier)
      (begun_at s (path_run s w case.earlier) case.event) face up

-- ---- the law

-- a drain completes its sessions: each that was open at its sender, and each that was begun meanwhile, in
-- no more events than they cost; and each piece of a bundle that comes whole to the gate in it, and
-- passes, is handed up at the other end
pub record CompletesDrain (s : PathSetup) (start : ℕ) (events made : List PathEvent) : Type 0 where
  pub sessions : IsRunComplete s start events made
  pub arrives :
      (face : Face) (up : UpAt) → IsIn up (ups_in s (run_path s start events) made)
      → up.place ≡ face_place face
      → IsPassedOnIn s (run_path s start events) made face up

-- so it is where a path is drained that is hopeful and has room
abbrev pub DrainCompletes : Bool → PathSetup → ℕ → List PathEvent → List PathEvent → Type 0
DrainCompletes true s start events made =
    PathHopeful s (run_path s start events) → PathRoom s (run_path s start events)
    → CompletesDrain s start events made
DrainCompletes false s start events made = Unit {0}

-- The text of a script that sets up a path. It is what happens in these events, and in those of a
-- drain after them, where there is one, with their number; after it at most the line of a refusal
-- follows. No line that is answered passes a limit: so a run that isn't refused ends at one if and only
-- if its script passes one. Its `sent` lines are exactly the datagrams that were sent, with their numbers, its `up` lines
-- the blocks that came whole, its notes those that were made, and its `join` lines what the ends' joiners
-- answered: those of an end to the fragments among the blocks that came whole there.
-- After each of the events holds of the blocks all that `HandsOn` says, by what was begun up to then:
-- each is the whole block of the session of that number that was begun across the link; no two came
-- at one place in one session; and at either end each is a piece of what becomes of one bundle that
-- the other end sent, or a report on one that it sent itself, different ones from different origins.
-- Each block that came whole to the gate has its case noted with it, as the gate decided then; each of
-- the pieces of one that passes began a session at the other face with it, and so did a report that was
-- noted, at its own face; and each session that the gate began is a piece of such a block, or a report on
-- it, as it decided then.
-- And from a path that is hopeful and has room a drain completes the sessions, and what passes in it
-- arrives.
pub record PlaysScript
    (longer : Bool) (lines : List (List ℕ)) (text : List ℕ) (ending : Status) : Type 0 where
  pub start : PathStart
  pub events : List PathEvent
  pub drains : Bool
  pub left : List (List ℕ)
  pub says : SaysScript lines start events drains left
  pub made : List PathEvent
  pub drain : DrainMakes drains start.setup (run_path start.setup start.now events) made
  pub closing : List ℕ
  pub closes :
      ClosesAs longer start.setup (run_path start.setup start.now events) ending drains
      (2 + length (lines_said events drains)) left closing
  pub first_within : PassesFirst says.first → ⊥
  pub none_before :
      (i : ℕ) → i < length (lines_said events drains)
      → PassesLimit false start.setup (run_path start.setup start.now (take i events)) (2 + i)
      (slice_index_or says.later i [])
      → ⊥
  pub written :
      text
      ≡ events_text start.setup (starts_path start.setup start.now) events
      ++ (if_drained_text drains start.setup (run_path start.setup start.now events) made ++ closing)
  pub sents :
      datagram_lines text ≡ datagram_texts 0 (run_path start.setup start.now (events ++ made)).sent
  pub ups : up_lines text ≡ map up_text (run_ups start.setup start.now (events ++ made))
  pub notes :
      note_lines text
      ≡ map note_text (notes_in start.setup (starts_path start.setup start.now) (events ++ made))
  pub joins :
      join_lines text
      ≡ map join_text (joins_in start.setup (starts_path start.setup start.now) (events ++ made))
  pub end : end_lines text ≡ end_texts drains (length made)
  pub joined :
      (end : PathEnd) → JoinsFragments end (run_ups start.setup start.now (events ++ made))
      (joins_in start.setup (starts_path start.setup start.now) (events ++ made))
  pub hands_on :
      (earlier later : List PathEvent) → events ++ made ≡ earlier ++ later
      → HandsOn start.setup (run_begun start.setup start.now earlier)
      (run_ups start.setup start.now earlier)
  pub carried_out :
      (face : Face) (up : UpAt) → IsIn up (run_ups start.setup start.now (events ++ made))
      → up.place ≡ face_place face
      → IsDoneIn start.setup (starts_path start.setup start.now) (events ++ made) face up
  pub decided :
      (b : Begun) → IsIn b (run_begun start.setup start.now (events ++ made))
      → IsBegunIn start.setup (starts_path start.setup start.now) (events ++ made) b
  pub completes : DrainCompletes drains start.setup start.now events made

-- No path is set up, and no line is answered: the input passes its limit before its first line ends; the
-- first line passes one; or it is refused for what it says, or for want of it.
abbrev pub ClosesFirst : Bool → Status → List (List ℕ) → List ℕ → Type 0
ClosesFirst longer statuses.Limit [] text = (longer ≡ true) × (text ≡ [])
ClosesFirst longer statuses.Limit (first ∷ lines) text = PassesFirst first × (text ≡ [])
ClosesFirst longer statuses.Refused [] text = (longer ≡ false) × (text ≡ refusal_line 1 faults.Word)
ClosesFirst longer statuses.Refused (first ∷ lines) text =
    (IsPastLines 1 first → ⊥)
    × ((fault : LineFault) × (start_in first ≡ Err fault) × (text ≡ refusal_line 1 fault))
ClosesFirst longer statuses.Done lines text = ⊥
ClosesFirst longer statuses.Usage lines text = ⊥
ClosesFirst longer statuses.ReadFault lines text = ⊥
ClosesFirst longer statuses.WriteFault lines text = ⊥
ClosesFirst longer statuses.Memory lines text = ⊥

-- what is promised of a path, of the text that `world` writes of an input of which at most so many
-- octets are looked at
abbrev pub KeepsHeadline : ℕ → List ℕ → List ℕ → Status → Type 0
KeepsHeadline most input text ending =
    PlaysScript (nat_lt most (length input)) (lines_within most input) text ending
    ⊎ ClosesFirst (nat_lt most (length input)) ending (lines_within most input) text

-- what `world` answers to every input keeps it
pub record EndsLawfully (most : ℕ) (input : List ℕ) : Type 0 where
  pub ending : Status
  pub ends : (within most settles at_end input).ends ≡ Some ending
  pub law : KeepsHeadline most input (within most settles at_end input).text ending

abbrev pub WorldsKeepHeadline : Type 0
WorldsKeepHeadline = (most : ℕ) (input : List ℕ) → EndsLawfully most input
