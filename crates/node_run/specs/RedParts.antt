-- What `node` writes and hands up over a run, whoever is at the other end (RFC 5326, section 6.9): the
-- answers to the events that its lines say, and a red part with the event that makes it whole, and
-- with no other.
use Rattle.std.specs.Prelude.{◌≡◌, ℕ, ◌+◌, ◌<◌, ◌↔◌, ◌⊎◌, Bool, true, false, nat_lt, length, take, drop, map, reverse, slice_index_or, List, [], ◌∷◌, ◌++◌, Some, Result, Ok, Err}
use Rattle.edge_traits.specs.declared.status.Status.{Status}
use Rattle.edge_traits.specs.declared.status.Status.TheVariants as statuses
use Rattle.edge_traits.specs.Settled.{at_end}
use Rattle.command_frame.specs.InputLines.{lines_within}
use Rattle.command_frame.specs.Within.{within}
use Rattle.ltp_segment.specs.Reading.{segment_of}
use Rattle.ltp_session.specs.RedPart.{BecomesWhole}
use Rattle.ltp_session.specs.Engine.{Party, EngineStep, SubmitFault, UpValue}
use Rattle.ltp_laws.specs.View.{IsIn}
use Rattle.ltp_engine.specs.Effects.{effects_of, up_of}
use Rattle.ltp_engine.specs.RedParts.{Coming, a_block_comes, a_datagram_comes, a_moment_comes, unless_faulty, pieces_of, EachOnce}
use Rattle.replay_script.specs.declared.event.NodeEvent.{NodeEvent}
use Rattle.replay_script.specs.declared.event.NodeEvent.TheVariants as events
use Rattle.replay_script.specs.declared.fault.LineFault.{LineFault}
use Rattle.replay_script.specs.Events.{node_event_of}
use Rattle.replay_script.specs.Words.{spaced}
use Rattle.node_run.specs.WrittenLines.{effects_text, block_line, refusal_line, up_words}
use Rattle.node_run.specs.TextLines.{up_lines}
use Rattle.node_run.specs.Node.{NodeState, begins, is_late, moment_of, engine_does, at_moment, node_party, node_rules, settles}

-- ---- after some events

-- what the engine does about an event
abbrev pub done_at : NodeState → NodeEvent → Result EngineStep SubmitFault
done_at node event = engine_does node.party node.engine (moment_of node.now event) event

-- the node after an event that is answered
abbrev pub after_event : NodeState → NodeEvent → NodeState
after_event node event = record (at_moment node (moment_of node.now event)) {
  engine = unless_faulty node.engine (done_at node event);
}

-- the node after some events, the newest first
unfoldable pub node_after : Party → List NodeEvent → NodeState
node_after p [] = begins p
node_after p (event ∷ earlier) = after_event (node_after p earlier) event

-- ---- red parts

-- those that are handed up
abbrev pub ups_in : Result EngineStep SubmitFault → List UpValue
ups_in (Ok step) = step.effects.ups
ups_in (Err fault) = []

-- those that are handed up with an event
abbrev pub ups_at : NodeState → NodeEvent → List UpValue
ups_at node event = ups_in (done_at node event)

-- all that are handed up with some events, of which the newest stands first: in their order, the oldest
-- events' first
unfoldable pub all_ups : Party → List NodeEvent → List UpValue
all_ups p [] = []
all_ups p (event ∷ earlier) = all_ups p earlier ++ ups_at (node_after p earlier) event

-- what an event at a moment brings to the engine
abbrev pub coming_of : ℕ → NodeEvent → Coming
coming_of now (events.In datagram) = a_datagram_comes (segment_of datagram) now
coming_of now (events.Send block) = a_block_comes block (length block) now
coming_of now (events.Clock moment) = a_moment_comes now

-- the clock after some events, and what they bring, the newest first
unfoldable pub clock_after : List NodeEvent → ℕ
clock_after [] = 0
clock_after (event ∷ earlier) = moment_of (clock_after earlier) event

unfoldable pub comings_of : List NodeEvent → List Coming
comings_of [] = []
comings_of (event ∷ earlier) = coming_of (clock_after (event ∷ earlier)) event ∷ comings_of earlier

-- with an event after these exactly the red parts are handed up that it makes whole: place by place the
-- first octet that came
abbrev pub HandsUpWhole : Party → List NodeEvent → NodeEvent → Type 0
HandsUpWhole p earlier event =
    (n : ℕ) (body : List ℕ)
    → IsIn (record { session = n; body = body }) (ups_at (node_after p earlier) event)
    ↔ BecomesWhole (pieces_of p n (comings_of earlier)) (pieces_of p n (comings_of (event ∷ earlier))) body

-- ---- what is written

-- the text of an answer
abbrev pub answer_text : Result EngineStep SubmitFault → List ℕ
answer_text (Ok step) = effects_text (effects_of step.effects)
answer_text (Err fault) = block_line fault

-- all that is written for some events, the newest first
unfoldable pub text_after : Party → List NodeEvent → List ℕ
text_after p [] = []
text_after p (event ∷ earlier) = text_after p earlier ++ answer_text (done_at (node_after p earlier) event)

-- nothing, or that a line is refused
abbrev pub IsClosing : List ℕ → Type 0
IsClosing closing = (closing ≡ []) ⊎ ((n : ℕ) × (fault : LineFault) × (closing ≡ refusal_line n fault))

-- line n is one too many, or too long, or would set the clock past the last moment
abbrev pub PassesLimit : ℕ → List ℕ → Type 0
PassesLimit n line =
    (node_rules.lines < n) ⊎ (node_rules.octets < length line)
    ⊎ ((event : NodeEvent) × (node_event_of line ≡ Ok event) × (is_late event ≡ true))

-- The next line, line n, passes a limit; or none is left, and the input is longer than is looked at.
abbrev pub LimitsNext : Bool → ℕ → List (List ℕ) → Type 0
LimitsNext longer n [] = longer ≡ true
LimitsNext longer n (line ∷ left) = PassesLimit n line

-- the next line, line n, passes no limit, and is refused for what it says
abbrev pub RefusesNext : ℕ → List (List ℕ) → List ℕ → Type 0
RefusesNext n [] closing = ⊥
RefusesNext n (line ∷ left) closing =
    (PassesLimit n line → ⊥)
    × ((fault : LineFault) × (node_event_of line ≡ Err fault) × (closing ≡ refusal_line n fault))

-- How the text ends, by how the run ends. Where it is done, the input has been looked at whole, all lines
-- were answered, and nothing more is written. Where it ends at a limit, the next line, line n, or the
-- length of the input passes it, and nothing more is written. Else the next line passes none, and is
-- refused.
abbrev pub ClosesAs : Bool → Status → ℕ → List (List ℕ) → List ℕ → Type 0
ClosesAs longer statuses.Done n left closing = (longer ≡ false) × (left ≡ []) × (closing ≡ [])
ClosesAs longer statuses.Limit n left closing = LimitsNext longer n left × (closing ≡ [])
ClosesAs longer statuses.Refused n left closing = RefusesNext n left closing
ClosesAs longer statuses.Usage n left closing = ⊥
ClosesAs longer statuses.ReadFault n left closing = ⊥
ClosesAs longer statuses.WriteFault n left closing = ⊥
ClosesAs longer statuses.Memory n left closing = ⊥

-- a line that says that a red part is handed up
abbrev pub up_text : UpValue → List ℕ
up_text up = spaced (up_words (up_of up))

-- The text is what is written for the events that the first lines say, and after it what the end of the
-- run asks for; the lines are those of an input of which at most so many octets are looked at. No line
-- that is answered passes a limit: so a run that isn't refused ends at one if and only if its input
-- passes one. Its `up` lines are exactly the red parts that are handed up with these events, in their
-- order: no session's twice, and each with the event that makes it whole, and with no other.
pub record AnswersLines (p : Party) (most : ℕ) (input text : List ℕ) (ending : Status) : Type 0 where
  pub events : List NodeEvent
  pub closing : List ℕ
  pub said : map node_event_of (take (length events) (lines_within most input)) ≡ map Ok (reverse events)
  pub written : text ≡ text_after p events ++ closing
  pub closes :
      ClosesAs (nat_lt most (length input)) ending (1 + length events)
      (drop (length events) (lines_within most input)) closing
  pub none_before :
      (i : ℕ) → i < length events → PassesLimit (1 + i) (slice_index_or (lines_within most input) i []) → ⊥
  pub ups : up_lines text ≡ map up_text (all_ups p events)
  pub once : EachOnce (all_ups p events)
  pub whole :
      (earlier later : List NodeEvent) (event : NodeEvent) → events ≡ later ++ event ∷ earlier
      → HandsUpWhole p earlier event

-- ---- the laws

-- how the run of an input ends, and that its text is so
pub record IsAnswered (own peer most : ℕ) (input : List ℕ) : Type 0 where
  pub ending : Status
  pub ends : (within most (settles own peer) at_end input).ends ≡ Some ending
  pub law :
      AnswersLines (node_party own peer) most input (within most (settles own peer) at_end input).text ending

-- what `node` answers to an input is what it answers to the events that its lines say
abbrev pub AnswersEvents : Type 0
AnswersEvents =
    (own peer most : ℕ) (input : List ℕ) → IsAnswered own peer most input

-- a session's red part is handed up with the event that makes it whole, and with no other
abbrev pub HandsUpRedParts : Type 0
HandsUpRedParts =
    (p : Party) (earlier : List NodeEvent) (event : NodeEvent) → HandsUpWhole p earlier event

-- no session's red part is handed up twice
abbrev pub HandsUpEachOnce : Type 0
HandsUpEachOnce = (p : Party) (events : List NodeEvent) → EachOnce (all_ups p events)
