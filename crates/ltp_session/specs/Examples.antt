-- Words for short runs. Segments have two octets at most; an answer is waited for 10 after the
-- first sending and 15 after the second, which is the last.

use Rattle.std.specs.Prelude.{ℕ, zero, suc, ◌+◌, false, List, [], ◌∷◌, ◌++◌, map, Ok}
use Rattle.ltp_segment.specs.declared.segment.Claim.{Claim}
use Rattle.ltp_segment.specs.declared.segment.PieceKind.{PieceKind}
use Rattle.ltp_segment.specs.declared.segment.PieceKind.TheVariants as kinds
use Rattle.ltp_segment.specs.declared.session.Note.{Note}
use Rattle.ltp_segment.specs.Policy.{PolicyValue}
use Rattle.ltp_segment.specs.Values.{PieceValue, ReportValue, ContentValue, a_piece, a_report}
use Rattle.ltp_session.specs.Sender.{Sending, sender_open}
use Rattle.ltp_session.specs.Engine.{Party, Engine, starts, EffectsValue, EngineStep, datagram_step, tick_step}
use Rattle.ltp_session.specs.World.{World, Event, first_end, submit, deliver, starts_world, run}

abbrev pub policy : PolicyValue
policy = record { segment = 2; timeout = 10; limit = 2; cap = 15 }

abbrev pub party : ℕ → ℕ → Party
party own peer = record {
  own = own;
  peer = peer;
  first = 1;
  policy = policy;
  most = 100;
  sessions = 64;
  history = 65536;
}

-- ---- contents

abbrev pub piece_value : PieceKind → ℕ → ℕ → ℕ → List ℕ → PieceValue
piece_value kind offset checkpoint report body = record {
  kind = kind;
  service = 1;
  offset = offset;
  checkpoint = checkpoint;
  report = report;
  body = body;
}

abbrev pub piece : PieceKind → ℕ → ℕ → ℕ → List ℕ → ContentValue
piece kind offset checkpoint report body = a_piece (piece_value kind offset checkpoint report body)

abbrev pub claim : ℕ → ℕ → Claim
claim offset size = record { offset = offset; length = size }

abbrev pub report_value : ℕ → ℕ → ℕ → List Claim → ReportValue
report_value serial checkpoint upper claims =
    record { serial = serial; checkpoint = checkpoint; upper = upper; lower = 0; claims = claims }

abbrev pub report : ℕ → ℕ → ℕ → List Claim → ContentValue
report serial checkpoint upper claims = a_report (report_value serial checkpoint upper claims)

-- ---- engines 1 and 2 on a link

abbrev pub world_after : List Event → World
world_after events =
    run (party 1 2, party 2 1) (starts_world (party 1 2, party 2 1)) events

-- of three segments the middle one comes late; all else that is sent comes too
abbrev pub late_segment : List Event
late_segment =
    submit first_end (7 ∷ 8 ∷ 9 ∷ 10 ∷ 11 ∷ []) 5
    ∷ deliver 0 ∷ deliver 2 ∷ deliver 3 ∷ deliver 1 ∷ deliver 4 ∷ deliver 5 ∷ deliver 6
    ∷ deliver 7 ∷ deliver 8 ∷ []

abbrev pub contents_sent : World → List ContentValue
contents_sent w = map (λ d. (d.segment).content) w.sent

-- ---- engine 2, whose peer is engine 1

-- a content of a session of engine 1 comes, or the clock ticks
pub data Moment : Type 0 where
  comes : ℕ → ContentValue → Moment
  ticks_at : ℕ → Moment

abbrev pub step_at : Engine → Moment → EngineStep
step_at e (comes n content) = datagram_step (party 2 1) e
    (Ok (record { originator = 1; session = n; content = content })) 0
step_at e (ticks_at now) = tick_step (party 2 1) e now

-- an engine after some moments, and all effects of them
unfoldable pub steps_of : Engine → List Moment → Engine × List EffectsValue
steps_of e [] = (e, [])
steps_of e (moment ∷ moments) =
    let step : EngineStep = step_at e moment in
    let rest : Engine × List EffectsValue = steps_of step.engine moments in
    (rest.0, step.effects ∷ rest.1)

abbrev pub effects_of : List Moment → List EffectsValue
effects_of moments = (steps_of (starts (party 2 1)) moments).1

abbrev pub engine_after : List Moment → Engine
engine_after moments = (steps_of (starts (party 2 1)) moments).0

-- the effects in session n: contents sent, red parts, and notes
abbrev pub effects : ℕ → List ContentValue → List (List ℕ) → List Note → EffectsValue
effects n contents ups notes = record {
  out = map (λ content. record { originator = 1; session = n; content = content }) contents;
  ups = map (λ body. record { session = n; body = body }) ups;
  greens = [];
  notes = notes;
}

-- a red octet comes in each of so many sessions, from session n on
unfoldable pub opens : ℕ → ℕ → List Moment
opens n zero = []
opens n (suc count) = comes n (piece kinds.Red 0 0 0 (97 ∷ [])) ∷ opens (n + 1) count

-- the notes of all effects
unfoldable pub all_notes : List EffectsValue → List Note
all_notes [] = []
all_notes (first ∷ others) = first.notes ++ all_notes others

-- ---- a sending session

-- three octets in two segments, of which none is claimed; its checkpoint has this serial
abbrev pub sending_with : ℕ → Sending
sending_with serial = record {
  block = 97 ∷ 98 ∷ 99 ∷ [];
  red = 3;
  claimed = false ∷ false ∷ false ∷ [];
  phase = sender_open (piece_value kinds.RedEndBlock 2 serial 0 (99 ∷ []))
      (record { times = 1; deadline = 10 });
}
