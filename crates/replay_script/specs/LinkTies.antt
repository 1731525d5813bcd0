-- What the code keeps of a line of a script for two engines on a link.

use Rattle.std.specs.Prelude.{ℕ, Bool, List, Option, None, Some, Result, Ok, Err}
use Rattle.std.specs.Borrow.{Bor}
use Rattle.replay_script.specs.declared.fault.LineFault.{LineFault}
use Rattle.replay_script.specs.declared.fault.LineFault.TheVariants as faults
use Rattle.replay_script.specs.declared.link.LinkEvent.{LinkEvent}
use Rattle.replay_script.specs.declared.link.LinkEvent.TheVariants as events
use Rattle.replay_script.specs.declared.link.LinkTexts.{LinkTexts}
use Rattle.replay_script.specs.declared.link_judging.LinkSaid.{LinkSaid}
use Rattle.replay_script.specs.declared.link_judging.LinkSaid.TheVariants as said
use Rattle.replay_script.specs.Events.{hex_of, or_fault}
use Rattle.replay_script.specs.LinkEvents.{LinkWords, link_event, picks_of}
use Rattle.replay_script.specs.Words.{words_of}

abbrev pub link_value : LinkTexts → LinkWords
link_value t = record {
  segment = t.segment.now;
  timeout = t.timeout.now;
  limit = t.limit.now;
  cap = t.cap.now;
  start = t.start.now;
}

-- the event that a judged line says
abbrev pub link_event_in : LinkSaid → Result LinkEvent LineFault
link_event_in (said.Link numbers) = Ok (link_event numbers)
link_event_in (said.Window from to) = Ok (events.Window from to)
link_event_in (said.Send first hex) =
    or_fault (hex_of hex.now) faults.Hex (λ body. Ok (events.Send first body))
link_event_in (said.Deliver k) = Ok (events.Deliver k)
link_event_in (said.Clock now) = Ok (events.Clock now)
link_event_in said.Drain = Ok events.Drain
link_event_in (said.DrainBy picks) =
    or_fault (picks_of (words_of picks.now)) faults.Number (λ p. Ok (events.DrainBy p))

-- the same of a line that may be refused
abbrev pub link_seen : Result LinkSaid LineFault → Result LinkEvent LineFault
link_seen (Ok said) = link_event_in said
link_seen (Err fault) = Err fault

-- two words
abbrev pub pair_value : Bor (List ℕ) × Bor (List ℕ) → List ℕ × List ℕ
pair_value words = (words.0.now, words.1.now)

-- the end and the hex of a line `send`
abbrev pub words_value : Option (Bool × Bor (List ℕ)) → Option (Bool × List ℕ)
words_value None = None
words_value (Some send) = Some (send.0, send.1.now)
