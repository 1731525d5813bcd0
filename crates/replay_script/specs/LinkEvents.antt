-- What the lines of a script for two engines on a link say: which event, or why a line says none. The
-- refusals are tested in the order of `LineFault`.

use Rattle.std.specs.Prelude.{ℕ, Bool, true, false, nat_lt, List, [], ◌∷◌, length, drop, codes}
use Rattle.std.specs.Prelude.{Option, None, Some, Result, Ok, Err, if◌then◌else◌}
use Rattle.endpoint.specs.Endpoints.{begins}
use Rattle.endpoint.specs.Numeral.{number_of}
use Rattle.replay_script.specs.declared.fault.LineFault.{LineFault}
use Rattle.replay_script.specs.declared.fault.LineFault.TheVariants as faults
use Rattle.replay_script.specs.declared.link.LinkEvent.{LinkEvent}
use Rattle.replay_script.specs.declared.link.LinkEvent.TheVariants as events
use Rattle.replay_script.specs.declared.link.LinkNumbers.{LinkNumbers}
use Rattle.replay_script.specs.declared.picks.PickWord.{PickWord}
use Rattle.replay_script.specs.declared.picks.PickWord.TheVariants as picks
use Rattle.replay_script.specs.Events.{begins_with, hex_of, joined, number_in, number_line, or_fault}
use Rattle.replay_script.specs.Words.{is_word, words_of}

-- ---- link

-- the words of a line `link`, after the first
pub record LinkWords : Type 0 where
  pub segment : List ℕ
  pub timeout : List ℕ
  pub limit : List ℕ
  pub cap : List ℕ
  pub start : List ℕ

abbrev pub link_words : List (List ℕ) → Option LinkWords
link_words (segment ∷ timeout ∷ limit ∷ cap ∷ start ∷ []) = Some (record {
  segment = segment;
  timeout = timeout;
  limit = limit;
  cap = cap;
  start = start;
})
link_words other = None

-- its numbers: the policy's, and the moment at the start
unfoldable pub link_numbers : LinkWords → Option LinkNumbers
link_numbers words =
    joined (number_in 512 8192 words.segment) (λ segment.
    joined (number_in 1 3600000 words.timeout) (λ timeout.
    joined (number_in 1 100 words.limit) (λ limit.
    joined (number_in timeout 3600000 words.cap) (λ cap.
    joined (number_of words.start) (λ start.
    Some (record {
      segment = segment;
      timeout = timeout;
      limit = limit;
      cap = cap;
      start = start;
    }))))))

abbrev pub link_event : LinkNumbers → LinkEvent
link_event n = events.Link n.segment n.timeout n.limit n.cap n.start

abbrev pub link_line : List (List ℕ) → Result LinkEvent LineFault
link_line words =
    or_fault (link_words words) faults.Word (λ link.
    or_fault (link_numbers link) faults.Number (λ numbers. Ok (link_event numbers)))

-- ---- the other lines

-- the two words after the first
abbrev pub two_words : List (List ℕ) → Option (List ℕ × List ℕ)
two_words (one ∷ other ∷ []) = Some (one, other)
two_words words = None

abbrev pub window_line : List (List ℕ) → Result LinkEvent LineFault
window_line words =
    or_fault (two_words words) faults.Word (λ window.
    or_fault (number_of window.0) faults.Number (λ from.
    or_fault (number_of window.1) faults.Number (λ to. Ok (events.Window from to))))

-- the end: the first one, or the second one
abbrev pub end_of : List ℕ → Option Bool
end_of word =
    if is_word word (codes "first") then Some true
    else if is_word word (codes "second") then Some false
    else None

-- the words of a line `send`, after the first: an end, and hex, which may be left out
abbrev pub link_send_words : List (List ℕ) → Option (Bool × List ℕ)
link_send_words [] = None
link_send_words (end ∷ []) = joined (end_of end) (λ first. Some (first, []))
link_send_words (end ∷ hex ∷ []) = joined (end_of end) (λ first. Some (first, hex))
link_send_words (end ∷ hex ∷ more ∷ words) = None

abbrev pub link_send_line : List (List ℕ) → Result LinkEvent LineFault
link_send_line words =
    or_fault (link_send_words words) faults.Word (λ send.
    or_fault (hex_of send.1) faults.Hex (λ body. Ok (events.Send send.0 body)))

-- ---- drain

-- a datagram that comes once more, by its number
abbrev pub old_pick : List ℕ → Option PickWord
old_pick word =
    if begins (codes "o") word then joined (number_of (drop 1 word)) (λ k. Some (picks.Old k))
    else None

-- what comes next in a drain: the oldest new datagram of the first end, that of the second, or an
-- old one
abbrev pub pick_of : List ℕ → Option PickWord
pick_of word =
    if is_word word (codes "f") then Some picks.First
    else if is_word word (codes "s") then Some picks.Second
    else old_pick word

-- the picks of words that are all such
unfoldable pub picks_of : List (List ℕ) → Option (List PickWord)
picks_of [] = Some []
picks_of (word ∷ words) =
    joined (pick_of word) (λ pick. joined (picks_of words) (λ picks. Some (pick ∷ picks)))

-- the most picks of a line
abbrev pub most_picks : ℕ
most_picks = 100000

-- picks, no more than the most; how many there are is looked at first
abbrev pub picks_line : List (List ℕ) → Result LinkEvent LineFault
picks_line words =
    if nat_lt most_picks (length words) then Err faults.Word
    else or_fault (picks_of words) faults.Number (λ picks. Ok (events.DrainBy picks))

-- the words of a line `drain`, after the first: none, or picks
abbrev pub link_drain_line : List (List ℕ) → Result LinkEvent LineFault
link_drain_line [] = Ok events.Drain
link_drain_line (word ∷ words) = picks_line (word ∷ words)

-- ---- a line

abbrev pub link_event_by : List (List ℕ) → Result LinkEvent LineFault
link_event_by [] = Err faults.Word
link_event_by (first ∷ words) =
    if is_word first (codes "link") then link_line words
    else if is_word first (codes "window") then window_line words
    else if is_word first (codes "send") then link_send_line words
    else if is_word first (codes "deliver") then number_line events.Deliver words
    else if is_word first (codes "clock") then number_line events.Clock words
    else if is_word first (codes "drain") then link_drain_line words
    else Err faults.Word

-- what a line of a script of `link` says
unfoldable pub link_event_of : List ℕ → Result LinkEvent LineFault
link_event_of line = link_event_by (words_of line)

-- the first word of a line is `link`
unfoldable pub is_link_line : List ℕ → Bool
is_link_line line = begins_with (codes "link") (words_of line)
