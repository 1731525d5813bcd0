-- What the lines of a script say: which event, or why a line says none. The refusals are tested in
-- the order of `LineFault`.

use Rattle.std.specs.Prelude.{◌≡◌, ℕ, Bool, true, false, ◌&&◌, nat_le, List, [], ◌∷◌, codes}
use Rattle.std.specs.Prelude.{Option, None, Some, Result, Ok, Err, if◌then◌else◌, ◌⊎◌, IsOk}
use Rattle.hex.specs.Hex.{decode_of}
use Rattle.hex.specs.declared.FromHexError.{FromHexError}
use Rattle.endpoint.specs.declared.name.Endpoint.{Endpoint}
use Rattle.endpoint.specs.declared.name.Endpoint.TheVariants as endpoints
use Rattle.endpoint.specs.declared.fault.EndpointFault.{EndpointFault}
use Rattle.endpoint.specs.Numeral.{number_of}
use Rattle.endpoint.specs.Reading.{read_text}
use Rattle.replay_script.specs.declared.event.Event.{Event}
use Rattle.replay_script.specs.declared.event.Event.TheVariants as events
use Rattle.replay_script.specs.declared.event.NodeEvent.{NodeEvent}
use Rattle.replay_script.specs.declared.event.NodeEvent.TheVariants as node_events
use Rattle.replay_script.specs.declared.fault.LineFault.{LineFault}
use Rattle.replay_script.specs.declared.fault.LineFault.TheVariants as faults
use Rattle.replay_script.specs.declared.path.PathNumbers.{PathNumbers}
use Rattle.replay_script.specs.Words.{words_of, is_word}

-- ---- what a word says

-- the endpoint of a gate: any but the null one
abbrev pub other_than_null : Result Endpoint EndpointFault → Option Endpoint
other_than_null (Ok endpoints.Null) = None
other_than_null (Ok (endpoints.Ipn node service)) = Some (endpoints.Ipn node service)
other_than_null (Ok (endpoints.Dtn ssp)) = Some (endpoints.Dtn ssp)
other_than_null (Err fault) = None

unfoldable pub gate_of : List ℕ → Option Endpoint
gate_of word = other_than_null (read_text word)

-- a number of a range
abbrev pub within : ℕ → ℕ → Option ℕ → Option ℕ
within least most None = None
within least most (Some n) = if nat_le least n && nat_le n most then Some n else None

unfoldable pub number_in : ℕ → ℕ → List ℕ → Option ℕ
number_in least most word = within least most (number_of word)

-- the octets of a hex text
abbrev pub octets_in : Result (List ℕ) FromHexError → Option (List ℕ)
octets_in (Ok octets) = Some octets
octets_in (Err fault) = None

unfoldable pub hex_of : List ℕ → Option (List ℕ)
hex_of word = octets_in (decode_of word)

-- the side of the gate: the old one, or the new one
abbrev pub side_of : List ℕ → Option Bool
side_of word =
    if is_word word (codes "old") then Some true
    else if is_word word (codes "new") then Some false
    else None

-- what a line says by a value, where there is one, or else this refusal
abbrev pub or_fault : {X Y : Type 0} → Option X → LineFault → (X → Result Y LineFault) → Result Y LineFault
or_fault None fault said = Err fault
or_fault (Some x) fault said = said x

-- the same for values that are joined into one
abbrev pub joined : {X Y : Type 0} → Option X → (X → Option Y) → Option Y
joined None said = None
joined (Some x) said = said x

-- ---- path

-- the words of a line `path`, after the first; one that gives no cap has the timeout for it
pub record PathWords : Type 0 where
  pub gate : List ℕ
  pub segment : List ℕ
  pub timeout : List ℕ
  pub limit : List ℕ
  pub cut : List ℕ
  pub start : List ℕ
  pub cap : List ℕ

abbrev pub path_words : List (List ℕ) → Option PathWords
path_words (gate ∷ segment ∷ timeout ∷ limit ∷ cut ∷ start ∷ []) = Some (record {
  gate = gate;
  segment = segment;
  timeout = timeout;
  limit = limit;
  cut = cut;
  start = start;
  cap = timeout;
})
path_words (gate ∷ segment ∷ timeout ∷ limit ∷ cut ∷ start ∷ cap ∷ []) = Some (record {
  gate = gate;
  segment = segment;
  timeout = timeout;
  limit = limit;
  cut = cut;
  start = start;
  cap = cap;
})
path_words other = None

-- its numbers: the policy's, the octets of a cut, the moment at the start, and the longest wait
unfoldable pub path_numbers : PathWords → Option PathNumbers
path_numbers words =
    joined (number_in 512 8192 words.segment) (λ segment.
    joined (number_in 1 3600000 words.timeout) (λ timeout.
    joined (number_in 1 100 words.limit) (λ limit.
    joined (number_in 1 4000000 words.cut) (λ cut.
    joined (number_of words.start) (λ start.
    joined (number_in timeout 3600000 words.cap) (λ cap.
    Some (record {
      segment = segment;
      timeout = timeout;
      limit = limit;
      cut = cut;
      start = start;
      cap = cap;
    })))))))

abbrev pub path_event : Endpoint → PathNumbers → Event
path_event gate n = events.Path gate n.segment n.timeout n.limit n.cut n.start n.cap

abbrev pub path_line : List (List ℕ) → Result Event LineFault
path_line words =
    or_fault (path_words words) faults.Word (λ path.
    or_fault (gate_of path.gate) faults.Name (λ gate.
    or_fault (path_numbers path) faults.Number (λ numbers. Ok (path_event gate numbers))))

-- ---- the other lines

-- the words of a line `send`, after the first: a side, and hex, which may be left out
abbrev pub send_words : List (List ℕ) → Option (Bool × List ℕ)
send_words [] = None
send_words (side ∷ []) = joined (side_of side) (λ old. Some (old, []))
send_words (side ∷ hex ∷ []) = joined (side_of side) (λ old. Some (old, hex))
send_words (side ∷ hex ∷ more ∷ words) = None

abbrev pub send_line : List (List ℕ) → Result Event LineFault
send_line words =
    or_fault (send_words words) faults.Word (λ send.
    or_fault (hex_of send.1) faults.Hex (λ body. Ok (events.Send send.0 body)))

-- the one word after the first
abbrev pub one_word : List (List ℕ) → Option (List ℕ)
one_word [] = None
one_word (word ∷ []) = Some word
one_word (word ∷ more ∷ words) = None

-- the one number after the first word
abbrev pub number_word : List (List ℕ) → Result ℕ LineFault
number_word words =
    or_fault (one_word words) faults.Word (λ word.
    or_fault (number_of word) faults.Number (λ n. Ok n))

-- a line with one number
abbrev pub with_number : {X : Type 0} → (ℕ → X) → Result ℕ LineFault → Result X LineFault
with_number event (Ok n) = Ok (event n)
with_number event (Err fault) = Err fault

abbrev pub number_line : {X : Type 0} → (ℕ → X) → List (List ℕ) → Result X LineFault
number_line event words = with_number event (number_word words)

-- no word after the first
abbrev pub drain_line : List (List ℕ) → Result Event LineFault
drain_line [] = Ok events.Drain
drain_line (word ∷ words) = Err faults.Word

-- ---- a line

abbrev pub event_by : List (List ℕ) → Result Event LineFault
event_by [] = Err faults.Word
event_by (first ∷ words) =
    if is_word first (codes "path") then path_line words
    else if is_word first (codes "send") then send_line words
    else if is_word first (codes "deliver") then number_line events.Deliver words
    else if is_word first (codes "clock") then number_line events.Clock words
    else if is_word first (codes "drain") then drain_line words
    else Err faults.Word

-- what a line of a script of `world` says
unfoldable pub event_of : List ℕ → Result Event LineFault
event_of line = event_by (words_of line)

-- the first of some words is this one
abbrev pub begins_with : List ℕ → List (List ℕ) → Bool
begins_with text [] = false
begins_with text (first ∷ words) = is_word first text

-- the first word of a line is `path`
unfoldable pub is_path_line : List ℕ → Bool
is_path_line line = begins_with (codes "path") (words_of line)

-- ---- the lines of `node`

-- hex, which may be left out after `send`
abbrev pub block_word : List (List ℕ) → Option (List ℕ)
block_word [] = Some []
block_word (hex ∷ []) = Some hex
block_word (hex ∷ more ∷ words) = None

-- a word that has to be there, and hex
abbrev pub hex_word : Option (List ℕ) → Result (List ℕ) LineFault
hex_word word =
    or_fault word faults.Word (λ hex.
    or_fault (hex_of hex) faults.Hex (λ octets. Ok octets))

-- a line with hex, in the word that it has for that
abbrev pub with_octets : (List ℕ → NodeEvent) → Result (List ℕ) LineFault → Result NodeEvent LineFault
with_octets event (Ok octets) = Ok (event octets)
with_octets event (Err fault) = Err fault

abbrev pub hex_line : (List ℕ → NodeEvent) → Option (List ℕ) → Result NodeEvent LineFault
hex_line event word = with_octets event (hex_word word)

abbrev pub node_event_by : List (List ℕ) → Result NodeEvent LineFault
node_event_by [] = Err faults.Word
node_event_by (first ∷ words) =
    if is_word first (codes "in") then hex_line node_events.In (one_word words)
    else if is_word first (codes "send") then hex_line node_events.Send (block_word words)
    else if is_word first (codes "clock") then number_line node_events.Clock words
    else Err faults.Word

-- what a line of `node` says
unfoldable pub node_event_of : List ℕ → Result NodeEvent LineFault
node_event_of line = node_event_by (words_of line)

-- ---- what a reader answers

-- what the line says; or want of memory, only where the line says an event
abbrev pub Reads : {X : Type 0} → Result X LineFault → Result X LineFault → Type 0
Reads said result = (result ≡ said) ⊎ ((result ≡ Err faults.Memory) × IsOk said)
