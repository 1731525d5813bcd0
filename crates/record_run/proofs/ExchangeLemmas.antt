-- What a run writes, by what its recording knows of the engine.

use Rattle.std.proofs.Common.{◌≡◌, ℕ, ◌+◌, Bool, true, false, ◌||◌, nat_lt, List, [], ◌∷◌, ◌++◌, length, take, Option, None, Some, Result, Ok, Err, codes, refl, sym, ap, ◌∙◌, append_assoc, inl, inr, arith, subst, if◌then◌else◌}
use Rattle.std.specs.List.{flat_map}
use Rattle.hex_text.specs.Hex.{FromHexError, decode_of}
use Rattle.hex_text.proofs.TextLemmas.{decode_of-ok}
use Rattle.edge_traits.specs.declared.status.Status.{Status}
use Rattle.edge_traits.specs.declared.status.Status.TheVariants as statuses
use Rattle.edge_traits.specs.Settled.{at_end, goes_on as going_on, Settled}
use Rattle.command_frame.specs.InputLines.{lines_of, ended_part}
use Rattle.command_frame.specs.Lines.{turn_at, after_turn, lines_settle, lines_from}
use Rattle.command_frame.specs.Within.{within, or_limit}
use Rattle.command_frame.proofs.FrontLemmas.{from-end, from-limit}
use Rattle.wire_fields.specs.Reading.{IsOctets}
use Rattle.ltp_laws.proofs.ListLemmas.{both_arms}
use Rattle.ltp_session.specs.Engine.{Party, Engine, EngineStep, SubmitFault, submits, submit_step}
use Rattle.ltp_audit.specs.declared.entry.Entry.{Entry}
use Rattle.ltp_audit.specs.Keeping.{followed_by, KeepsRules}
use Rattle.ltp_audit.specs.Knows.{IsParty, Knows}
use Rattle.ltp_audit.proofs.KnowsLemmas.{rules-append}
use Rattle.ltp_audit.proofs.ComingLemmas.{knows-starts}
use Rattle.ltp_audit.proofs.ToldLemmas.{segment-told}
use Rattle.ltp_audit.proofs.EngineSays.{datagram-well, submit-well, tick-well}
use Rattle.replay_script.specs.declared.event.NodeEvent.{NodeEvent}
use Rattle.replay_script.specs.declared.event.NodeEvent.TheVariants as events
use Rattle.replay_script.specs.declared.fault.LineFault.{LineFault}
use Rattle.replay_script.specs.declared.fault.LineFault.TheVariants as faults
use Rattle.replay_script.specs.Words.{words_of, is_word}
use Rattle.replay_script.specs.Events.{node_event_of, node_event_by, hex_line, with_octets, hex_of, octets_in, or_fault, one_word, block_word, number_line, number_word, with_number}
use Rattle.node_run.specs.WrittenLines.{refusal_line}
use Rattle.node_run.specs.Node.{NodeState, is_late, at_moment, moment_of, engine_does, begins, node_party}
use Rattle.node_run.specs.RedParts.{IsClosing}
use Rattle.record_run.specs.Record.{entries_of, entry_line, answers, happens, record_turn, record_rules, settles}
use Rattle.record_run.specs.Exchange.{WritesExchange, AreEngines}

-- ---- a datagram that a line brings is made of octets

hex-octets : (hex octets : List ℕ) → hex_of hex ≡ Some octets → IsOctets octets
unfolding hex_of
hex-octets hex octets is = by (decode_of hex) refl is where
  by : (r : Result (List ℕ) FromHexError) → decode_of hex ≡ r → octets_in r ≡ Some octets → IsOctets octets
  by (Ok bytes) read same = let here : bytes ≡ octets = cc in subst IsOctets here (decode_of-ok hex bytes read).3
  by (Err fault) read same = absurd (cc)

-- what an event brings is made of octets
abbrev Brings : NodeEvent → Type 0
Brings (events.In datagram) = IsOctets datagram
Brings (events.Send block) = Unit {0}
Brings (events.Clock moment) = Unit {0}

abbrev BringsIf : Result NodeEvent LineFault → Type 0
BringsIf (Ok event) = Brings event
BringsIf (Err fault) = Unit {0}

in-brings : (word : Option (List ℕ)) → BringsIf (hex_line events.In word)
in-brings None = tt
in-brings (Some hex) = by (hex_of hex) refl where
  by : (o : Option (List ℕ)) → hex_of hex ≡ o → BringsIf (with_octets events.In (or_fault o faults.Hex (λ octets. Ok octets)))
  by None is = tt
  by (Some octets) is = hex-octets hex octets is

send-brings : (word : Option (List ℕ)) → BringsIf (hex_line events.Send word)
send-brings None = tt
send-brings (Some hex) = by (hex_of hex) where
  by : (o : Option (List ℕ)) → BringsIf (with_octets events.Send (or_fault o faults.Hex (λ octets. Ok octets)))
  by None = tt
  by (Some octets) = tt

clock-brings : (words : List (List ℕ)) → BringsIf (number_line events.Clock words)
clock-brings words = by (number_word words) where
  by : (r : Result ℕ LineFault) → BringsIf (with_number events.Clock r)
  by (Ok n) = tt
  by (Err fault) = tt

words-bring : (words : List (List ℕ)) → BringsIf (node_event_by words)
words-bring [] = tt
words-bring (first ∷ words) =
    both_arms BringsIf (is_word first (codes "in")) _ _ (in-brings (one_word words))
    (both_arms BringsIf (is_word first (codes "send")) _ _ (send-brings (block_word words))
    (both_arms BringsIf (is_word first (codes "clock")) _ _ (clock-brings words) tt))

line-brings : (line : List ℕ) (event : NodeEvent) → node_event_of line ≡ Ok event → Brings event
unfolding node_event_of
line-brings line event is = subst BringsIf is (words-bring (words_of line))

-- ---- one event

-- what an event adds breaks no rule where it goes out, and the recording tells of the engine after it
record AddsWell (p : Party) (history : List Entry) (event : NodeEvent) (step : EngineStep) : Type 0 where
  rules : KeepsRules p.own p.peer history (entries_of event step.effects)
  knows : Knows p step.engine (followed_by history (entries_of event step.effects))

abbrev AddsIfSent : Party → List Entry → NodeEvent → Result EngineStep SubmitFault → Type 0
AddsIfSent p history event (Ok step) = AddsWell p history event step
AddsIfSent p history event (Err fault) = Unit {0}

event-adds : (p : Party) (e : Engine) (history : List Entry) (event : NodeEvent) (now : ℕ) → IsParty p → Knows p e history → Brings event
    → AddsIfSent p history event (engine_does p e now event)
event-adds p e history (events.In datagram) now party knows octets =
    let goes = datagram-well p e datagram history now party knows (λ s is. segment-told datagram s octets is) in
    record { rules = ((λ out. absurd (cc)), goes.rules); knows = goes.knows }
event-adds p e history (events.Send block) now party knows brings =
    by (submit_step p e (submits p e block (length block) now)) refl where
      by : (r : Result EngineStep SubmitFault) → submit_step p e (submits p e block (length block) now) ≡ r → AddsIfSent p history (events.Send block) r
      by (Err fault) is = tt
      by (Ok step) is =
          let goes = submit-well p e block (length block) now history step party knows is in
          record { rules = goes.rules; knows = goes.knows }
event-adds p e history (events.Clock moment) now party knows brings =
    let goes = tick-well p e now history party knows in
    record { rules = goes.rules; knows = goes.knows }

-- ---- lines

-- what some lines settle after a recording: entries that, where E holds, break no rule as they go
-- out, and at most a refusal
record Adds (E : Type 0) (own peer : ℕ) (history : List Entry) (settled : Settled) : Type 0 where
  entries : List Entry
  closing : List ℕ
  written : settled.text ≡ flat_map entry_line entries ++ closing
  closes : IsClosing closing
  rules : E → KeepsRules own peer history entries
  status : Status
  ends : settled.ends ≡ Some status

lines-append : (xs ys : List Entry) → flat_map entry_line (xs ++ ys) ≡ flat_map entry_line xs ++ flat_map entry_line ys
lines-append [] ys = refl
lines-append (x ∷ xs) ys =
    ap (λ (t : List ℕ). entry_line x ++ t) (lines-append xs ys) ∙ sym (append_assoc (entry_line x) (flat_map entry_line xs) (flat_map entry_line ys))

-- a node of this party, of whose engine a recording tells
record IsTold (E : Type 0) (p : Party) (node : NodeState) (history : List Entry) : Type 0 where
  same : node.party ≡ p
  knows : E → Knows p node.engine history

module _ (E : Type 0) (p : Party) (party : E → IsParty p) where
  stops : (history : List Entry) (closing : List ℕ) (status : Status) → IsClosing closing
      → Adds E p.own p.peer history (record { text = closing; ends = Some status })
  stops history closing status closes = record {
    entries = [];
    closing = closing;
    written = refl;
    closes = closes;
    rules = λ e. tt;
    status = status;
    ends = refl;
  }

  goes-on : (history more : List Entry) (later : Settled) → (E → KeepsRules p.own p.peer history more)
      → Adds E p.own p.peer (followed_by history more) later
      → Adds E p.own p.peer history (record { text = flat_map entry_line more ++ later.text; ends = later.ends })
  goes-on history more later rules rest = record {
    entries = more ++ rest.entries;
    closing = rest.closing;
    written =
        ap (λ (t : List ℕ). flat_map entry_line more ++ t) rest.written
        ∙ (sym (append_assoc (flat_map entry_line more) (flat_map entry_line rest.entries) rest.closing)
        ∙ ap (λ (t : List ℕ). t ++ rest.closing) (sym (lines-append more rest.entries)));
    closes = rest.closes;
    rules = λ e. rules-append p.own p.peer history more rest.entries (rules e) (rest.rules e);
    status = rest.status;
    ends = rest.ends;
  }

  module _ (settle : NodeState → Settled)
      (later : (node : NodeState) (history : List Entry) → IsTold E p node history → Adds E p.own p.peer history (settle node)) where
    answered : (node : NodeState) (history : List Entry) (event : NodeEvent) → IsTold E p node history → (does : Result EngineStep SubmitFault)
        → (E → AddsIfSent p history event does) → Adds E p.own p.peer history (after_turn (answers node event does) settle)
    answered node history event told (Ok step) adds =
        goes-on history (entries_of event step.effects) _ (λ e. (adds e).rules)
        (later _ (followed_by history (entries_of event step.effects)) (record { same = told.same; knows = λ e. (adds e).knows }))
    answered node history event told (Err fault) adds = goes-on history [] _ (λ e. tt) (later node history told)

    happened : (node : NodeState) (history : List Entry) (event : NodeEvent) → IsTold E p node history → Brings event
        → Adds E p.own p.peer history (after_turn (happens node event) settle)
    happened node history event told brings =
        both_arms (λ turn. Adds E p.own p.peer history (after_turn turn settle)) (is_late event) _ _ (stops history [] statuses.Limit (inl refl))
        (answered (at_moment node (moment_of node.now event)) history event (record { same = told.same; knows = told.knows })
        (engine_does node.party node.engine (moment_of node.now event) event)
        (λ e. subst (λ (q : Party). AddsIfSent p history event (engine_does q node.engine (moment_of node.now event) event)) (sym told.same)
        (event-adds p node.engine history event (moment_of node.now event) (party e) (told.knows e) brings)))

    line_turned : (n : ℕ) (node : NodeState) (history : List Entry) (line : List ℕ) → IsTold E p node history
        → Adds E p.own p.peer history (after_turn (turn_at record_rules n node line) settle)
    unfolding turn_at record_turn
    line_turned n node history line told =
        both_arms (λ turn. Adds E p.own p.peer history (after_turn turn settle)) (nat_lt record_rules.lines n || nat_lt record_rules.octets (length line)) _ _
        (stops history [] statuses.Limit (inl refl)) (by (node_event_of line) refl) where
          by : (said : Result NodeEvent LineFault) → node_event_of line ≡ said
              → Adds E p.own p.peer history (after_turn (record_turn n node said) settle)
          by (Ok event) is = happened node history event told (line-brings line event is)
          by (Err fault) is = stops history (refusal_line n fault) statuses.Refused (inr (n, fault, refl))

keeps_from : (E : Type 0) (p : Party) (party : E → IsParty p) (n : ℕ) (lines : List (List ℕ)) (ending : Status) (node : NodeState)
    (history : List Entry) → IsTold E p node history
    → Adds E p.own p.peer history (lines_settle record_rules n node lines (λ now. record { text = []; ends = Some ending }))
unfolding lines_settle
keeps_from E p party n [] ending node history told = stops E p party history [] ending (inl refl)
keeps_from E p party n (line ∷ lines) ending node history told =
    line_turned E p party (λ now. lines_settle record_rules (n + 1) now lines (λ last. record { text = []; ends = Some ending }))
    (λ state more is_told. keeps_from E p party (n + 1) lines ending state more is_told) n node history line told

from_start : (own peer : ℕ) (lines : List (List ℕ)) (ending : Status)
    → Adds (AreEngines own peer) own peer [] (lines_settle record_rules 1 (begins (node_party own peer)) lines (λ now. record { text = []; ends = Some ending }))
from_start own peer lines ending =
    keeps_from (AreEngines own peer) (node_party own peer)
    (λ engines. record { apart = engines.apart; own = engines.own_fits; peer = engines.peer_fits; most = omega arith }) 1 lines ending
    (begins (node_party own peer)) [] (record { same = refl; knows = λ engines. knows-starts (node_party own peer) (omega arith) })

adds_all : (own peer most : ℕ) (input : List ℕ) → Adds (AreEngines own peer) own peer [] (within most (settles own peer) at_end input)
unfolding within
adds_all own peer most input = by_test (nat_lt most (length input))
  where
    by_test : (t : Bool) → Adds (AreEngines own peer) own peer []
        (if t then or_limit (lines_from record_rules 1 (begins (node_party own peer)) going_on (take most input))
        else lines_from record_rules 1 (begins (node_party own peer)) at_end input)
    by_test true =
        rw (from-limit record_rules 1 (begins (node_party own peer)) (take most input))
        (from_start own peer (lines_of (ended_part (take most input))) statuses.Limit)
    by_test false =
        rw (from-end record_rules 1 (begins (node_party own peer)) input) (from_start own peer (lines_of input) statuses.Done)

-- the text of the answer, and how the run ends by it
pub record Lawful (own peer most : ℕ) (input : List ℕ) : Type 0 where
  pub status : Status
  pub is : (within most (settles own peer) at_end input).ends ≡ Some status
  pub law : AreEngines own peer → WritesExchange own peer (within most (settles own peer) at_end input).text

pub writes_exchange : (own peer most : ℕ) (input : List ℕ) → Lawful own peer most input
writes_exchange own peer most input =
    let all = adds_all own peer most input in
    record {
      status = all.status;
      is = all.ends;
      law = λ engines. record { entries = all.entries; closing = all.closing; written = all.written; closes = all.closes; rules = all.rules engines };
    }
