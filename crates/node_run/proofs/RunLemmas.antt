-- What a run writes, by the events that its lines say.
use Rattle.std.proofs.Common.{◌≡◌, ℕ, ◌+◌, ◌<◌, ◌≤◌, ◌⊎◌, Bool, true, false, ◌||◌, nat_lt, List, [], ◌∷◌, ◌++◌, length, map, take, drop, get_or, reverse, Some, Result, Ok, Err, refl, sym, ap, ◌∙◌, append_assoc, subst, inl, inr, arith, if◌then◌else◌}
use Rattle.std.proofs.lemmas.Bool.{cases_lt}
use Rattle.std.proofs.lemmas.Bool.Decides.{nat_tests}
use Rattle.std.proofs.lemmas.List.{map-append, reverse-append, length-append, get_or_append_left}
use Rattle.std.proofs.Math.Seq.{get_or-append_seam}
use Rattle.edge_traits.specs.declared.status.Status.{Status}
use Rattle.edge_traits.specs.declared.status.Status.TheVariants as statuses
use Rattle.edge_traits.specs.Settled.{at_end, goes_on as going_on, Settled}
use Rattle.command_frame.specs.InputLines.{lines_of, ended_part, lines_within}
use Rattle.command_frame.specs.Lines.{ends_run, turn_at, after_turn, lines_settle, lines_from}
use Rattle.command_frame.specs.Within.{within, or_limit}
use Rattle.command_frame.proofs.FrontLemmas.{from-end, from-limit}
use Rattle.ltp_engine.specs.RedParts.{unless_faulty}
use Rattle.ltp_engine.specs.RedParts.{HandsUpRedParts as EngineHandsUp, HandsUpEachOnce as EngineHandsUpOnce}
use Rattle.ltp_session.specs.Engine.{Party, EngineStep, SubmitFault}
use Rattle.replay_script.specs.declared.event.NodeEvent.{NodeEvent}
use Rattle.replay_script.specs.declared.fault.LineFault.{LineFault}
use Rattle.replay_script.specs.Events.{node_event_of}
use Rattle.node_run.specs.WrittenLines.{refusal_line}
use Rattle.node_run.specs.Node.{NodeState, node_rules, node_turn, happens, answers, is_late, at_moment, moment_of, begins, node_party, settles}
use Rattle.node_run.specs.RedParts.{node_after, after_event, done_at, answer_text, text_after, PassesLimit, ClosesAs, AnswersEvents}
use Rattle.node_run.proofs.RedPartLemmas.{hands_up_red_parts, each_once}
use Rattle.node_run.proofs.UpLineLemmas.{ups-are}

-- what is settled after some lines, and the text before it, are the answers to events
record Answers (longer : Bool) (p : Party) (before lines : List (List ℕ)) (so_far : List ℕ) (settled : Settled) : Type 0 where
  events : List NodeEvent
  closing : List ℕ
  said : map node_event_of (take (length events) (before ++ lines)) ≡ map Ok (reverse events)
  written : so_far ++ settled.text ≡ text_after p events ++ closing
  status : Status
  closes : ClosesAs longer status (1 + length events) (drop (length events) (before ++ lines)) closing
  none_before : (i : ℕ) → i < length events → PassesLimit (1 + i) (get_or (before ++ lines) i []) → ⊥
  ends : settled.ends ≡ Some status

dropped_before : (before lines : List (List ℕ)) (n : ℕ) → length before ≡ n → drop n (before ++ lines) ≡ lines
dropped_before before lines n is = rw (sym is) (dropped_all before)
  where
    dropped_all : (front : List (List ℕ)) → drop (length front) (front ++ lines) ≡ lines
    dropped_all [] = refl
    dropped_all (line ∷ front) = dropped_all front

-- some lines say some events, the newest first, and none of them passes a limit
record Said (before : List (List ℕ)) (earlier : List NodeEvent) : Type 0 where
  many : length before ≡ length earlier
  said : map node_event_of before ≡ map Ok (reverse earlier)
  none : (i : ℕ) → i < length before → PassesLimit (1 + i) (get_or before i []) → ⊥

taken_before : (before lines : List (List ℕ)) (n : ℕ) → length before ≡ n → take n (before ++ lines) ≡ before
taken_before before lines n is = rw (sym is) (taken_all before)
  where
    taken_all : (front : List (List ℕ)) → take (length front) (front ++ lines) ≡ front
    taken_all [] = refl
    taken_all (line ∷ front) = ap (λ ls. line ∷ ls) (taken_all front)

module _ (longer : Bool) (p : Party) (before lines : List (List ℕ)) (earlier : List NodeEvent) (says : Said before earlier) where
  -- the run ends with these lines unanswered
  stops : (closing : List ℕ) (status : Status) → ClosesAs longer status (1 + length before) lines closing
      → Answers longer p before lines (text_after p earlier) (record { text = closing; ends = Some status })
  stops closing status closes = record {
    events = earlier;
    closing = closing;
    said = ap (λ ls. map node_event_of ls) (taken_before before lines (length earlier) says.many) ∙ says.said;
    written = refl;
    status = status;
    closes = subst (λ (n : ℕ). ClosesAs longer status (1 + n) (drop (length earlier) (before ++ lines)) closing) says.many
        (subst (λ (ls : List (List ℕ)). ClosesAs longer status (1 + length before) ls closing)
        (sym (dropped_before before lines (length earlier) says.many)) closes);
    none_before = λ i low past.
        let there : i < length before = subst (λ (n : ℕ). i < n) (sym says.many) low in
        says.none i there (subst (PassesLimit (1 + i)) (get_or_append_left before lines [] i there) past);
    ends = refl;
  }

-- ---- one line more

more-said : (before : List (List ℕ)) (earlier : List NodeEvent) (line : List ℕ) (event : NodeEvent) → node_event_of line ≡ Ok event
    → (PassesLimit (1 + length before) line → ⊥) → Said before earlier → Said (before ++ line ∷ []) (event ∷ earlier)
more-said before earlier line event is within says = record {
  many = length-append before (line ∷ []) ∙ (ap (λ n. n + 1) says.many ∙ omega arith);
  said =
      map-append node_event_of before (line ∷ [])
      ∙ (ap (λ xs. xs ++ node_event_of line ∷ []) says.said
      ∙ (ap (λ x. map Ok (reverse earlier) ++ x ∷ []) is
      ∙ (sym (map-append Ok (reverse earlier) (event ∷ [])) ∙ ap (λ es. map Ok es) (sym (reverse-append (event ∷ []) earlier)))));
  none = λ i low past. by_place i (cases_lt i (length before)) low past;
} where
  by_place : (i : ℕ) → (i < length before) ⊎ (length before ≤ i) → i < length (before ++ line ∷ [])
      → PassesLimit (1 + i) (get_or (before ++ line ∷ []) i []) → ⊥
  by_place i (inl there) low past = says.none i there (subst (PassesLimit (1 + i)) (get_or_append_left before (line ∷ []) [] i there) past)
  by_place i (inr beyond) low past =
      let here : i ≡ length before = omega (arith, low, beyond, length-append before (line ∷ [])) in
      within (subst (PassesLimit (1 + length before)) (get_or-append_seam before line [] [])
      (subst (λ (k : ℕ). PassesLimit (1 + k) (get_or (before ++ line ∷ []) k [])) here past))

module _ (longer : Bool) (p : Party) (before lines : List (List ℕ)) (line : List ℕ) (earlier : List NodeEvent) (event : NodeEvent) where
  -- what comes after an answered line, with the line before it
  goes_on : (text : List ℕ) (later : Settled) → text ≡ answer_text (done_at (node_after p earlier) event)
      → Answers longer p (before ++ line ∷ []) lines (text_after p (event ∷ earlier)) later
      → Answers longer p before (line ∷ lines) (text_after p earlier) (record { text = text ++ later.text; ends = later.ends })
  unfolding text_after
  goes_on text later is rest = record {
    events = rest.events;
    closing = rest.closing;
    said = ap (λ ls. map node_event_of (take (length rest.events) ls)) (sym (append_assoc before (line ∷ []) lines)) ∙ rest.said;
    written =
        ap (λ t. text_after p earlier ++ (t ++ later.text)) is
        ∙ (sym (append_assoc (text_after p earlier) (answer_text (done_at (node_after p earlier) event)) later.text) ∙ rest.written);
    status = rest.status;
    closes = subst (λ (ls : List (List ℕ)). ClosesAs longer rest.status (1 + length rest.events) (drop (length rest.events) ls) rest.closing)
        (append_assoc before (line ∷ []) lines) rest.closes;
    none_before = λ i low past.
        rest.none_before i low (subst (λ (ls : List (List ℕ)). PassesLimit (1 + i) (get_or ls i [])) (sym (append_assoc before (line ∷ []) lines)) past);
    ends = rest.ends;
  }

-- ---- limits

less : (a b : ℕ) → nat_lt a b ≡ true → a < b
less a b is = grind (arith, nat_tests, is)

past-limits : (n : ℕ) (line : List ℕ) → (nat_lt node_rules.lines n || nat_lt node_rules.octets (length line)) ≡ true → PassesLimit n line
past-limits n line = by (nat_lt node_rules.lines n) refl
  where
    by : (many : Bool) → nat_lt node_rules.lines n ≡ many → (many || nat_lt node_rules.octets (length line)) ≡ true → PassesLimit n line
    by true many past = inl (less node_rules.lines n many)
    by false few past = inr (inl (less node_rules.octets (length line) past))

not-less : (a b : ℕ) → nat_lt a b ≡ false → a < b → ⊥
not-less a b is low = grind (arith, nat_tests, is, low)

within-limits : (n : ℕ) (line : List ℕ) → (nat_lt node_rules.lines n || nat_lt node_rules.octets (length line)) ≡ false
    → ((event : NodeEvent) → node_event_of line ≡ Ok event → is_late event ≡ true → ⊥) → PassesLimit n line → ⊥
within-limits n line inside early = by (nat_lt node_rules.lines n) refl inside
  where
    by : (many : Bool) → nat_lt node_rules.lines n ≡ many → (many || nat_lt node_rules.octets (length line)) ≡ false → PassesLimit n line → ⊥
    by true many none past = absurd (cc (none))
    by false few short (inl past) = not-less node_rules.lines n few past
    by false few short (inr (inl past)) = not-less node_rules.octets (length line) short past
    by false few short (inr (inr (event, said, late))) = early event said late

-- what a line says sets the clock past the last moment
abbrev late-said : Result NodeEvent LineFault → Bool
late-said (Ok event) = is_late event
late-said (Err fault) = false

-- ---- a turn

-- the line is answered, where it isn't refused and passes no limit; `settle` is what the lines after
-- it settle
module _ (longer : Bool) (p : Party) (before lines : List (List ℕ)) (line : List ℕ) (earlier : List NodeEvent) (says : Said before earlier) (settle : NodeState → Settled) where
  answered : (event : NodeEvent) (did : Result EngineStep SubmitFault) → did ≡ done_at (node_after p earlier) event
      → Answers longer p (before ++ line ∷ []) lines (text_after p (event ∷ earlier))
      (settle (record (at_moment (node_after p earlier) (moment_of (node_after p earlier).now event)) { engine = unless_faulty (node_after p earlier).engine did }))
      → Answers longer p before (line ∷ lines) (text_after p earlier)
      (after_turn (answers (at_moment (node_after p earlier) (moment_of (node_after p earlier).now event)) did) settle)
  answered event (Ok step) is later = goes_on longer p before lines line earlier event (answer_text (Ok step)) _ (ap answer_text is) later
  answered event (Err fault) is later = goes_on longer p before lines line earlier event (answer_text (Err fault)) _ (ap answer_text is) later

  happened : (event : NodeEvent) → node_event_of line ≡ Ok event
      → (is_late event ≡ false → Answers longer p (before ++ line ∷ []) lines (text_after p (event ∷ earlier)) (settle (after_event (node_after p earlier) event)))
      → Answers longer p before (line ∷ lines) (text_after p earlier) (after_turn (happens (node_after p earlier) event) settle)
  happened event said later = by_late (is_late event) refl
    where
      by_late : (t : Bool) → is_late event ≡ t → Answers longer p before (line ∷ lines) (text_after p earlier)
          (after_turn (if t then ends_run [] statuses.Limit
          else answers (at_moment (node_after p earlier) (moment_of (node_after p earlier).now event)) (done_at (node_after p earlier) event)) settle)
      by_late true late = stops longer p before (line ∷ lines) earlier says [] statuses.Limit (inr (inr (event, said, late)), refl)
      by_late false early = answered event (done_at (node_after p earlier) event) refl (later early)

  turned : (n : ℕ) → n ≡ 1 + length before → (nat_lt node_rules.lines n || nat_lt node_rules.octets (length line)) ≡ false
      → (said : Result NodeEvent LineFault) → node_event_of line ≡ said
      → ((event : NodeEvent) → node_event_of line ≡ Ok event → (PassesLimit (1 + length before) line → ⊥)
      → Answers longer p (before ++ line ∷ []) lines (text_after p (event ∷ earlier)) (settle (after_event (node_after p earlier) event)))
      → Answers longer p before (line ∷ lines) (text_after p earlier) (after_turn (node_turn n (node_after p earlier) said) settle)
  unfolding node_turn
  turned n number inside (Ok event) is later =
      happened event is (λ early. later event is (λ past.
      within-limits n line inside
      (λ other said late. let same : is_late other ≡ is_late event = ap late-said (sym said ∙ is) in absurd (cc (same, late, early)))
      (subst (λ (k : ℕ). PassesLimit k line) (sym number) past)))
  turned n number inside (Err fault) is later =
      stops longer p before (line ∷ lines) earlier says (refusal_line n fault) statuses.Refused (
        (λ past. within-limits n line inside
            (λ other said late. let same : is_late other ≡ false = ap late-said (sym said ∙ is) in absurd (cc (same, late)))
            (subst (λ (k : ℕ). PassesLimit k line) (sym number) past)),
        (fault, is, ap (λ (k : ℕ). refusal_line k fault) number),
      )

  line_turned : (n : ℕ) → n ≡ 1 + length before
      → ((event : NodeEvent) → node_event_of line ≡ Ok event → (PassesLimit (1 + length before) line → ⊥)
      → Answers longer p (before ++ line ∷ []) lines (text_after p (event ∷ earlier)) (settle (after_event (node_after p earlier) event)))
      → Answers longer p before (line ∷ lines) (text_after p earlier) (after_turn (turn_at node_rules n (node_after p earlier) line) settle)
  unfolding turn_at
  line_turned n number later = by_past (nat_lt node_rules.lines n || nat_lt node_rules.octets (length line)) refl
    where
      by_past : (t : Bool) → (nat_lt node_rules.lines n || nat_lt node_rules.octets (length line)) ≡ t → Answers longer p before (line ∷ lines) (text_after p earlier)
          (after_turn (if t then ends_run [] statuses.Limit else node_turn n (node_after p earlier) (node_event_of line)) settle)
      by_past true past = stops longer p before (line ∷ lines) earlier says [] statuses.Limit (subst (λ (k : ℕ). PassesLimit k line) number (past-limits n line past), refl)
      by_past false inside = turned n number inside (node_event_of line) refl later

-- ---- all lines

-- a run ends so after its last line
abbrev EndsLines : Bool → Status → Type 0
EndsLines longer ending = (n : ℕ) → ClosesAs longer ending n [] []

keeps_from : (longer : Bool) (p : Party) (n : ℕ) → (before lines : List (List ℕ)) → n ≡ 1 + length before → (earlier : List NodeEvent)
    (ending : Status) → EndsLines longer ending → Said before earlier
    → Answers longer p before lines (text_after p earlier)
    (lines_settle node_rules n (node_after p earlier) lines (λ now. record { text = []; ends = Some ending }))
unfolding lines_settle node_after
keeps_from longer p n before [] number earlier ending last says = stops longer p before [] earlier says [] ending (last (1 + length before))
keeps_from longer p n before (line ∷ lines) number earlier ending last says =
    let more : n + 1 ≡ 1 + length (before ++ line ∷ []) = ap (λ (k : ℕ). k + 1) number ∙ omega (arith, length-append before (line ∷ [])) in
    line_turned longer p before lines line earlier says (λ now. lines_settle node_rules (n + 1) now lines (λ final. record { text = []; ends = Some ending })) n number
    (λ event is within. keeps_from longer p (n + 1) (before ++ line ∷ []) lines more (event ∷ earlier) ending last (more-said before earlier line event is within says))

none_said : Said [] []
none_said = record { many = refl; said = refl; none = λ i low past. absurd (omega (arith, low)) }

from_start : (longer : Bool) (p : Party) (lines : List (List ℕ)) (ending : Status) → EndsLines longer ending
    → Answers longer p [] lines [] (lines_settle node_rules 1 (begins p) lines (λ now. record { text = []; ends = Some ending }))
unfolding node_after text_after
from_start longer p lines ending last = keeps_from longer p 1 [] lines refl [] ending last none_said

-- what `node` answers to an input
answers_all : (own peer most : ℕ) (input : List ℕ)
    → Answers (nat_lt most (length input)) (node_party own peer) [] (lines_within most input) [] (within most (settles own peer) at_end input)
unfolding within lines_within
answers_all own peer most input = by_test (nat_lt most (length input))
  where
    by_test : (t : Bool) → Answers t (node_party own peer) [] (if t then lines_of (ended_part (take most input)) else lines_of input) []
        (if t then or_limit (lines_from node_rules 1 (begins (node_party own peer)) going_on (take most input))
        else lines_from node_rules 1 (begins (node_party own peer)) at_end input)
    by_test true =
        rw (from-limit node_rules 1 (begins (node_party own peer)) (take most input))
        (from_start true (node_party own peer) (lines_of (ended_part (take most input))) statuses.Limit (λ n. (refl, refl)))
    by_test false =
        rw (from-end node_rules 1 (begins (node_party own peer)) input)
        (from_start false (node_party own peer) (lines_of input) statuses.Done (λ n. (refl, refl, refl)))

-- whatever the input, where an engine hands up red parts as it should
pub answers_lines : EngineHandsUp → EngineHandsUpOnce → AnswersEvents
answers_lines hands_up once own peer most input =
    let p : Party = node_party own peer in
    let all = answers_all own peer most input in
    record {
      ending = all.status;
      ends = all.ends;
      law = record {
        events = all.events;
        closing = all.closing;
        said = all.said;
        written = all.written;
        closes = all.closes;
        none_before = all.none_before;
        ups = ups-are (nat_lt most (length input)) p all.events _ all.closing all.status (1 + length all.events)
            (drop (length all.events) (lines_within most input)) all.written all.closes;
        once = each_once once p all.events;
        whole = λ earlier later event is. hands_up_red_parts hands_up p earlier event;
      };
    }
