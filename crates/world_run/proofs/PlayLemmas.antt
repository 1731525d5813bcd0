-- What the lines after the first settle on a path, by what they say.
use Rattle.std.proofs.Common.{◌≡◌, ℕ, zero, suc, ◌+◌, ◌<◌, ◌⊎◌, Bool, true, false, ◌||◌, nat_lt, nat_le, List, [], ◌∷◌, ◌++◌, length, map, take, get_or, Option, None, Some, Result, Ok, Err, refl, sym, ap, ◌∙◌, append_assoc, arith, subst, inl, inr, if◌then◌else◌}
use Rattle.std.proofs.lemmas.Bool.Decides.{nat_tests}
use Rattle.edge_traits.specs.declared.status.Status.{Status}
use Rattle.edge_traits.specs.declared.status.Status.TheVariants as statuses
use Rattle.edge_traits.specs.Settled.{Settled}
use Rattle.command_frame.specs.Lines.{passes, ends_run, turn_at, after_turn, lines_settle}
use Rattle.ltp_segment.specs.declared.session.TheConstants.{BLOCK_MAX}
use Rattle.replay_script.specs.declared.fault.LineFault.{LineFault}
use Rattle.path_laws.specs.Path.{PathSetup, Path, PathEvent, sends, delivers, clock_shows, path_step, path_run, starts_path}
use Rattle.path_drain.specs.Hopeful.{IsPathReached}
use Rattle.path_drain.specs.Left.{IsOverBy, IsTimed}
use Rattle.path_drain.specs.Drained.{EndsBy, DrainsAreMade}
use Rattle.world_run.specs.WrittenLines.{refusal_line, after_drain_line}
use Rattle.world_run.specs.World.{WorldState, on_path, drained, LaterLine, says_event, says_drain, line_in, event_text, events_text, is_late, is_late_if_any, no_moment, most_sent, octets_sent, clean_after, drain_made, drain_text, if_kept, happens, drains_by, line_turn, world_rules}
use Rattle.world_run.specs.Headline.{lines_said, DrainMakes, if_drained_text, IsPastLines, IsPastPath, PassesLimit, ClosesAs}
use Rattle.world_run.proofs.StepLemmas.{run-append}

-- what some lines settle on a path, of which the first has number n, by what the first of them say
pub record Plays (longer : Bool) (s : PathSetup) (w : Path) (n : ℕ) (lines : List (List ℕ)) (settled : Settled) : Type 0 where
  pub events : List PathEvent
  pub drains : Bool
  pub later : List (List ℕ)
  pub left : List (List ℕ)
  pub lines_are : lines ≡ later ++ left
  pub said : map line_in later ≡ map Ok (lines_said events drains)
  pub made : List PathEvent
  pub drain : DrainMakes drains s (path_run s w events) made
  pub ending : Status
  pub ends : settled.ends ≡ Some ending
  pub closing : List ℕ
  pub closes : ClosesAs longer s (path_run s w events) ending drains (n + length (lines_said events drains)) left closing
  pub none_before : (i : ℕ) → i < length (lines_said events drains)
      → PassesLimit false s (path_run s w (take i events)) (n + i) (get_or later i []) → ⊥
  pub written : settled.text ≡ events_text s w events ++ (if_drained_text drains s (path_run s w events) made ++ closing)

-- nothing more is played of some lines after a drain, of which the first has number n
pub record Closes (longer : Bool) (s : PathSetup) (w : Path) (n : ℕ) (lines : List (List ℕ)) (settled : Settled) : Type 0 where
  pub ending : Status
  pub ends : settled.ends ≡ Some ending
  pub closes : ClosesAs longer s w ending true n lines settled.text

-- how the run ends after the last line, wherever that leaves the path
pub record EndsLines (longer : Bool) (ending : WorldState → Settled) : Type 0 where
  pub last : Status
  pub none_left : (s : PathSetup) (w : Path) (over : Bool) (n : ℕ) → ClosesAs longer s w last over n [] []
  pub on : (s : PathSetup) (w : Path) → ending (on_path s w) ≡ record { text = []; ends = Some last }
  pub after : ending drained ≡ record { text = []; ends = Some last }

-- ---- limits

less : (a b : ℕ) → nat_lt a b ≡ true → a < b
less a b is = grind (arith, nat_tests, is)

pub past-lines : (n : ℕ) (line : List ℕ) → (nat_lt world_rules.lines n || nat_lt world_rules.octets (length line)) ≡ true → IsPastLines n line
past-lines n line = by (nat_lt world_rules.lines n) refl
  where
    by : (many : Bool) → nat_lt world_rules.lines n ≡ many → (many || nat_lt world_rules.octets (length line)) ≡ true → IsPastLines n line
    by true many past = inl (less world_rules.lines n many)
    by false few past = inr (less world_rules.octets (length line) past)

not-less : (a b : ℕ) → nat_lt a b ≡ false → a < b → ⊥
not-less a b is low = grind (arith, nat_tests, is, low)

pub within-lines : (n : ℕ) (line : List ℕ) → (nat_lt world_rules.lines n || nat_lt world_rules.octets (length line)) ≡ false → IsPastLines n line → ⊥
within-lines n line = by (nat_lt world_rules.lines n) refl
  where
    by : (many : Bool) → nat_lt world_rules.lines n ≡ many → (many || nat_lt world_rules.octets (length line)) ≡ false → IsPastLines n line → ⊥
    by true many none past = absurd (cc (none))
    by false few short (inl past) = not-less world_rules.lines n few past
    by false few short (inr past) = not-less world_rules.octets (length line) short past

-- what a line says, where it isn't refused
abbrev said-of : Result LaterLine LineFault → LaterLine
said-of (Ok said) = said
said-of (Err fault) = says_drain

-- a line that is done on a path passes no limit
within-limits : (s : PathSetup) (w : Path) (n : ℕ) (line : List ℕ) (said : LaterLine) → line_in line ≡ Ok said
    → (IsPastLines n line → ⊥) → (IsPastPath s w said → ⊥) → PassesLimit false s w n line → ⊥
within-limits s w n line said is within done (inl past) = within past
within-limits s w n line said is within done (inr (other, reads, past)) =
    done (subst (λ (l : LaterLine). IsPastPath s w l) (ap said-of (sym reads ∙ is)) past)

-- ---- the run ends

stops : (longer : Bool) (s : PathSetup) (w : Path) (n : ℕ) (lines : List (List ℕ)) (closing : List ℕ) (status : Status)
    → ClosesAs longer s w status false n lines closing → Plays longer s w n lines (record { text = closing; ends = Some status })
unfolding events_text path_run
stops longer s w n lines closing status closes = record {
  events = [];
  drains = false;
  later = [];
  left = lines;
  lines_are = refl;
  said = refl;
  made = [];
  drain = refl;
  ending = status;
  ends = refl;
  closing = closing;
  closes = subst (λ k. ClosesAs longer s w status false k lines closing) (omega arith) closes;
  none_before = λ i low past. absurd (omega (arith, low));
  written = refl;
}

-- ---- after a drain

module _ (longer : Bool) (s : PathSetup) (w : Path) where
  module _ (n : ℕ) (line : List ℕ) (lines : List (List ℕ)) (settle : WorldState → Settled) where
    line_refused : Closes longer s w n (line ∷ lines) (after_turn (turn_at world_rules n drained line) settle)
    unfolding turn_at
    line_refused = by_past (nat_lt world_rules.lines n || nat_lt world_rules.octets (length line)) refl
      where
        by_past : (t : Bool) → (nat_lt world_rules.lines n || nat_lt world_rules.octets (length line)) ≡ t
            → Closes longer s w n (line ∷ lines)
            (after_turn (if t then ends_run [] statuses.Limit else ends_run (after_drain_line n) statuses.Refused) settle)
        by_past true past = record { ending = statuses.Limit; ends = refl; closes = (past-lines n line past, refl) }
        by_past false inside = record { ending = statuses.Refused; ends = refl; closes = (within-lines n line inside, refl) }

  module _ (ending : WorldState → Settled) (last : EndsLines longer ending) where
    pub closes_from : (n : ℕ) (lines : List (List ℕ)) → Closes longer s w n lines (lines_settle world_rules n drained lines ending)
    unfolding lines_settle
    closes_from n [] = rw last.after (record { ending = last.last; ends = refl; closes = last.none_left s w true n })
    closes_from n (line ∷ lines) = line_refused n line lines (λ now. lines_settle world_rules (n + 1) now lines ending)

-- ---- where a drain ends

none-late : (next : Option PathEvent) → IsOverBy no_moment next → is_late_if_any next ≡ false → next ≡ None
none-late None over early = refl
none-late (Some (sends end block)) over early = absurd over
none-late (Some (delivers k)) over early = absurd over
none-late (Some (clock_shows now)) over early =
    let late : nat_le no_moment now ≡ true = grind (arith, nat_tests, over) in
    absurd (cc)

-- the events of the definition lead there, from every path that a run leads to
made-so : (s : PathSetup) (w : Path) → DrainsAreMade → IsTimed s BLOCK_MAX → IsPathReached s w
    → EndsBy no_moment s w (length w.sent) (drain_made s w)
made-so s w law timed reached =
    subst (λ (x : Path). EndsBy no_moment s x (length x.sent) (drain_made s x)) reached.leads
    (law s reached.start BLOCK_MAX (length (path_run s (starts_path s reached.start) reached.events).sent) no_moment reached.events timed)

-- ---- one line more

module _ (longer : Bool) (s : PathSetup) (w : Path) (n : ℕ) (line : List ℕ) (lines : List (List ℕ)) where
  goes_on : (event : PathEvent) (later : Settled) → line_in line ≡ Ok (says_event event) → (PassesLimit false s w n line → ⊥)
      → Plays longer s (path_step s w event).path (n + 1) lines later
      → Plays longer s w n (line ∷ lines) (record { text = event_text s w event ++ later.text; ends = later.ends })
  unfolding events_text path_run
  goes_on event later is within rest = record {
    events = event ∷ rest.events;
    drains = rest.drains;
    later = line ∷ rest.later;
    left = rest.left;
    lines_are = ap (λ ls. line ∷ ls) rest.lines_are;
    said = rw (is, rest.said) refl;
    made = rest.made;
    drain = rest.drain;
    ending = rest.ending;
    ends = rest.ends;
    closing = rest.closing;
    closes = subst (λ k. ClosesAs longer s (path_run s (path_step s w event).path rest.events) rest.ending rest.drains k rest.left rest.closing) (omega arith) rest.closes;
    none_before = none;
    written = ap (λ t. event_text s w event ++ t) rest.written
        ∙ sym (append_assoc (event_text s w event) (events_text s (path_step s w event).path rest.events)
        (if_drained_text rest.drains s (path_run s (path_step s w event).path rest.events) rest.made ++ rest.closing));
  } where
    none : (i : ℕ) → i < length (lines_said (event ∷ rest.events) rest.drains)
        → PassesLimit false s (path_run s w (take i (event ∷ rest.events))) (n + i) (get_or (line ∷ rest.later) i []) → ⊥
    none zero low past = within (subst (λ k. PassesLimit false s w k line) (omega arith) past)
    none (suc i) low past =
        rest.none_before i (omega (arith, low))
        (subst (λ k. PassesLimit false s (path_run s (path_step s w event).path (take i rest.events)) k (get_or rest.later i [])) (omega arith) past)

  limit : PassesLimit false s w n line → Plays longer s w n (line ∷ lines) (record { text = []; ends = Some statuses.Limit })
  limit past = stops longer s w n (line ∷ lines) [] statuses.Limit (past, refl)

  past-path : (said : LaterLine) → line_in line ≡ Ok said → IsPastPath s w said
      → Plays longer s w n (line ∷ lines) (record { text = []; ends = Some statuses.Limit })
  past-path said is past = limit (inr (said, is, past))

  -- the path is drained, and these events were made
  module _ (is : line_in line ≡ Ok says_drain) (inside : IsPastLines n line → ⊥) (made : List PathEvent) (made_is : made ≡ drain_made s w)
      (ends : EndsBy no_moment s w (length w.sent) made)
      (settle : WorldState → Settled) (rest : Closes longer s w (n + 1) lines (settle drained)) where
    drained_so : clean_after s w made ≡ None → (PassesLimit false s w n line → ⊥)
        → Plays longer s w n (line ∷ lines) (record { text = drain_text s w made ++ (settle drained).text; ends = (settle drained).ends })
    unfolding events_text path_run
    drained_so none within = record {
      events = [];
      drains = true;
      later = line ∷ [];
      left = lines;
      lines_are = refl;
      said = rw is refl;
      made = made;
      drain = (ends.clean, ends.early, none);
      ending = rest.ending;
      ends = rest.ends;
      closing = (settle drained).text;
      closes = rest.closes;
      none_before = none_passes;
      written = refl;
    } where
      none_passes : (i : ℕ) → i < length (lines_said [] true) → PassesLimit false s (path_run s w (take i [])) (n + i) (get_or (line ∷ []) i []) → ⊥
      none_passes zero low past = within (subst (λ k. PassesLimit false s w k line) (omega arith) past)
      none_passes (suc i) low past = absurd (omega (arith, low))

    not-past : clean_after s w made ≡ None → nat_lt most_sent (octets_sent (path_run s w made).sent) ≡ false
        → (is_late_if_any (clean_after s w made) ≡ true) ⊎ (most_sent < octets_sent (path_run s w made).sent) → ⊥
    not-past none few (inl late) = let early : is_late_if_any (clean_after s w made) ≡ false = ap is_late_if_any none in absurd (cc (early, late))
    not-past none few (inr many) = not-less most_sent (octets_sent (path_run s w made).sent) few many

    within-drain : clean_after s w made ≡ None → nat_lt most_sent (octets_sent (path_run s w made).sent) ≡ false → PassesLimit false s w n line → ⊥
    within-drain none few =
        within-limits s w n line says_drain is inside (λ past. not-past none few
        (subst (λ (ms : List PathEvent). (is_late_if_any (clean_after s w ms) ≡ true) ⊎ (most_sent < octets_sent (path_run s w ms).sent)) (sym made_is) past))

    past-drain : (is_late_if_any (clean_after s w made) ≡ true) ⊎ (most_sent < octets_sent (path_run s w made).sent)
        → Plays longer s w n (line ∷ lines) (record { text = []; ends = Some statuses.Limit })
    past-drain past = past-path says_drain is
        (subst (λ (ms : List PathEvent). (is_late_if_any (clean_after s w ms) ≡ true) ⊎ (most_sent < octets_sent (path_run s w ms).sent)) made_is past)

    pub drains : Plays longer s w n (line ∷ lines) (after_turn (drains_by s w made) settle)
    drains = by_late (is_late_if_any (clean_after s w made)) refl
      where
        by_most : (t : Bool) → nat_lt most_sent (octets_sent (path_run s w made).sent) ≡ t → clean_after s w made ≡ None
            → Plays longer s w n (line ∷ lines)
            (after_turn (if t then ends_run [] statuses.Limit else passes (drain_text s w made) drained) settle)
        by_most true many none = past-drain (inr (less most_sent (octets_sent (path_run s w made).sent) many))
        by_most false few none = drained_so none (within-drain none few)

        by_late : (t : Bool) → is_late_if_any (clean_after s w made) ≡ t → Plays longer s w n (line ∷ lines)
            (after_turn (if t then ends_run [] statuses.Limit else if_kept (drain_text s w made) (path_run s w made) drained) settle)
        by_late true late = past-drain (inl late)
        by_late false early =
            by_most (nat_lt most_sent (octets_sent (path_run s w made).sent)) refl (none-late (clean_after s w made) ends.over early)

  module _ (settle : WorldState → Settled) (rest : (event : PathEvent) → line_in line ≡ Ok (says_event event)
      → Plays longer s (path_step s w event).path (n + 1) lines (settle (on_path s (path_step s w event).path)))
      (ends : EndsBy no_moment s w (length w.sent) (drain_made s w)) (over : Closes longer s w (n + 1) lines (settle drained))
      (inside : IsPastLines n line → ⊥) where
    happened : (event : PathEvent) → line_in line ≡ Ok (says_event event)
        → Plays longer s w n (line ∷ lines) (after_turn (happens s w event) settle)
    happened event is = by_late (is_late event) refl
      where
        not-past : is_late event ≡ false → nat_lt most_sent (octets_sent (path_step s w event).path.sent) ≡ false → IsPastPath s w (says_event event) → ⊥
        not-past early few (inl late) = absurd (cc (early, late))
        not-past early few (inr many) = not-less most_sent (octets_sent (path_step s w event).path.sent) few many

        by_most : (t : Bool) → nat_lt most_sent (octets_sent (path_step s w event).path.sent) ≡ t → is_late event ≡ false → Plays longer s w n (line ∷ lines)
            (after_turn (if t then ends_run [] statuses.Limit else passes (event_text s w event) (on_path s (path_step s w event).path)) settle)
        by_most true many early = past-path (says_event event) is (inr (less most_sent (octets_sent (path_step s w event).path.sent) many))
        by_most false few early = goes_on event _ is (within-limits s w n line (says_event event) is inside (not-past early few)) (rest event is)

        by_late : (t : Bool) → is_late event ≡ t → Plays longer s w n (line ∷ lines)
            (after_turn (if t then ends_run [] statuses.Limit
            else if_kept (event_text s w event) (path_step s w event).path (on_path s (path_step s w event).path)) settle)
        by_late true late = past-path (says_event event) is (inl late)
        by_late false early = by_most (nat_lt most_sent (octets_sent (path_step s w event).path.sent)) refl early

    turned : (said : Result LaterLine LineFault) → line_in line ≡ said
        → Plays longer s w n (line ∷ lines) (after_turn (line_turn n s w said) settle)
    turned (Ok (says_event event)) is = happened event is
    turned (Ok says_drain) is = drains is inside (drain_made s w) refl ends settle over
    turned (Err fault) is = stops longer s w n (line ∷ lines) (refusal_line n fault) statuses.Refused (inside, (fault, is, refl))

  module _ (settle : WorldState → Settled) (rest : (event : PathEvent) → line_in line ≡ Ok (says_event event)
      → Plays longer s (path_step s w event).path (n + 1) lines (settle (on_path s (path_step s w event).path)))
      (ends : EndsBy no_moment s w (length w.sent) (drain_made s w)) (over : Closes longer s w (n + 1) lines (settle drained)) where
    pub line_turned : Plays longer s w n (line ∷ lines) (after_turn (turn_at world_rules n (on_path s w) line) settle)
    unfolding turn_at
    line_turned = by_past (nat_lt world_rules.lines n || nat_lt world_rules.octets (length line)) refl
      where
        by_past : (t : Bool) → (nat_lt world_rules.lines n || nat_lt world_rules.octets (length line)) ≡ t
            → Plays longer s w n (line ∷ lines)
            (after_turn (if t then ends_run [] statuses.Limit else line_turn n s w (line_in line)) settle)
        by_past true past = limit (inl (past-lines n line past))
        by_past false inside = turned settle rest ends over (within-lines n line inside) (line_in line) refl

-- ---- all lines on a path

-- one event more leads to another such path
reached-more : (s : PathSetup) (w : Path) (event : PathEvent) → IsPathReached s w → IsPathReached s (path_step s w event).path
unfolding path_run
reached-more s w event reached = record {
  start = reached.start;
  events = reached.events ++ event ∷ [];
  leads = run-append s (starts_path s reached.start) reached.events (event ∷ [])
      ∙ ap (λ (x : Path). (path_step s x event).path) reached.leads;
}

module _ (law : DrainsAreMade) (longer : Bool) (ending : WorldState → Settled) (last : EndsLines longer ending) where
  pub plays_from : (s : PathSetup) (w : Path) (n : ℕ) (lines : List (List ℕ)) → IsTimed s BLOCK_MAX → IsPathReached s w
      → Plays longer s w n lines (lines_settle world_rules n (on_path s w) lines ending)
  unfolding lines_settle
  plays_from s w n [] timed reached = rw (last.on s w) (stops longer s w n [] [] last.last (last.none_left s w false n))
  plays_from s w n (line ∷ lines) timed reached =
      line_turned longer s w n line lines (λ now. lines_settle world_rules (n + 1) now lines ending)
      (λ event said. plays_from s (path_step s w event).path (n + 1) lines timed (reached-more s w event reached))
      (made-so s w law timed reached) (closes_from longer s w ending last (n + 1) lines)
