-- What the lines after the windows settle on a link, by what they say.

use Rattle.std.proofs.Common.{◌≡◌, ℕ, ◌+◌, ◌≤◌, Bool, true, false, ◌&&◌, ◌||◌, nat_lt, nat_le, nat_eq, List, [], ◌∷◌, ◌++◌, length, map, codes, Option, None, Some, Result, Ok, Err, refl, sym, ap, ◌∙◌, append_assoc, subst, if◌then◌else◌}
use Rattle.std.specs.List.{AllByRecursion, slice_get, starts_with}
use Rattle.edge_traits.specs.declared.status.Status.{Status}
use Rattle.edge_traits.specs.declared.status.Status.TheVariants as statuses
use Rattle.edge_traits.specs.Settled.{Settled}
use Rattle.command_frame.specs.Lines.{passes, ends_run, turn_at, after_turn}
use Rattle.ltp_session.specs.Engine.{EngineStep, Party, SubmitFault}
use Rattle.ltp_session.specs.World.{Sent as LinkSent}
use Rattle.ltp_session.specs.World.{Event, World, clock, deliver, happens, run, starts_world, submit}
use Rattle.ltp_drain.specs.Clean.{link_deadline}
use Rattle.ltp_drain.specs.Effects.{effects_at}
use Rattle.ltp_drain.specs.Hopeful.{IsReached}
use Rattle.ltp_drain.specs.Left.{AreTimed}
use Rattle.ltp_picks.specs.Picks.{Turn as PickTurn, after_picks, crosses_at, next_turn}
use Rattle.ltp_picks.specs.PickedRuns.{run_events}
use Rattle.ltp_engine.specs.Refused.{refusal_of, submit_word}
use Rattle.ltp_world.specs.Drain.{told_of}
use Rattle.ltp_world.specs.Ends.{link_end}
use Rattle.ltp_world.specs.Steps.{submission_at}
use Rattle.ltp_world.proofs.DrainLemmas.{length-done, run-append}
use Rattle.contact_plan.specs.Windows.{elapsed, is_open, total}
use Rattle.replay_script.specs.declared.fault.LineFault.{LineFault}
use Rattle.replay_script.specs.declared.fault.LineFault.TheVariants as faults
use Rattle.replay_script.specs.declared.link.LinkEvent.{LinkEvent}
use Rattle.replay_script.specs.declared.link.LinkEvent.TheVariants as events
use Rattle.replay_script.specs.declared.picks.PickWord.{PickWord}
use Rattle.node_run.proofs.PlainLemmas.{submit-plain}
use Rattle.window_world.specs.Made.{EndsBy}
use Rattle.window_world.proofs.MadeLemmas.{drains-are-made}
use Rattle.link_run.specs.Law.{DrainMakes, IsEvent, TellsEnd, TellsLast, end_text, stop_text, if_drain, made_by, makes, moment_after}
use Rattle.link_run.specs.Link.{LinkCourse, LinkSetup, LinkState, ats_of, delivered, delivers, drain_made, drain_text, drained, drains, drains_by, drains_by_picks, end_named, event_turn, if_kept, later_said, link_line, link_rules, most_sent, no_moment, on_link, only_says, passes_to, picked_by, picks_done, picks_end, picks_late, picks_turns, running_said, sends, steps_end, submitted, without_picks}
use Rattle.link_run.specs.Picks.{said_picks, turns_after}
use Rattle.link_run.specs.WrittenLines.{closed_refusal, deliver_refusal, end_line, octets_sent, octets_timed, refusal_line, send_refusal, told_text}
use Rattle.link_run.proofs.FewLemmas.{few-picks}
use Rattle.link_run.proofs.TellLemmas.{with_ends, HasLines, both-have, closed-has, event-has, none-has, nothing, refusal-has, shut-plain, told-append, told-none, told_in, undelivered-has, unsent-has}
use Rattle.link_run.proofs.DoneLemmas.{end-has, picked-drain, quiet-told, refused-stays, steps-has, stop-has, then-ends, timed-has}
use Rattle.link_run.proofs.TellLemmas.{then-nothing, told-one}

-- at most 100,000 picks
abbrev pub HasFewPicks : Option LinkEvent → Type 0
HasFewPicks (Some (events.DrainBy picks)) = length picks ≤ 100000
HasFewPicks (Some events.Drain) = Unit {0}
HasFewPicks None = Unit {0}
HasFewPicks (Some (events.Link segment timeout limit cap start)) = Unit {0}
HasFewPicks (Some (events.Window from to)) = Unit {0}
HasFewPicks (Some (events.Send first body)) = Unit {0}
HasFewPicks (Some (events.Deliver k)) = Unit {0}
HasFewPicks (Some (events.Clock now)) = Unit {0}

-- ---- what some lines settle, where the clock shows a moment

pub record Plays (s : LinkSetup) (w : World) (moment : ℕ) (lines : List (List ℕ)) (settled : Settled) : Type 0 where
  pub said : List LinkEvent
  pub drain : Option LinkEvent
  pub later : List (List ℕ)
  pub left : List (List ℕ)
  pub lines_are : lines ≡ later ++ left
  pub says : map later_said later ≡ map Ok (said ++ if_drain drain)
  pub are_events : AllByRecursion IsEvent said
  pub made : List Event
  pub drains : DrainMakes s (run s.parties w (made_by s moment said)) drain made
  pub ending : Status
  pub ends : settled.ends ≡ Some ending
  pub all : ending ≡ statuses.Done → left ≡ []
  pub ends_in : List (List ℕ)
  pub stops_in : List (List ℕ)
  pub tells : TellsEnd s (run s.parties w (made_by s moment said)) drain made ends_in stops_in
  pub few : HasFewPicks drain
  pub has : HasLines settled.text (with_ends (told_in s.parties w (made_by s moment said ++ made)) ends_in stops_in)

-- nothing more is told
pub record Closes (lines : List (List ℕ)) (settled : Settled) : Type 0 where
  pub ending : Status
  pub ends : settled.ends ≡ Some ending
  pub all : ending ≡ statuses.Done → lines ≡ []
  pub has : HasLines settled.text nothing

pub stops : (s : LinkSetup) (w : World) (moment : ℕ) (lines : List (List ℕ)) (text : List ℕ) (status : Status) → (status ≡ statuses.Done → lines ≡ []) → HasLines text nothing
    → Plays s w moment lines (record { text = text; ends = Some status })
unfolding made_by
stops s w moment lines text status all has = record {
  said = [];
  drain = None;
  later = [];
  left = lines;
  lines_are = refl;
  says = refl;
  are_events = tt;
  made = [];
  drains = refl;
  ending = status;
  ends = refl;
  all = all;
  ends_in = [];
  stops_in = [];
  tells = (refl, refl);
  few = tt;
  has = rw (told-none s.parties w) has;
}

-- ---- what a line says, wherever it stands

pub said-later : (windows : Bool) (line : List ℕ) (said : Result LinkEvent LineFault) (e : LinkEvent) → without_picks windows line said ≡ Ok e → said ≡ Ok e
said-later windows line said e is = by_test (windows && starts_with nat_eq line (codes "drain ")) is
  where
    by_test : (b : Bool) → (if b then Err faults.Word else said) ≡ Ok e → said ≡ Ok e
    by_test true is = absurd (cc)
    by_test false is = is

running-later : (line : List ℕ) (e : LinkEvent) → running_said line ≡ Ok e → later_said line ≡ Ok e
running-later line e is = by_test (starts_with nat_eq line (codes "window ")) is
  where
    by_test : (b : Bool) → (if b then Err faults.Word else later_said line) ≡ Ok e → later_said line ≡ Ok e
    by_test true is = absurd (cc)
    by_test false is = is

-- ---- one line more

module _ (s : LinkSetup) (w : World) (moment : ℕ) (line : List ℕ) (lines : List (List ℕ)) where
  goes_on : (e : LinkEvent) (text : List ℕ) (later : Settled) → IsEvent e → later_said line ≡ Ok e → HasLines text (told_in s.parties w (makes s moment e))
      → Plays s (run s.parties w (makes s moment e)) (moment_after moment e) lines later
      → Plays s w moment (line ∷ lines) (record { text = text ++ later.text; ends = later.ends })
  unfolding made_by
  goes_on e text later event is has rest = record {
    said = e ∷ rest.said;
    drain = rest.drain;
    later = line ∷ rest.later;
    left = rest.left;
    lines_are = ap (λ ls. line ∷ ls) rest.lines_are;
    says = rw (is, rest.says) refl;
    are_events = (event, rest.are_events);
    made = rest.made;
    drains = subst (λ (x : World). DrainMakes s x rest.drain rest.made)
        (sym (run-append s.parties w (makes s moment e) (made_by s (moment_after moment e) rest.said))) rest.drains;
    ending = rest.ending;
    ends = rest.ends;
    all = rest.all;
    ends_in = rest.ends_in;
    stops_in = rest.stops_in;
    tells = subst (λ (x : World). TellsEnd s x rest.drain rest.made rest.ends_in rest.stops_in)
        (sym (run-append s.parties w (makes s moment e) (made_by s (moment_after moment e) rest.said))) rest.tells;
    few = rest.few;
    has = subst (λ a. HasLines (text ++ later.text) (with_ends a rest.ends_in rest.stops_in))
        (sym (told-append s.parties w (makes s moment e) (made_by s (moment_after moment e) rest.said ++ rest.made))
        ∙ ap (told_in s.parties w) (sym (append_assoc (makes s moment e) (made_by s (moment_after moment e) rest.said) rest.made)))
        (both-have text later.text _ _ has rest.has);
  }

  -- by the events that the line makes
  goes_as : (e : LinkEvent) (es : List Event) (then_at : ℕ) (text : List ℕ) (later : Settled) → IsEvent e → later_said line ≡ Ok e → makes s moment e ≡ es
      → moment_after moment e ≡ then_at → HasLines text (told_in s.parties w es) → Plays s (run s.parties w es) then_at lines later
      → Plays s w moment (line ∷ lines) (record { text = text ++ later.text; ends = later.ends })
  goes_as e es then_at text later event is makes_es at has rest =
      goes_on e text later event is (subst (λ xs. HasLines text (told_in s.parties w xs)) (sym makes_es) has)
      (subst (λ xs. Plays s (run s.parties w xs) (moment_after moment e) lines later) (sym makes_es)
      (subst (λ n. Plays s (run s.parties w es) n lines later) (sym at) rest))

  limit : Plays s w moment (line ∷ lines) (record { text = []; ends = Some statuses.Limit })
  limit = stops s w moment (line ∷ lines) [] statuses.Limit (λ done. absurd (cc)) none-has

  -- the link is drained, and these events were made
  drained_so : (e : LinkEvent) (made : List Event) (text : List ℕ) (settled : Settled) (ends stops : List (List ℕ)) → later_said line ≡ Ok e → DrainMakes s w (Some e) made
      → TellsEnd s w (Some e) made ends stops → HasFewPicks (Some e)
      → HasLines text (with_ends (told_in s.parties w made) ends stops) → Closes lines settled
      → Plays s w moment (line ∷ lines) (record { text = text ++ settled.text; ends = settled.ends })
  unfolding made_by
  drained_so e made text settled ends stops is makes_made tells few has rest = record {
    said = [];
    drain = Some e;
    later = line ∷ [];
    left = lines;
    lines_are = refl;
    says = rw is refl;
    are_events = tt;
    made = made;
    drains = makes_made;
    ending = rest.ending;
    ends = rest.ends;
    all = rest.all;
    ends_in = ends;
    stops_in = stops;
    tells = tells;
    few = few;
    has = subst (HasLines (text ++ settled.text)) (then-nothing (with_ends (told_in s.parties w made) ends stops)) (both-have text settled.text _ _ has rest.has);
  }

-- ---- a line by what it says

-- one event more leads to another such world
step-reached : (parties : Party × Party) (w : World) (event : Event) → IsReached parties w → IsReached parties (happens parties w event)
step-reached parties w event reached = record {
  events = reached.events ++ event ∷ [];
  leads = run-append parties (starts_world parties) reached.events (event ∷ []) ∙ ap (λ (l : World). happens parties l event) reached.leads;
}

module _ (s : LinkSetup) (c : LinkCourse) (n : ℕ) (line : List ℕ) (lines : List (List ℕ)) (settle : LinkState → Settled)
    (timed : AreTimed s.parties) (reached : IsReached s.parties c.world)
    (rest : (c' : LinkCourse) → IsReached s.parties c'.world → Plays s c'.world c'.moment lines (settle (on_link s c')))
    (over : Closes lines (settle drained)) where
  abbrev Here : Settled → Type 0
  Here settled = Plays s c.world c.moment (line ∷ lines) settled

  only : (e : LinkEvent) (es : List Event) (text : List ℕ) → IsEvent e → later_said line ≡ Ok e → makes s c.moment e ≡ es → moment_after c.moment e ≡ c.moment
      → run s.parties c.world es ≡ c.world → told_in s.parties c.world es ≡ nothing → HasLines text nothing
      → Plays s c.world c.moment (line ∷ lines) (after_turn (only_says s c text) settle)
  only e es text may is makes_es at stays quiet has =
      goes_as s c.world c.moment line lines e es c.moment text (settle (on_link s c)) may is makes_es at
      (subst (HasLines text) (sym quiet) has)
      (subst (λ (x : World). Plays s x c.moment lines (settle (on_link s c))) (sym stays) (rest c reached))

  happened : (e : LinkEvent) (event : Event) (moment : ℕ) → IsEvent e → later_said line ≡ Ok e → makes s c.moment e ≡ event ∷ [] → moment_after c.moment e ≡ moment
      → Plays s c.world c.moment (line ∷ lines) (after_turn (event_turn s c event moment) settle)
  happened e event moment may is makes_it at = by_kept (nat_lt most_sent (c.octets + octets_sent (map told_of (effects_at s.parties c.world event))))
    where
      by_kept : (b : Bool) → Plays s c.world c.moment (line ∷ lines) (after_turn (if b then ends_run [] statuses.Limit
          else passes (told_text (length c.world.sent) (map told_of (effects_at s.parties c.world event)))
          (on_link s (record { world = happens s.parties c.world event; moment = moment; octets = c.octets + octets_sent (map told_of (effects_at s.parties c.world event)) }))) settle)
      by_kept true = limit s c.world c.moment line lines
      by_kept false =
          goes_as s c.world c.moment line lines e (event ∷ []) moment _ _ may is makes_it at
          (subst (HasLines (told_text (length c.world.sent) (map told_of (effects_at s.parties c.world event)))) (sym (told-one s.parties c.world event))
          (event-has s.parties c.world event (length c.world.sent)))
          (rest (record { world = happens s.parties c.world event; moment = moment; octets = c.octets + octets_sent (map told_of (effects_at s.parties c.world event)) })
          (step-reached s.parties c.world event reached))

  sent_turn : (first : Bool) (body : List ℕ) → later_said line ≡ Ok (events.Send first body)
      → Plays s c.world c.moment (line ∷ lines) (after_turn (sends s c (end_named first) body) settle)
  sent_turn first body is = by_open (is_open s.plan c.moment) refl
    where
      event : Event
      event = submit (link_end (end_named first)) body (length body)

      by_step : (r : Result EngineStep SubmitFault) → submission_at s.parties c.world (link_end (end_named first)) body (length body) ≡ r
          → makes s c.moment (events.Send first body) ≡ submit (link_end (end_named first)) body (length body) ∷ []
          → Plays s c.world c.moment (line ∷ lines) (after_turn (submitted s c (end_named first) body r) settle)
      by_step (Ok step) was makes_it = happened (events.Send first body) (submit (link_end (end_named first)) body (length body)) c.moment tt is makes_it refl
      by_step (Err fault) was makes_it =
          let stays = refused-stays s.parties c.world (link_end (end_named first)) body fault was in
          only (events.Send first body) (submit (link_end (end_named first)) body (length body) ∷ []) (send_refusal (end_named first) (submit_word (refusal_of fault))) tt is makes_it refl
          stays.0 (quiet-told s.parties c.world (link_end (end_named first)) body stays.1) (unsent-has (end_named first) (submit_word (refusal_of fault)) (submit-plain fault))

      by_open : (b : Bool) → is_open s.plan c.moment ≡ b
          → Plays s c.world c.moment (line ∷ lines) (after_turn (if b
          then submitted s c (end_named first) body (submission_at s.parties c.world (link_end (end_named first)) body (length body))
          else only_says s c (send_refusal (end_named first) (codes "Closed"))) settle)
      by_open true opens = by_step (submission_at s.parties c.world (link_end (end_named first)) body (length body)) refl (rw opens refl)
      by_open false shut = only (events.Send first body) [] (send_refusal (end_named first) (codes "Closed")) tt is (rw shut refl) refl refl (told-none s.parties c.world)
          (unsent-has (end_named first) (codes "Closed") shut-plain)

  delivered_turn : (k : ℕ) → later_said line ≡ Ok (events.Deliver k) → Plays s c.world c.moment (line ∷ lines) (after_turn (delivers s c k) settle)
  delivered_turn k is = by_open (is_open s.plan c.moment) refl
    where
      by_got : (got : Option LinkSent) → slice_get c.world.sent k ≡ got → makes s c.moment (events.Deliver k) ≡ deliver k ∷ []
          → Plays s c.world c.moment (line ∷ lines) (after_turn (delivered s c k got) settle)
      by_got None none makes_it =
          only (events.Deliver k) (deliver k ∷ []) deliver_refusal tt is makes_it refl (rw none refl)
          (told-one s.parties c.world (deliver k) ∙ rw none refl) undelivered-has
      by_got (Some d) some makes_it = happened (events.Deliver k) (deliver k) c.moment tt is makes_it refl

      by_open : (b : Bool) → is_open s.plan c.moment ≡ b
          → Plays s c.world c.moment (line ∷ lines) (after_turn (if b then delivered s c k (slice_get c.world.sent k) else only_says s c closed_refusal) settle)
      by_open true opens = by_got (slice_get c.world.sent k) refl (rw opens refl)
      by_open false shut = only (events.Deliver k) [] closed_refusal tt is (rw shut refl) refl refl (told-none s.parties c.world) closed-has

  passed_turn : (now : ℕ) → later_said line ≡ Ok (events.Clock now) → Plays s c.world c.moment (line ∷ lines) (after_turn (passes_to s c now) settle)
  passed_turn now is = by_late (nat_le no_moment now)
    where
      by_back : (b : Bool) → nat_lt now c.moment ≡ b
          → Plays s c.world c.moment (line ∷ lines) (after_turn (if b then only_says s c [] else event_turn s c (clock (elapsed s.plan now)) now) settle)
      by_back true back = only (events.Clock now) [] [] tt is (rw back refl) (rw back refl) refl (told-none s.parties c.world) none-has
      by_back false on = happened (events.Clock now) (clock (elapsed s.plan now)) now tt is (rw on refl) (rw on refl)

      by_late : (b : Bool) → Plays s c.world c.moment (line ∷ lines)
          (after_turn (if b then ends_run [] statuses.Limit else if nat_lt now c.moment then only_says s c [] else event_turn s c (clock (elapsed s.plan now)) now) settle)
      by_late true = limit s c.world c.moment line lines
      by_late false = by_back (nat_lt now c.moment) refl

  -- what a drain makes is written, unless it passes the limit
  kept_so : (e : LinkEvent) (made : List Event) (octets : ℕ) (text : List ℕ) (ends stops : List (List ℕ)) → later_said line ≡ Ok e
      → DrainMakes s c.world (Some e) made → TellsEnd s c.world (Some e) made ends stops → HasFewPicks (Some e)
      → HasLines text (with_ends (told_in s.parties c.world made) ends stops)
      → Plays s c.world c.moment (line ∷ lines) (after_turn (if_kept octets text drained) settle)
  kept_so e made octets text ends stops is makes_made tells few has = by_kept (nat_lt most_sent octets)
    where
      by_kept : (b : Bool) → Plays s c.world c.moment (line ∷ lines) (after_turn (if b then ends_run [] statuses.Limit else passes text drained) settle)
      by_kept true = limit s c.world c.moment line lines
      by_kept false = drained_so s c.world c.moment line lines e made text (settle drained) ends stops is makes_made tells few has over

  drained_turn : later_said line ≡ Ok events.Drain → Plays s c.world c.moment (line ∷ lines) (after_turn (drains s c) settle)
  drained_turn is = by_due (link_deadline (run s.parties c.world (drain_made s c))) refl
    where
      made_so : EndsBy (total s.plan) s.parties c.world (length c.world.sent) (drain_made s c)
      made_so = drains-are-made s.parties c.world (total s.plan) (length c.world.sent) timed reached

      over-has : HasLines (drain_text s c (drain_made s c) false) (with_ends (told_in s.parties c.world (drain_made s c)) (end_text (length (drain_made s c)) ∷ []) [])
      over-has =
          subst (HasLines (drain_text s c (drain_made s c) false)) (then-ends (told_in s.parties c.world (drain_made s c)) (end_text (length (drain_made s c)) ∷ []) [] refl refl)
          (both-have _ _ _ _ (timed-has s c.world (drain_made s c) s.windows c.moment (length c.world.sent)) (end-has (length (drain_made s c))))

      stopped-has : HasLines (drain_text s c (drain_made s c) true) (with_ends (told_in s.parties c.world (drain_made s c)) [] (stop_text (length (drain_made s c)) ∷ []))
      stopped-has =
          subst (HasLines (drain_text s c (drain_made s c) true)) (then-ends (told_in s.parties c.world (drain_made s c)) [] (stop_text (length (drain_made s c)) ∷ []) refl refl)
          (both-have _ _ _ _ (timed-has s c.world (drain_made s c) s.windows c.moment (length c.world.sent)) (stop-has (length (drain_made s c))))

      by_windows : (b : Bool) (deadline : ℕ) → link_deadline (run s.parties c.world (drain_made s c)) ≡ Some deadline → Plays s c.world c.moment (line ∷ lines)
          (after_turn (if b then if_kept (c.octets + octets_timed (ats_of s c.world (drain_made s c))) (drain_text s c (drain_made s c) true) drained else ends_run [] statuses.Limit) settle)
      by_windows true deadline due =
          kept_so events.Drain (drain_made s c) _ _ [] (stop_text (length (drain_made s c)) ∷ []) is made_so
          (subst (λ d. TellsLast d (length (drain_made s c)) [] (stop_text (length (drain_made s c)) ∷ [])) (sym due) (refl, refl)) tt stopped-has
      by_windows false deadline due = limit s c.world c.moment line lines

      by_due : (due : Option ℕ) → link_deadline (run s.parties c.world (drain_made s c)) ≡ due
          → Plays s c.world c.moment (line ∷ lines) (after_turn (drains_by s c (drain_made s c) due) settle)
      by_due None none =
          kept_so events.Drain (drain_made s c) _ _ (end_text (length (drain_made s c)) ∷ []) [] is made_so
          (subst (λ d. TellsLast d (length (drain_made s c)) (end_text (length (drain_made s c)) ∷ []) []) (sym none) (refl, refl)) tt over-has
      by_due (Some deadline) due = by_windows s.windows deadline due

  picked_turn : (words : List PickWord) → later_said line ≡ Ok (events.DrainBy words) → Plays s c.world c.moment (line ∷ lines) (after_turn (drains_by_picks s c (said_picks words)) settle)
  picked_turn words is = by_late (picks_late s c (said_picks words))
    where
      -- as many events as steps
      counts : length (picks_done s c (picks_turns s c (said_picks words))) ≡ length (run_events s.parties c.world (said_picks words) (turns_after no_moment s.parties (after_picks s.parties (crosses_at c.world) (said_picks words))))
      counts = length-done s.parties c.world (run_events s.parties c.world (said_picks words) (turns_after no_moment s.parties (after_picks s.parties (crosses_at c.world) (said_picks words))))

      text-has : HasLines (steps_end c (picks_done s c (picks_turns s c (said_picks words)))) (with_ends (told_in s.parties c.world (run_events s.parties c.world (said_picks words) (turns_after no_moment s.parties (after_picks s.parties (crosses_at c.world) (said_picks words))))) (end_text (length (run_events s.parties c.world (said_picks words) (turns_after no_moment s.parties (after_picks s.parties (crosses_at c.world) (said_picks words))))) ∷ []) [])
      text-has =
          subst (HasLines (steps_end c (picks_done s c (picks_turns s c (said_picks words))))) (then-ends (told_in s.parties c.world (run_events s.parties c.world (said_picks words) (turns_after no_moment s.parties (after_picks s.parties (crosses_at c.world) (said_picks words))))) (end_text (length (run_events s.parties c.world (said_picks words) (turns_after no_moment s.parties (after_picks s.parties (crosses_at c.world) (said_picks words))))) ∷ []) [] refl refl)
          (both-have _ _ _ _ (steps-has s.parties c.world (run_events s.parties c.world (said_picks words) (turns_after no_moment s.parties (after_picks s.parties (crosses_at c.world) (said_picks words)))) (length c.world.sent))
          (subst (λ n. HasLines (end_line (length (picks_done s c (picks_turns s c (said_picks words))))) (with_ends nothing (end_text n ∷ []) [])) counts (end-has _)))

      by_next : (o : Option PickTurn) → next_turn (picks_end s c (said_picks words)).world (picks_end s c (said_picks words)).new ≡ o
          → Plays s c.world c.moment (line ∷ lines) (after_turn (picked_by c (picks_done s c (picks_turns s c (said_picks words))) o) settle)
      by_next None none =
          kept_so (events.DrainBy words) (run_events s.parties c.world (said_picks words) (turns_after no_moment s.parties (after_picks s.parties (crosses_at c.world) (said_picks words)))) _ _ (end_text (length (run_events s.parties c.world (said_picks words) (turns_after no_moment s.parties (after_picks s.parties (crosses_at c.world) (said_picks words))))) ∷ []) [] is
          (picked-drain s c.world (said_picks words) timed reached none) (refl, refl) (few-picks words line is) text-has
      by_next (Some t) some = limit s c.world c.moment line lines

      by_late : (b : Bool) → Plays s c.world c.moment (line ∷ lines) (after_turn (if b then ends_run [] statuses.Limit
          else picked_by c (picks_done s c (picks_turns s c (said_picks words))) (next_turn (picks_end s c (said_picks words)).world (picks_end s c (said_picks words)).new)) settle)
      by_late true = limit s c.world c.moment line lines
      by_late false = by_next (next_turn (picks_end s c (said_picks words)).world (picks_end s c (said_picks words)).new) refl

  refused : (fault : LineFault) → Plays s c.world c.moment (line ∷ lines) (record { text = refusal_line n fault; ends = Some statuses.Refused })
  refused fault = stops s c.world c.moment (line ∷ lines) (refusal_line n fault) statuses.Refused (λ done. absurd (cc)) (refusal-has n fault)

  pub turned : (said : Result LinkEvent LineFault) → ((e : LinkEvent) → said ≡ Ok e → later_said line ≡ Ok e)
      → Plays s c.world c.moment (line ∷ lines) (after_turn (link_line n s c said) settle)
  turned (Ok (events.Link segment timeout most cap start)) is = refused faults.Word
  turned (Ok (events.Window from to)) is = refused faults.Word
  turned (Ok (events.Send first body)) is = sent_turn first body (is (events.Send first body) refl)
  turned (Ok (events.Deliver k)) is = delivered_turn k (is (events.Deliver k) refl)
  turned (Ok (events.Clock now)) is = passed_turn now (is (events.Clock now) refl)
  turned (Ok events.Drain) is = drained_turn (is events.Drain refl)
  turned (Ok (events.DrainBy words)) is = picked_turn words (is (events.DrainBy words) refl)
  turned (Err fault) is = refused fault

  pub line_turned : Plays s c.world c.moment (line ∷ lines) (after_turn (turn_at link_rules n (on_link s c) line) settle)
  unfolding turn_at
  line_turned = by_past (nat_lt link_rules.lines n || nat_lt link_rules.octets (length line))
    where
      by_past : (t : Bool) → Plays s c.world c.moment (line ∷ lines) (after_turn (if t then ends_run [] statuses.Limit
          else link_line n s c (without_picks s.windows line (running_said line))) settle)
      by_past true = limit s c.world c.moment line lines
      by_past false = turned (without_picks s.windows line (running_said line)) (λ e is. running-later line e (said-later s.windows line (running_said line) e is))
