-- An event that the code makes is that of the definition.
use Rattle.std.proofs.Common.{◌≡◌, ℕ, ◌+◌, ◌^◌, ◌<◌, ◌≤◌, Bool, true, false, nat_lt, nat_le, List, [], ◌∷◌, ◌++◌, length, map, Option, None, Some, Result, Ok, Err, inl, inr, IfOk, refl, sym, ap, ◌∙◌, arith, if◌then◌else◌}
use Rattle.std.proofs.lemmas.Bool.Decides.{nat_tests}
use Rattle.std.proofs.Math.Path.{subst}
use Rattle.std.proofs.lemmas.List.{append-nil, length-map}
use Rattle.std.proofs.lemmas.Option.{slice_get_cases, slice_get_past}
use Rattle.std.proofs.lemmas.List.Concat.{flat_map-cons}
use Rattle.std.specs.List.{flat_map}
use Rattle.std.specs.Prelude.{slice_get}
use Rattle.edge_traits.specs.declared.status.Status.{Status}
use Rattle.edge_traits.specs.declared.status.Status.TheVariants as statuses
use Rattle.command_frame.specs.Lines.{passes, ends_run, TurnsAs}
use Rattle.ltp_session.specs.Engine.{EngineStep, SubmitFault}
use Rattle.ltp_engine.specs.declared.refused.SubmitRefused.{SubmitRefused}
use Rattle.ltp_engine.specs.declared.refused.SubmitRefused.TheVariants as causes
use Rattle.ltp_engine.specs.Refused.{refusal_of}
use Rattle.ltp_engine.specs.Steps.{IsFault, IsNoFault}
use Rattle.node_run.specs.Wanted.{HasText}
use Rattle.path_laws.specs.declared.effects.PathEffects.{PathEffects}
use Rattle.path_laws.specs.declared.places.PathEnd.{PathEnd}
use Rattle.path_laws.specs.Places.{node_place}
use Rattle.path_laws.specs.Path.{PathSetup, Path, PathEffectsValue, SentFrom, PathEvent, sends, delivers, clock_shows, sends_block, path_step, path_run, starts_path}
use Rattle.ltp_segment.specs.declared.session.TheConstants.{BLOCK_MAX}
use Rattle.path_drain.specs.Left.{IsTimed}
use Rattle.path_world.specs.Values.{PathValue, setup_of, octets_in, spelled, sent_at, numbered, effects_told, nothing_told}
use Rattle.path_world.specs.Shows.{ShowsRun, path_after}
use Rattle.path_world.specs.Steps.{Happens, Stays, Sends, OfSend}
use Rattle.world_run.specs.WrittenLines.{sent_line, sent_lines, effects_text, send_refusal, deliver_refusal}
use Rattle.replay_script.specs.declared.fault.LineFault.{LineFault}
use Rattle.world_run.specs.declared.script.SetUp.{SetUp}
use Rattle.world_run.specs.World.{WorldState, on_path, PathStart, start_turn, no_moment, octets_sent, most_sent, is_late, unless_sent, unless_there, refused_text, event_text, if_kept, happens as happens_on}
use Rattle.world_run.specs.Shows.{StandsOn, StandsFor, start_of, sent_at_line, told_text}

-- ---- effects

numbered-lines : (k : ℕ) (sent : List SentFrom) → flat_map sent_at_line (numbered k (map spelled sent)) ≡ sent_lines k sent
unfolding numbered sent_lines
numbered-lines k [] = refl
numbered-lines k (d ∷ sent) =
    flat_map-cons sent_at_line (sent_at k (spelled d)) (numbered (k + 1) (map spelled sent))
    ∙ ap (λ t. sent_line k d ++ t) (numbered-lines (k + 1) sent)

pub told-text : (k : ℕ) (e : PathEffectsValue) → told_text (effects_told k e) ≡ effects_text k e
unfolding told_text effects_text
told-text k e = rw (numbered-lines k e.sent) refl

pub spelled-octets : (sent : List SentFrom) → octets_in (map spelled sent) ≡ octets_sent sent
unfolding octets_in octets_sent
spelled-octets [] = refl
spelled-octets (d ∷ sent) = rw (spelled-octets sent) refl

pub nothing-told : told_text nothing_told ≡ []
unfolding told_text
nothing-told = refl

-- ---- runs

pub run-append : (s : PathSetup) (w : Path) (xs ys : List PathEvent)
    → path_run s w (xs ++ ys) ≡ path_run s (path_run s w xs) ys
unfolding path_run
run-append s w [] ys = refl
run-append s w (x ∷ xs) ys = run-append s (path_step s w x).path xs ys

run-more : (s : PathSetup) (w : Path) (events : List PathEvent) (event : PathEvent)
    → path_run s w (events ++ event ∷ []) ≡ (path_step s (path_run s w events) event).path
unfolding path_run
run-more s w events event = run-append s w events (event ∷ [])

-- ---- an event

pub same-length : (v : PathValue) (s : PathSetup) (w : Path) → StandsOn v s w → length v.sent ≡ length w.sent
same-length v s w stands = rw stands.path (ap length stands.run.path.sent ∙ length-map (path_after v stands.start stands.events).sent spelled)

pub octets-are : (v : PathValue) (s : PathSetup) (w : Path) → StandsOn v s w → octets_in v.sent ≡ octets_sent w.sent
octets-are v s w stands =
    rw stands.path (ap octets_in stands.run.path.sent ∙ spelled-octets (path_after v stands.start stands.events).sent)

module _ (old new : PathValue) (event : PathEvent) (effects : PathEffects) (s : PathSetup) (w : Path)
    (stands : StandsOn old s w) (does : Happens old new event effects) where
  pub text : told_text effects ≡ effects_text (length w.sent) (path_step s w event).effects
  text =
      ap told_text (does.told stands.start stands.events stands.run)
      ∙ (told-text (length old.sent) (path_step (setup_of old) (path_after old stands.start stands.events) event).effects
      ∙ (ap (λ k. effects_text k (path_step (setup_of old) (path_after old stands.start stands.events) event).effects) (same-length old s w stands)
      ∙ ap (λ x. effects_text (length w.sent) (path_step x (path_after old stands.start stands.events) event).effects) (sym stands.setup)
      ∙ ap (λ x. effects_text (length w.sent) (path_step s x event).effects) (sym stands.path)))

  after : (path_step s w event).path ≡ path_after new stands.start (stands.events ++ event ∷ [])
  after =
      ap (λ (x : PathSetup). (path_step x w event).path) stands.setup
      ∙ (ap (λ (x : Path). (path_step (setup_of old) x event).path) stands.path
      ∙ (sym (run-more (setup_of old) (starts_path (setup_of old) stands.start) stands.events event)
      ∙ ap (λ (x : PathSetup). path_run x (starts_path x stands.start) (stands.events ++ event ∷ [])) (sym does.setup)))

  pub octets : octets_in new.sent ≡ octets_sent (path_step s w event).path.sent
  octets =
      ap octets_in (does.run stands.start stands.events stands.run).path.sent
      ∙ (spelled-octets (path_after new stands.start (stands.events ++ event ∷ [])).sent
      ∙ ap (λ (x : Path). octets_sent x.sent) (sym after))

  pub stands_after : octets_sent (path_step s w event).path.sent ≤ most_sent → StandsOn new s (path_step s w event).path
  stands_after few = record {
    whole = does.whole;
    setup = stands.setup ∙ sym does.setup;
    timed = stands.timed;
    start = stands.start;
    events = stands.events ++ event ∷ [];
    run = does.run stands.start stands.events stands.run;
    path = after;
    few = few;
  }

  -- what it did is written
  pub has_text : is_late event ≡ false → refused_text s w event ≡ [] → octets_in new.sent ≤ most_sent → 0 < length (told_text effects)
      → HasText (happens_on s w event)
  unfolding event_text
  has_text on_time none low some =
      let few : octets_sent (path_step s w event).path.sent ≤ most_sent = rw octets at low in
      let test : nat_lt most_sent (octets_sent (path_step s w event).path.sent) ≡ false = grind (arith, nat_tests, few) in
      rw (on_time, test, none, ← text) some

  module _ (on_time : is_late event ≡ false) (before now : List ℕ) where
    written : refused_text s w event ≡ [] → now ≡ before ++ told_text effects → now ≡ before ++ event_text s w event
    unfolding event_text
    written none is = rw (none, ← text) is

    -- the event was done, and what it did was written unless it passed the limit
    pub done_turn : (E : Type 0) (result : Result (Option Status) E) → refused_text s w event ≡ []
        → ((state : WorldState) → IfOk result (TurnsAs (λ x. x ≡ state)
        (if nat_lt most_sent (octets_in new.sent) then ends_run [] statuses.Limit else passes (told_text effects) state) before now))
        → IfOk result (TurnsAs (StandsFor (Some new)) (happens_on s w event) before now)
    done_turn E (Err e) none told = tt
    done_turn E (Ok ends) none told =
        rw on_time (by_test (nat_lt most_sent (octets_in new.sent)) refl (told (on_path s (path_step s w event).path)))
      where
        passed : (due : Option Status) → nat_lt most_sent (octets_in new.sent) ≡ false
            → TurnsAs (λ x. x ≡ on_path s (path_step s w event).path) (passes (told_text effects) (on_path s (path_step s w event).path)) before now due
            → TurnsAs (StandsFor (Some new)) (passes (event_text s w event) (on_path s (path_step s w event).path)) before now due
        passed None low turns =
            let few : nat_lt most_sent (octets_sent (path_step s w event).path.sent) ≡ false = rw octets at low in
            (written none turns.0, stands_after (grind (arith, nat_tests, few)))
        passed (Some status) low turns = absurd turns

        stopped : (due : Option Status) → TurnsAs (λ x. x ≡ on_path s (path_step s w event).path) (ends_run [] statuses.Limit) before now due
            → TurnsAs (StandsFor (Some new)) (ends_run [] statuses.Limit) before now due
        stopped None turns = turns
        stopped (Some status) turns = turns

        by_test : (t : Bool) → nat_lt most_sent (octets_in new.sent) ≡ t
            → TurnsAs (λ x. x ≡ on_path s (path_step s w event).path)
            (if t then ends_run [] statuses.Limit else passes (told_text effects) (on_path s (path_step s w event).path)) before now ends
            → TurnsAs (StandsFor (Some new))
            (if_kept (event_text s w event) (path_step s w event).path (on_path s (path_step s w event).path)) before now ends
        by_test true is turns = rw (← octets, is) (stopped ends turns)
        by_test false is turns = rw (← octets, is) (passed ends is turns)

  -- the event was not done, and that was written
  module _ (is : effects ≡ nothing_told) (same : new ≡ old) (on_time : is_late event ≡ false) (refusal before now : List ℕ) where
    pub refused_turn : refused_text s w event ≡ refusal → now ≡ before ++ refusal
        → TurnsAs (StandsFor (Some new)) (happens_on s w event) before now None
    unfolding event_text
    refused_turn due wrote =
        let nothing : effects_text (length w.sent) (path_step s w event).effects ≡ [] = sym text ∙ (ap told_text is ∙ nothing-told) in
        let kept : octets_sent (path_step s w event).path.sent ≡ octets_sent w.sent =
        sym octets ∙ (ap (λ (v : PathValue). octets_in v.sent) same ∙ octets-are old s w stands) in
        let few : octets_sent (path_step s w event).path.sent ≤ most_sent = rw kept stands.few in
        let test : nat_lt most_sent (octets_sent (path_step s w event).path.sent) ≡ false = grind (arith, nat_tests, few) in
        rw (on_time, test) (rw (due, nothing, append-nil refusal) wrote, stands_after few)

-- ---- a bundle is sent

unless-sent : (end : PathEnd) (done : Result EngineStep SubmitFault) → IsNoFault done → unless_sent end done ≡ []
unless-sent end (Ok step) none = refl
unless-sent end (Err fault) none = absurd none

-- it is sent, or it is refused for a fault
module _ (old new : PathValue) (end : PathEnd) (bundle : List ℕ) (s : PathSetup) (w : Path) (stands : StandsOn old s w) where
  pub of_send : (P : Result EngineStep SubmitFault → Type 0) → OfSend P old end bundle → P (sends_block s w end bundle)
  of_send P holds =
      let same : sends_block (setup_of old) (path_after old stands.start stands.events) end bundle ≡ sends_block s w end bundle =
      ap (λ x. sends_block x (path_after old stands.start stands.events) end bundle) (sym stands.setup)
      ∙ ap (λ x. sends_block s x end bundle) (sym stands.path) in
      subst P same (holds stands.start stands.events stands.run)

  pub sent_whole : OfSend IsNoFault old end bundle → refused_text s w (sends end bundle) ≡ []
  sent_whole none = unless-sent end (sends_block s w end bundle) (of_send IsNoFault none)

-- a refusal other than want of memory
pub refused-so : (old new : PathValue) (end : PathEnd) (bundle : List ℕ) (cause : SubmitRefused) → (cause ≡ causes.Memory → ⊥)
    → Sends old new end bundle (Err cause) → Stays old new (sends end bundle) × OfSend (IsFault cause) old end bundle
refused-so old new end bundle causes.Empty other refused = refused
refused-so old new end bundle causes.TooLarge other refused = refused
refused-so old new end bundle causes.NumbersSpent other refused = refused
refused-so old new end bundle causes.Busy other refused = refused
refused-so old new end bundle causes.Memory other refused = absurd (other refl)

module _ (old new : PathValue) (end : PathEnd) (bundle : List ℕ) (s : PathSetup) (w : Path) (stands : StandsOn old s w)
    (cause : SubmitRefused) (stays : Stays old new (sends end bundle)) (before now : List ℕ) where
  unsent : (done : Result EngineStep SubmitFault) → sends_block s w end bundle ≡ done → IsFault cause done
      → ((fault : SubmitFault) → cause ≡ refusal_of fault → now ≡ before ++ send_refusal (node_place end) fault)
      → TurnsAs (StandsFor (Some new)) (happens_on s w (sends end bundle)) before now None
  unsent (Ok step) is fault wrote = absurd fault
  unsent (Err fault) is which wrote =
      refused_turn old new (sends end bundle) nothing_told s w stands stays.happens refl stays.same refl (send_refusal (node_place end) fault) before now
      (ap (unless_sent end) is) (wrote fault which)

  pub unsent_turn : OfSend (IsFault cause) old end bundle
      → ((fault : SubmitFault) → cause ≡ refusal_of fault → now ≡ before ++ send_refusal (node_place end) fault)
      → TurnsAs (StandsFor (Some new)) (happens_on s w (sends end bundle)) before now None
  unsent_turn fault wrote =
      unsent (sends_block s w end bundle) refl (of_send old new end bundle s w stands (IsFault cause) fault) wrote

-- ---- a datagram is delivered

-- a place of a list has something
pub there : {X : Type 0} (xs : List X) (k : ℕ) → k < length xs → (x : X) × (slice_get xs k ≡ Some x)
there xs k inside = elim (slice_get_cases xs k).1 [
  | inl found ↦ (found.0, found.2)
  | inr past ↦ absurd (omega (arith, inside, past.0))
]

module _ (old new : PathValue) (k : ℕ) (s : PathSetup) (w : Path) (stands : StandsOn old s w) where
  pub delivered_whole : k < length old.sent → refused_text s w (delivers k) ≡ []
  delivered_whole inside =
      let (d, is) = there w.sent k (rw (same-length old s w stands) at inside) in
      ap unless_there is

  pub undelivered_turn : length old.sent ≤ k → Stays old new (delivers k) → (before now : List ℕ) → now ≡ before ++ deliver_refusal
      → TurnsAs (StandsFor (Some new)) (happens_on s w (delivers k)) before now None
  undelivered_turn past stays before now wrote =
      refused_turn old new (delivers k) nothing_told s w stands stays.happens refl stays.same refl deliver_refusal before now
      (ap unless_there (slice_get_past w.sent k (rw (same-length old s w stands) at past))) wrote

-- ---- the clock

pub on_time : (now : ℕ) → now < 2 ^ 62 → is_late (clock_shows now) ≡ false
on_time now early = grind (arith, nat_tests, early)

-- ---- the first line

module _ (v : PathValue) (set_up : SetUp) (whole : v.spent ≡ false) (setup : setup_of v ≡ (start_of set_up).setup)
    (run : ShowsRun v set_up.now []) (timed : IsTimed (start_of set_up).setup BLOCK_MAX) where
  begins_on : StandsOn v (start_of set_up).setup (starts_path (start_of set_up).setup set_up.now)
  unfolding path_run octets_sent
  begins_on = record {
    whole = whole;
    setup = sym setup;
    timed = timed;
    start = set_up.now;
    events = [];
    run = run;
    path = ap (λ s. starts_path s set_up.now) (sym setup);
    few = omega arith;
  }

  pub began_turn : (n : ℕ) (said : Result PathStart LineFault) (text : List ℕ) → said ≡ Ok (start_of set_up) → set_up.now < 2 ^ 62
      → TurnsAs (StandsFor (Some v)) (start_turn n said) text text None
  began_turn n said text is early =
      let on : nat_le no_moment set_up.now ≡ false = grind (arith, nat_tests, early) in
      rw (is, on) (sym (append-nil text), begins_on)
