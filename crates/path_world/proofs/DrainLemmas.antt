-- Clean events, one after the other, lead a path world on.

use Rattle.std.proofs.Common.{◌≡◌, ℕ, suc, ◌+◌, ◌<◌, ◌≤◌, ◌^◌, true, false, List, [], ◌∷◌, ◌++◌, length}
use Rattle.std.proofs.Common.{Option, None, Some, Ok, Err, inl, inr, refl, sym, ◌∙◌, ap, arith, subst, nat_lt}
use Rattle.std.proofs.lemmas.Bool.Decides.{nat_tests}
use Rattle.std.proofs.lemmas.List.{append-nil, append_assoc, length-map}
use Rattle.std.specs.Option.{option_map}
use Rattle.ltp_laws.proofs.ListLemmas.{all-append}
use Rattle.ltp_engine.specs.Shows.{Shows}
use Rattle.ltp_engine.specs.Steps.{deadline_of}
use Rattle.ltp_engine.specs.Values.{EngineValue}
use Rattle.ltp_session.specs.Engine.{Engine, earlier, next_deadline}
use Rattle.ltp_world.specs.declared.refused.DrainRefused.TheVariants as causes
use Rattle.path_laws.specs.declared.effects.NoteAt.{NoteAt}
use Rattle.path_laws.specs.declared.effects.PathEffects.{PathEffects}
use Rattle.path_laws.specs.declared.effects.UpAt.{UpAt}
use Rattle.path_laws.specs.Laws.{ReceivedAsSent}
use Rattle.path_laws.specs.Log.{ups_in}
use Rattle.path_laws.specs.Path.{Path, PathEvent, PathSetup, clock_shows, delivers, path_run, path_step, starts_path}
use Rattle.path_laws.specs.Places.{across}
use Rattle.path_drain.specs.Clean.{AreCleanOnPath, path_clean_event, path_passed, path_passed_after}
use Rattle.path_drain.specs.Clean.{path_deadline as due_on}
use Rattle.path_drain.specs.Completion.{IsPathReady}
use Rattle.path_drain.specs.Completion.{Completes as CompletesPath}
use Rattle.path_drain.specs.Effects.{IsNotedSent, IsUpAt, IsUpWhole, notes_in}
use Rattle.path_drain.proofs.LawLemmas.{runs-complete}
use Rattle.path_drain.proofs.WholeLemmas.{ups-append}
use Rattle.path_drain.proofs.RunLemmas.{run-append}
use Rattle.path_world.specs.declared.drained.PathDrained.{PathDrained}
use Rattle.path_world.specs.Clean.{LeadsIn, LeadsOn}
use Rattle.path_world.specs.Drain.{Completed, Completes, DrainsAll, DrainsAsSent, DrainsUntilLate, Drains, HandsUpAsSentIn, IsEarly, IsLate, done_in, notes_told, ups_told}
use Rattle.path_world.specs.Shows.{ShowsPath, ShowsRun, path_after}
use Rattle.path_world.specs.Steps.{Happens}
use Rattle.path_world.specs.Values.{PathValue, effects_told, path_deadline, setup_of, spelled}

-- ---- events after events

clean-append : (s : PathSetup) (w : Path) (c : ℕ) (xs ys : List PathEvent) → AreCleanOnPath s w c xs
    → AreCleanOnPath s (path_run s w xs) (path_passed c xs) ys → AreCleanOnPath s w c (xs ++ ys)
unfolding path_run
clean-append s w c [] ys first second = second
clean-append s w c (x ∷ xs) ys first second = (
  first.0,
  clean-append s (path_step s w x).path (path_passed_after c x) xs ys first.1 second,
)

passed-append : (c : ℕ) (xs ys : List PathEvent)
    → path_passed c (xs ++ ys) ≡ path_passed (path_passed c xs) ys
passed-append c [] ys = refl
passed-append c (x ∷ xs) ys = passed-append (path_passed_after c x) xs ys

done-append : (s : PathSetup) (w : Path) (xs ys : List PathEvent)
    → done_in s w (xs ++ ys) ≡ done_in s w xs ++ done_in s (path_run s w xs) ys
unfolding done_in path_run
done-append s w [] ys = refl
done-append s w (x ∷ xs) ys =
    ap (λ (rest : List PathEffects). effects_told (length w.sent) (path_step s w x).effects ∷ rest)
    (done-append s (path_step s w x).path xs ys)

length-done : (s : PathSetup) (w : Path) (xs : List PathEvent)
    → length (done_in s w xs) ≡ length xs
unfolding done_in
length-done s w [] = refl
length-done s w (x ∷ xs) = ap suc (length-done s (path_step s w x).path xs)

-- what is told of events is what they hand up and note
ups-done : (s : PathSetup) (w : Path) (xs : List PathEvent)
    → ups_told (done_in s w xs) ≡ ups_in s w xs
unfolding done_in ups_in
ups-done s w [] = refl
ups-done s w (x ∷ xs) =
    ap (λ (rest : List UpAt). (path_step s w x).effects.ups ++ rest)
    (ups-done s (path_step s w x).path xs)

notes-done : (s : PathSetup) (w : Path) (xs : List PathEvent)
    → notes_told (done_in s w xs) ≡ notes_in s w xs
unfolding done_in notes_in
notes-done s w [] = refl
notes-done s w (x ∷ xs) =
    ap (λ (rest : List NoteAt). (path_step s w x).effects.notes ++ rest)
    (notes-done s (path_step s w x).path xs)

-- where a world stands after more events
pub path-on : (old new : PathValue) (start : ℕ) (events made : List PathEvent)
    → setup_of new ≡ setup_of old
    → path_after new start (events ++ made)
    ≡ path_run (setup_of old) (path_after old start events) made
path-on old new start events made same =
    ap (λ (s : PathSetup). path_run s (starts_path s start) (events ++ made)) same
    ∙ run-append (setup_of old) (starts_path (setup_of old) start) events made

-- ---- a path and its world

pub length-sent : (v : PathValue) (w : Path) → ShowsPath v w → length v.sent ≡ length w.sent
length-sent v w shows = ap length shows.sent ∙ length-map w.sent spelled

engine-deadline : (v : EngineValue) (e : Engine) → Shows v e → next_deadline e ≡ deadline_of v
engine-deadline v e shows = rw (shows.senders, shows.inbound.receivers) refl

earlier-assoc : (a b c : Option ℕ) → earlier (earlier a b) c ≡ earlier a (earlier b c)
earlier-assoc None b c = refl
earlier-assoc (Some a) None c = refl
earlier-assoc (Some a) (Some b) None = refl
earlier-assoc (Some a) (Some b) (Some c) = ap Some (omega arith)

earlier-four : (a b c d : Option ℕ)
    → earlier (earlier a b) (earlier c d) ≡ earlier (earlier a (earlier b c)) d
earlier-four a b c d =
    sym (earlier-assoc (earlier a b) c d) ∙ ap (λ x. earlier x d) (earlier-assoc a b c)

pub shown-deadline : (v : PathValue) (w : Path) → ShowsPath v w → due_on w ≡ path_deadline v
shown-deadline v w shows =
    rw (
      engine-deadline v.nodes.0 w.nodes.0 shows.old_node,
      engine-deadline v.gate.engines.0 w.gate.engines.0 shows.gate.old_face,
      engine-deadline v.gate.engines.1 w.gate.engines.1 shows.gate.new_face,
      engine-deadline v.nodes.1 w.nodes.1 shows.new_node,
    )
    (earlier-four (deadline_of v.nodes.0) (deadline_of v.gate.engines.0)
    (deadline_of v.gate.engines.1) (deadline_of v.nodes.1))

less : (a b : ℕ) → a < b → nat_lt a b ≡ true
less a b is = grind (arith, nat_tests)

not-less : (a b : ℕ) → b ≤ a → nat_lt a b ≡ false
not-less a b is = grind (arith, nat_tests)

-- ---- going on

pub advance-none : (v : PathValue) (c : ℕ) (told : List PathEffects) → v.spent ≡ false
    → LeadsOn v v c c told told
unfolding done_in
advance-none v c told whole = record {
  whole = whole;
  setup = refl;
  run = λ start events shows. record {
    made = [];
    clean = tt;
    reaches = refl;
    early = tt;
    told = sym (append-nil told);
    shows = subst (ShowsRun v start) (sym (append-nil events)) shows;
  };
}

pub advance-more : (u v w : PathValue) (c d e : ℕ) (xs ys zs : List PathEffects)
    → LeadsOn u v c d xs ys → LeadsOn v w d e ys zs → LeadsOn u w c e xs zs
advance-more u v w c d e xs ys zs first second = record {
  whole = second.whole;
  setup = second.setup ∙ first.setup;
  run = λ start events shows. joined start events (first.run start events shows);
} where
  joined : (start : ℕ) (events : List PathEvent)
      → LeadsIn (setup_of u) (path_after u start events) v c d xs ys start events
      → LeadsIn (setup_of u) (path_after u start events) w c e xs zs start events
  joined start events one =
      let other = second.run start (events ++ one.made) one.shows in
      on one (subst (λ (s : PathSetup). LeadsIn s (path_after v start (events ++ one.made)) w d e ys
      zs start (events ++ one.made)) first.setup other)
    where
      on : (one : LeadsIn (setup_of u) (path_after u start events) v c d xs ys start events)
          → LeadsIn (setup_of u) (path_after v start (events ++ one.made)) w d e ys zs start
          (events ++ one.made)
          → LeadsIn (setup_of u) (path_after u start events) w c e xs zs start events
      on one two =
          let at = path-on u v start events one.made first.setup in
          record {
            made = one.made ++ two.made;
            clean = clean-append (setup_of u) (path_after u start events) c one.made two.made
                one.clean
                (subst (λ n. AreCleanOnPath (setup_of u)
                (path_run (setup_of u) (path_after u start events) one.made) n two.made)
                (sym one.reaches)
                (subst (λ (l : Path). AreCleanOnPath (setup_of u) l d two.made) at two.clean));
            reaches = passed-append c one.made two.made
                ∙ (ap (λ n. path_passed n two.made) one.reaches ∙ two.reaches);
            early = all-append IsEarly one.made two.made one.early two.early;
            told = two.told ∙ (ap (λ b. b ++ done_in (setup_of u)
                (path_after v start (events ++ one.made)) two.made) one.told
                ∙ (append_assoc xs (done_in (setup_of u) (path_after u start events) one.made)
                (done_in (setup_of u) (path_after v start (events ++ one.made)) two.made)
                ∙ ap (λ rest. xs ++ rest)
                (ap (λ (l : Path). done_in (setup_of u) (path_after u start events) one.made
                ++ done_in (setup_of u) l two.made) at
                ∙ sym (done-append (setup_of u) (path_after u start events) one.made two.made))));
            shows = subst (ShowsRun w start) (append_assoc events one.made two.made) two.shows;
          }

-- one clean event
advance-event : (old new : PathValue) (c : ℕ) (event : PathEvent) (effects : PathEffects)
    (steps : List PathEffects) → Happens old new event effects
    → ((start : ℕ) (events : List PathEvent) → ShowsRun old start events
    → path_clean_event (path_after old start events) c ≡ Some event)
    → IsEarly event
    → LeadsOn old new c (path_passed_after c event) steps (steps ++ effects ∷ [])
unfolding done_in
advance-event old new c event effects steps happens clean early = record {
  whole = happens.whole;
  setup = happens.setup;
  run = λ start events shows. record {
    made = event ∷ [];
    clean = (clean start events shows, tt);
    reaches = refl;
    early = (early, tt);
    told = ap (λ (e : PathEffects). steps ++ e ∷ [])
        (happens.told start events shows
        ∙ ap (λ n. effects_told n
        (path_step (setup_of old) (path_after old start events) event).effects)
        (length-sent old (path_after old start events) shows.path));
    shows = happens.run start events shows;
  };
}

pub clean-delivery : (v : PathValue) (k : ℕ) → k < length v.sent → (start : ℕ) (events : List PathEvent)
    → ShowsRun v start events
    → path_clean_event (path_after v start events) k ≡ Some (delivers k)
clean-delivery v k there start events shows =
    rw (less k (length (path_after v start events).sent)
    (let same = length-sent v (path_after v start events) shows.path in
    omega (arith, there, same))) refl

pub advance-deliver : (old new : PathValue) (k : ℕ) (effects : PathEffects)
    (steps : List PathEffects) → k < length old.sent → Happens old new (delivers k) effects
    → LeadsOn old new k (k + 1) steps (steps ++ effects ∷ [])
advance-deliver old new k effects steps there happens =
    advance-event old new k (delivers k) effects steps happens (clean-delivery old k there) tt

pub advance-tick : (old new : PathValue) (deadline : ℕ) (effects : PathEffects)
    (steps : List PathEffects) → Happens old new (clock_shows deadline) effects
    → deadline < 2 ^ 62 → path_deadline old ≡ Some deadline
    → LeadsOn old new (length old.sent) (length old.sent) steps (steps ++ effects ∷ [])
advance-tick old new deadline effects steps happens below due =
    advance-event old new (length old.sent) (clock_shows deadline) effects steps happens
    (λ start events shows.
    rw (not-less (length old.sent) (length (path_after old start events).sent)
    (let same = length-sent old (path_after old start events) shows.path in omega (arith, same)))
    (ap (option_map clock_shows) (shown-deadline old (path_after old start events) shows.path ∙ due)))
    below

-- ---- the end of a drain

pub drain-done : (old new : PathValue) (drained : PathDrained)
    → LeadsOn old new (length old.sent) (length new.sent) [] drained.effects
    → drained.events ≡ length drained.effects → path_deadline new ≡ None
    → Drains old new (Ok drained)
drain-done old new drained advances count none = record {
  whole = advances.whole;
  setup = advances.setup;
  run = λ start events shows. by_run start events shows (advances.run start events shows);
} where
  by_run : (start : ℕ) (events : List PathEvent) → ShowsRun old start events
      → LeadsIn (setup_of old) (path_after old start events) new (length old.sent)
      (length new.sent) [] drained.effects start events
      → DrainsAll drained old new start events
  by_run start events shows on =
      let w : Path = path_after old start events in
      let same = length-sent old (path_after old start events) shows.path in
      let at = path-on old new start events on.made advances.setup in
      let after : Path = path_after new start (events ++ on.made) in
      record {
        end = path_run (setup_of old) (path_after old start events) on.made;
        clean = record {
          events = on.made;
          count = sym (count ∙ (ap length on.told
              ∙ length-done (setup_of old) (path_after old start events) on.made));
          clean = subst (λ n. AreCleanOnPath (setup_of old) (path_after old start events) n on.made)
              same on.clean;
          leads = refl;
          drained = record {
            delivered = ap (λ n. path_passed n on.made) (sym same) ∙ (on.reaches
                ∙ (length-sent new (path_after new start (events ++ on.made)) on.shows.path
                ∙ ap (λ (l : Path). length l.sent) at));
            no_timer = ap due_on (sym at)
                ∙ (shown-deadline new (path_after new start (events ++ on.made)) on.shows.path
                ∙ none);
          };
        };
        early = on.early;
        told = on.told;
        shows = on.shows;
      }

pub drain-late : (old new : PathValue) (deadline : ℕ) (told : List PathEffects)
    → LeadsOn old new (length old.sent) (length new.sent) [] told
    → path_deadline new ≡ Some deadline → 2 ^ 62 ≤ deadline → Drains old new (Err causes.TooLate)
drain-late old new deadline told advances due late = record {
  whole = advances.whole;
  setup = advances.setup;
  run = λ start events shows. by_run start events shows (advances.run start events shows);
} where
  is-late : (w : Path) (n : ℕ) → n ≡ length w.sent → due_on w ≡ Some deadline
      → IsLate (path_clean_event w n)
  is-late w n all next =
      let is : path_clean_event w n ≡ Some (clock_shows deadline) =
      rw (not-less n (length w.sent) (omega (arith, all))) (ap (option_map clock_shows) next) in
      subst IsLate (sym is) late

  by_run : (start : ℕ) (events : List PathEvent) → ShowsRun old start events
      → LeadsIn (setup_of old) (path_after old start events) new (length old.sent)
      (length new.sent) [] told start events
      → DrainsUntilLate old new start events
  by_run start events shows on =
      let same = length-sent old (path_after old start events) shows.path in
      let at = path-on old new start events on.made advances.setup in
      let all : path_passed (length (path_after old start events).sent) on.made
      ≡ length (path_run (setup_of old) (path_after old start events) on.made).sent =
      ap (λ n. path_passed n on.made) (sym same) ∙ (on.reaches
      ∙ (length-sent new (path_after new start (events ++ on.made)) on.shows.path
      ∙ ap (λ (l : Path). length l.sent) at)) in
      let next : due_on (path_run (setup_of old) (path_after old start events) on.made)
      ≡ Some deadline =
      ap due_on (sym at)
      ∙ (shown-deadline new (path_after new start (events ++ on.made)) on.shows.path ∙ due) in
      record {
        made = on.made;
        clean = subst (λ n. AreCleanOnPath (setup_of old) (path_after old start events) n on.made)
            same on.clean;
        early = on.early;
        late = is-late (path_run (setup_of old) (path_after old start events) on.made)
            (path_passed (length (path_after old start events).sent) on.made) all next;
        shows = on.shows;
      }

-- ---- what is handed up was sent

pub drain-sent : ReceivedAsSent → (old new : PathValue) (drained : PathDrained)
    → Drains old new (Ok drained) → DrainsAsSent old drained
drain-sent law old new drained drains start events shows = by_run (drains.run start events shows)
  where
    by_run : DrainsAll drained old new start events → HandsUpAsSentIn old drained start events
    by_run all = record {
      end = all.end;
      clean = all.clean;
      more =
          ups-append (setup_of old) (starts_path (setup_of old) start) events (all.clean).events
          ∙ ap (λ (us : List UpAt). ups_in (setup_of old) (starts_path (setup_of old) start) events
          ++ us)
          (sym (ap ups_told all.told
          ∙ ups-done (setup_of old) (path_after old start events) (all.clean).events));
      hands_on = law (setup_of old) start (events ++ (all.clean).events) shows.setup.linked;
    }

-- ---- sessions are completed

-- a drain of a hopeful path with room completes its sessions
pub drain-completes : (old new : PathValue) (drained : PathDrained)
    → Drains old new (Ok drained) → Completes old drained
drain-completes old new drained drains start events shows hopeful room =
    by_run (drains.run start events shows)
  where
    ready : IsPathReady (setup_of old) (path_after old start events)
    ready = record {
      linked = shows.setup.linked;
      alike = shows.setup.alike;
      reached = record { start = start; events = events; leads = refl };
      hopeful = hopeful;
      room = room;
    }

    by_run : DrainsAll drained old new start events
        → Completed (setup_of old) (path_after old start events) drained
    by_run all = with_law (runs-complete (setup_of old) (path_after old start events)
        drained.events all.end ready all.clean)
      where
        notes : notes_in (setup_of old) (path_after old start events) (all.clean).events
            ≡ notes_told drained.effects
        notes = sym (ap notes_told all.told
            ∙ notes-done (setup_of old) (path_after old start events) (all.clean).events)

        ups : ups_in (setup_of old) (path_after old start events) (all.clean).events
            ≡ ups_told drained.effects
        ups = sym (ap ups_told all.told
            ∙ ups-done (setup_of old) (path_after old start events) (all.clean).events)

        with_law : CompletesPath (setup_of old) (path_after old start events) drained.events
            all.end (all.clean).events
            → Completed (setup_of old) (path_after old start events) drained
        with_law law = record {
          end = all.end;
          clean = all.clean;
          bound = law.bound;
          complete = law.complete;
          notes = sym notes;
          ups = sym ups;
          sent = λ place n is_open. subst (λ (all : List NoteAt). IsNotedSent all place n) notes
              ((law.complete).sent place n is_open);
          handed = λ place n is_open. elim ((law.complete).handed place n is_open) [
            | inl before ↦ inl before
            | inr since ↦ inr (subst (λ (all : List UpAt). IsUpAt all (across place) n) ups since)
          ];
          begun_sent = λ b among.
              subst (λ (all : List NoteAt). IsNotedSent all b.place b.session) notes
              ((law.complete).begun_sent b among);
          begun_handed = λ b among. subst (λ (all : List UpAt). IsUpWhole all b) ups
              ((law.complete).begun_handed b among);
        }
