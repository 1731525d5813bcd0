-- Clean events, one after the other, lead a world on.

use Rattle.std.proofs.Common.{◌≡◌, ℕ, zero, suc, ◌+◌, ◌<◌, ◌≤◌, ◌^◌, true, false, List, [], ◌∷◌, ◌++◌, length, map, drop, Option, None, Some, Ok, Err, refl, sym, ◌∙◌, ap, arith, subst, nat_lt, IfSome, inl, inr, ◌⊎◌}
use Rattle.std.specs.List.{AllByRecursion, slice_get}
use Rattle.std.specs.Option.{option_map}
use Rattle.std.proofs.Math.Numerals.{add-one}
use Rattle.std.proofs.lemmas.Bool.Decides.{nat_tests}
use Rattle.std.proofs.lemmas.List.{append-nil, append_assoc, length-append, length-map}
use Rattle.ltp_segment.specs.Reading.{segment_of}
use Rattle.ltp_segment.specs.Spelling.{segment_octets}
use Rattle.ltp_session.specs.declared.name.SessionName.{SessionName}
use Rattle.ltp_session.specs.Engine.{Party, Reply, next_deadline, arrives, tick_out}
use Rattle.ltp_session.specs.Views.{headed_all}
use Rattle.ltp_session.specs.World.{End, first_end, second_end, other, at_end, Event, World, sent_by, deliver, clock, replies, delivered, ticks, happens, run, starts_world}
use Rattle.ltp_session.specs.World.{Sent as LinkSent}
use Rattle.ltp_laws.proofs.ListLemmas.{all-append}
use Rattle.ltp_drain.specs.Effects.{effects_at, effects_in, deliver_effects, IsNoted, IsHandedUp}
use Rattle.ltp_drain.specs.Effects.{EndEffects as LinkEffects}
use Rattle.ltp_drain.specs.Hopeful.{cost}
use Rattle.ltp_drain.specs.Left.{link_left, sent_burden}
use Rattle.ltp_drain.proofs.LeftLemmas.{delivery-falls, runs-are-tame, deadline-ahead}
use Rattle.ltp_drain.specs.Completion.{IsReady, IsComplete}
use Rattle.ltp_drain.proofs.CompletionLemmas.{clean-completes, clean-few}
use Rattle.ltp_drain.specs.Clean.{link_deadline, clean_event, passed_after, AreClean, passed}
use Rattle.ltp_segment.specs.declared.session.Note.{Note}
use Rattle.ltp_segment.specs.declared.session.Note.TheVariants as notes
use Rattle.ltp_laws.specs.View.{IsIn}
use Rattle.ltp_engine.specs.Effects.{up_of}
use Rattle.ltp_engine.specs.Shows.{Shows}
use Rattle.ltp_engine.specs.Steps.{deadline_of}
use Rattle.ltp_engine.specs.Values.{EngineValue}
use Rattle.ltp_world.specs.declared.effects.Drained.{Drained}
use Rattle.ltp_world.specs.declared.effects.EndEffects.{EndEffects}
use Rattle.ltp_world.specs.declared.refused.DrainRefused.TheVariants as causes
use Rattle.ltp_world.specs.declared.refused.DrainRefused.{DrainRefused}
use Rattle.ltp_world.specs.Clean.{deadline_in, DrainsOn, LeadsIn, LeadsOn}
use Rattle.ltp_world.specs.Ends.{named}
use Rattle.ltp_world.specs.Drain.{told_of, done_in, IsTold, TellsNote, TellsUp, Completed, Completes, IsEarly, IsLate, DrainsAll, DrainsUntilLate, Drains}
use Rattle.ltp_world.specs.Shows.{spelled, ShowsLink, ShowsRun, Stands, link_after}
use Rattle.ltp_world.specs.Steps.{AreEffectsOf, Delivers, Ticks, ticks_of}
use Rattle.ltp_world.specs.Values.{WorldValue, parties_of}
use Rattle.ltp_world.specs.Work.{datagrams_burden, left_of}
use Rattle.ltp_world.proofs.WorldLemmas.{read-back}

-- ---- events after events

pub run-append : (parties : Party × Party) (w : World) (xs ys : List Event) → run parties w (xs ++ ys) ≡ run parties (run parties w xs) ys
run-append parties w [] ys = refl
run-append parties w (x ∷ xs) ys = run-append parties (happens parties w x) xs ys

pub clean-append : (parties : Party × Party) (w : World) (c : ℕ) (xs ys : List Event) → AreClean parties w c xs
    → AreClean parties (run parties w xs) (passed c xs) ys → AreClean parties w c (xs ++ ys)
clean-append parties w c [] ys first second = second
clean-append parties w c (x ∷ xs) ys first second = (first.0, clean-append parties (happens parties w x) (passed_after c x) xs ys first.1 second)

pub passed-append : (c : ℕ) (xs ys : List Event) → passed c (xs ++ ys) ≡ passed (passed c xs) ys
passed-append c [] ys = refl
passed-append c (x ∷ xs) ys = passed-append (passed_after c x) xs ys

pub done-append : (parties : Party × Party) (w : World) (xs ys : List Event) → done_in parties w (xs ++ ys) ≡ done_in parties w xs ++ done_in parties (run parties w xs) ys
unfolding done_in
done-append parties w [] ys = refl
done-append parties w (x ∷ xs) ys = ap (λ rest. map told_of (effects_at parties w x) ∷ rest) (done-append parties (happens parties w x) xs ys)

pub length-done : (parties : Party × Party) (w : World) (xs : List Event) → length (done_in parties w xs) ≡ length xs
unfolding done_in
length-done parties w [] = refl
length-done parties w (x ∷ xs) = ap suc (length-done parties (happens parties w x) xs)

-- where a world stands after more events
pub link-on : (old new : WorldValue) (events made : List Event) → parties_of new ≡ parties_of old
    → link_after new (events ++ made) ≡ run (parties_of old) (link_after old events) made
link-on old new events made same =
    ap (λ (ps : Party × Party). run ps (starts_world ps) (events ++ made)) same ∙ run-append (parties_of old) (starts_world (parties_of old)) events made

-- ---- a link and its world

pub length-sent : (v : WorldValue) (w : World) → ShowsLink v w → length v.sent ≡ length w.sent
length-sent v w shows = ap length shows.sent ∙ length-map w.sent spelled

next-deadline : (v : EngineValue) (e : _) → Shows v e → next_deadline e ≡ deadline_of v
next-deadline v e shows = rw (shows.senders, shows.inbound.receivers) refl

pub link-deadline : (v : WorldValue) (w : World) → ShowsLink v w → link_deadline w ≡ deadline_in v
link-deadline v w shows = rw (next-deadline v.engines.0 w.engines.0 shows.first, next-deadline v.engines.1 w.engines.1 shows.second) refl

-- ---- going on

pub advance-none : (v : WorldValue) (c : ℕ) (told : List (List EndEffects)) → v.spent ≡ false → LeadsOn v v c c told told
unfolding done_in
advance-none v c told whole = record {
  whole = whole;
  parties = refl;
  run = λ events shows. record {
    made = [];
    clean = tt;
    reaches = refl;
    early = tt;
    told = sym (append-nil told);
    shows = subst (ShowsRun v) (sym (append-nil events)) shows;
  };
}

pub advance-more : (u v w : WorldValue) (c d e : ℕ) (xs ys zs : List (List EndEffects)) → LeadsOn u v c d xs ys → LeadsOn v w d e ys zs → LeadsOn u w c e xs zs
advance-more u v w c d e xs ys zs first second = record {
  whole = second.whole;
  parties = second.parties ∙ first.parties;
  run = λ events shows. joined events (first.run events shows);
} where
  joined : (events : List Event) → LeadsIn (parties_of u) (link_after u events) v c d xs ys events → LeadsIn (parties_of u) (link_after u events) w c e xs zs events
  joined events one =
      let other = second.run (events ++ one.made) one.shows in
      on events one (subst (λ (p : Party × Party). LeadsIn p (link_after v (events ++ one.made)) w d e ys zs (events ++ one.made)) first.parties other)
    where
      on : (events : List Event) (one : LeadsIn (parties_of u) (link_after u events) v c d xs ys events)
          → LeadsIn (parties_of u) (link_after v (events ++ one.made)) w d e ys zs (events ++ one.made) → LeadsIn (parties_of u) (link_after u events) w c e xs zs events
      on events one two =
          let at = link-on u v events one.made first.parties in
          record {
            made = one.made ++ two.made;
            clean = clean-append (parties_of u) (link_after u events) c one.made two.made one.clean
                (subst (λ n. AreClean (parties_of u) (run (parties_of u) (link_after u events) one.made) n two.made) (sym one.reaches)
                (subst (λ l. AreClean (parties_of u) l d two.made) at two.clean));
            reaches = passed-append c one.made two.made ∙ (ap (λ n. passed n two.made) one.reaches ∙ two.reaches);
            early = all-append IsEarly one.made two.made one.early two.early;
            told = two.told ∙ (ap (λ b. b ++ done_in (parties_of u) (link_after v (events ++ one.made)) two.made) one.told
                ∙ (append_assoc xs (done_in (parties_of u) (link_after u events) one.made) (done_in (parties_of u) (link_after v (events ++ one.made)) two.made)
                ∙ ap (λ rest. xs ++ rest) (ap (λ l. done_in (parties_of u) (link_after u events) one.made ++ done_in (parties_of u) l two.made) at
                ∙ sym (done-append (parties_of u) (link_after u events) one.made two.made))));
            shows = subst (ShowsRun w) (append_assoc events one.made two.made) two.shows;
          }

pub hears-told : (parties : Party × Party) (w : World) (told : EndEffects) (got : Option LinkSent) → AreEffectsOf parties w told got → told ∷ [] ≡ map told_of (deliver_effects parties w got)
hears-told parties w told None are = absurd are
hears-told parties w told (Some d) are = rw (← are.0, ← are.1) refl

pub less : (a b : ℕ) → a < b → nat_lt a b ≡ true
less a b is = grind (arith, nat_tests)

pub not-less : (a b : ℕ) → b ≤ a → nat_lt a b ≡ false
not-less a b is = grind (arith, nat_tests)

pub ticks-told : (parties : Party × Party) (w : World) (now : ℕ) → nat_lt now w.now ≡ false → ticks_of parties w now ≡ map told_of (effects_at parties w (clock now))
ticks-told parties w now later = rw later refl

pub advance-deliver : (old new : WorldValue) (k : ℕ) (told : EndEffects) (steps : List (List EndEffects)) → Delivers old new k (Ok told)
    → LeadsOn old new k (k + 1) steps (steps ++ (told ∷ []) ∷ [])
unfolding done_in
advance-deliver old new k told steps does = record {
  whole = does.1.whole;
  parties = does.1.parties;
  run = λ events shows. record {
    made = deliver k ∷ [];
    clean = (rw (less k (length (link_after old events).sent) (let same = length-sent old (link_after old events) shows.link in let low = does.0 in omega (arith, low, same))) refl, tt);
    reaches = refl;
    early = (tt, tt);
    told = ap (λ step. steps ++ step ∷ []) (hears-told (parties_of old) (link_after old events) told (slice_get (link_after old events).sent k) (does.2 events shows));
    shows = does.1.run events shows;
  };
}

pub advance-tick : (old new : WorldValue) (deadline : ℕ) (told : List EndEffects) (steps : List (List EndEffects)) → Ticks old new deadline told
    → deadline < 2 ^ 62 → deadline_in old ≡ Some deadline → old.moment < deadline → LeadsOn old new (length old.sent) (length old.sent) steps (steps ++ told ∷ [])
unfolding done_in
advance-tick old new deadline told steps does below due later = record {
  whole = does.0.whole;
  parties = does.0.parties;
  run = λ events shows. record {
    made = clock deadline ∷ [];
    clean = (
      rw (not-less (length old.sent) (length (link_after old events).sent) (let same = length-sent old (link_after old events) shows.link in omega (arith, same)))
          (ap (option_map clock) (link-deadline old (link_after old events) shows.link ∙ due)),
      tt,
    );
    reaches = refl;
    early = (below, tt);
    told = ap (λ step. steps ++ step ∷ []) (does.1 events shows
        ∙ ticks-told (parties_of old) (link_after old events) deadline
        (not-less deadline (link_after old events).now (let now = shows.link.now in omega (arith, now, later))));
    shows = does.0.run events shows;
  };
}

-- ---- the end of a drain

pub drain-done : (old new : WorldValue) (drained : Drained) → LeadsOn old new (length old.sent) (length new.sent) [] drained.effects → drained.events ≡ length drained.effects
    → deadline_in new ≡ None → Drains old new (Ok drained)
drain-done old new drained advances count none = record {
  whole = advances.whole;
  parties = advances.parties;
  run = λ events shows. by_run events shows (advances.run events shows);
} where
  by_run : (events : List Event) → ShowsRun old events → LeadsIn (parties_of old) (link_after old events) new (length old.sent) (length new.sent) [] drained.effects events
      → DrainsAll old new drained events
  by_run events shows on =
      let w : World = link_after old events in
      let same = length-sent old (link_after old events) shows.link in
      let at = link-on old new events on.made advances.parties in
      record {
        end = run (parties_of old) (link_after old events) on.made;
        clean = record {
          events = on.made;
          count = sym (count ∙ (ap length on.told ∙ length-done (parties_of old) (link_after old events) on.made));
          clean = subst (λ n. AreClean (parties_of old) (link_after old events) n on.made) same on.clean;
          leads = refl;
          drained = record {
            delivered = ap (λ n. passed n on.made) (sym same) ∙ (on.reaches
                ∙ (length-sent new (link_after new (events ++ on.made)) on.shows.link ∙ ap (λ (l : World). length l.sent) at));
            no_timer = ap link_deadline (sym at) ∙ (link-deadline new (link_after new (events ++ on.made)) on.shows.link ∙ none);
          };
        };
        early = on.early;
        told = on.told;
        shows = on.shows;
      }

pub drain-late : (old new : WorldValue) (deadline : ℕ) (told : List (List EndEffects)) → LeadsOn old new (length old.sent) (length new.sent) [] told
    → deadline_in new ≡ Some deadline → 2 ^ 62 ≤ deadline → Drains old new (Err causes.TooLate)
drain-late old new deadline told advances due late = record {
  whole = advances.whole;
  parties = advances.parties;
  run = λ events shows. by_run events shows (advances.run events shows);
} where
  by_run : (events : List Event) → ShowsRun old events → LeadsIn (parties_of old) (link_after old events) new (length old.sent) (length new.sent) [] told events
      → DrainsUntilLate old new events
  by_run events shows on =
      let same = length-sent old (link_after old events) shows.link in
      let at = link-on old new events on.made advances.parties in
      let all : passed (length (link_after old events).sent) on.made ≡ length (run (parties_of old) (link_after old events) on.made).sent =
      ap (λ n. passed n on.made) (sym same) ∙ (on.reaches
      ∙ (length-sent new (link_after new (events ++ on.made)) on.shows.link ∙ ap (λ (l : World). length l.sent) at)) in
      let next : link_deadline (run (parties_of old) (link_after old events) on.made) ≡ Some deadline =
      ap link_deadline (sym at) ∙ (link-deadline new (link_after new (events ++ on.made)) on.shows.link ∙ due) in
      record {
        made = on.made;
        clean = subst (λ n. AreClean (parties_of old) (link_after old events) n on.made) same on.clean;
        early = on.early;
        late = is-late (run (parties_of old) (link_after old events) on.made) (passed (length (link_after old events).sent) on.made) all next;
        shows = on.shows;
      }
    where
      is-late : (w : World) (n : ℕ) → n ≡ length w.sent → link_deadline w ≡ Some deadline → IsLate (clean_event w n)
      is-late w n all next =
          let is : clean_event w n ≡ Some (clock deadline) = rw (not-less n (length w.sent) (omega (arith, all))) (ap (option_map clock) next) in
          subst IsLate (sym is) late

-- the steps of a drain from all that was sent
pub drain-ends : (old new : WorldValue) (from : ℕ) (before now : List (List EndEffects)) (drained : Drained) → DrainsOn old new from before now (Ok tt)
    → from ≡ length old.sent → before ≡ [] → drained.effects ≡ now → drained.events ≡ length now → Drains old new (Ok drained)
drain-ends old new from before now drained on is none effects count =
    drain-done old new drained
    (subst (λ (steps : List (List EndEffects)). LeadsOn old new (length old.sent) (length new.sent) [] steps) (sym effects)
    (subst (λ (first : List (List EndEffects)). LeadsOn old new (length old.sent) (length new.sent) first now) none
    (subst (λ (c : ℕ). LeadsOn old new c (length new.sent) before now) is on.0)))
    (count ∙ ap length (sym effects)) on.1

pub drain-stops : (old new : WorldValue) (from : ℕ) (before now : List (List EndEffects)) (refused : DrainRefused) → DrainsOn old new from before now (Err refused)
    → from ≡ length old.sent → before ≡ [] → Drains old new (Err refused)
drain-stops old new from before now causes.TooLate late is none =
    drain-late old new late.deadline late.now
    (subst (λ (first : List (List EndEffects)). LeadsOn old new (length old.sent) (length new.sent) first late.now) none
    (subst (λ (c : ℕ). LeadsOn old new c (length new.sent) before late.now) is late.leads)) late.due late.late
drain-stops old new from before now causes.Memory spent is none = spent

-- ---- sessions are completed

in-or : {X : Type 0} (x : X) (xs ys : List X) → IsIn x (xs ++ ys) → IsIn x xs ⊎ IsIn x ys
in-or x [] ys among = inr among
in-or x (z ∷ xs) ys (inl is) = inl (inl is)
in-or x (z ∷ xs) ys (inr among) = elim (in-or x xs ys among) [ inl left ↦ inl (inr left) | inr right ↦ inr right ]

in-map : {X Y : Type 0} (f : X → Y) (x : X) (xs : List X) → IsIn x xs → IsIn (f x) (map f xs)
in-map f x [] among = absurd among
in-map f x (z ∷ xs) (inl is) = inl (ap f is)
in-map f x (z ∷ xs) (inr among) = inr (in-map f x xs among)

is-told : (parties : Party × Party) (w : World) (events : List Event) (of : LinkEffects) → IsIn of (effects_in parties w events) → IsTold (done_in parties w events) (told_of of)
unfolding effects_in done_in
is-told parties w [] of among = absurd among
is-told parties w (event ∷ events) of among =
    elim (in-or of (effects_at parties w event) (effects_in parties (happens parties w event) events) among) [
      | inl now ↦ record { step = map told_of (effects_at parties w event); among = inl refl; does = in-map told_of of (effects_at parties w event) now }
      | inr later ↦ (let rest = is-told parties (happens parties w event) events of later in record { step = rest.step; among = inr rest.among; does = rest.does })
    ]

pub tells-note : (parties : Party × Party) (w : World) (events : List Event) (o : End) (note : Note) → IsNoted (effects_in parties w events) o note
    → TellsNote (done_in parties w events) (named o) note
tells-note parties w events o note noted = record {
  told = told_of noted.of;
  tells = is-told parties w events noted.of noted.among;
  by = ap named noted.by;
  noted = noted.noted;
}

pub tells-up : (parties : Party × Party) (w : World) (events : List Event) (o : End) (n : ℕ) → IsHandedUp (effects_in parties w events) o n → TellsUp (done_in parties w events) (named o) n
tells-up parties w events o n handed = record {
  told = told_of handed.of;
  tells = is-told parties w events handed.of handed.among;
  by = ap named handed.by;
  up = up_of handed.up;
  handed = in-map up_of handed.up handed.of.effects.ups handed.handed;
  session = handed.session;
}

-- a drain of a hopeful world with room completes its sessions
pub drain-completes : (old new : WorldValue) (drained : Drained) → Drains old new (Ok drained) → Completes old drained
drain-completes old new drained drains events shows hopeful room = by_run (drains.run events shows)
  where
    parties : Party × Party
    parties = parties_of old

    w : World
    w = link_after old events

    ready : IsReady (parties_of old) (link_after old events)
    ready = record { peers = shows.peers; alike = shows.alike; reached = record { events = events; leads = refl }; hopeful = hopeful; room = room }

    by_run : DrainsAll old new drained events → Completed (parties_of old) (link_after old events) drained
    by_run all =
        let complete : IsComplete (parties_of old) (link_after old events) all.clean.events all.end = clean-completes (parties_of old) (link_after old events) drained.events all.end ready all.clean in
        let few = clean-few (parties_of old) (link_after old events) all.clean.events ready all.clean.clean in
        let count = all.clean.count in
        let end_is = ap (cost (parties_of old) (link_after old events)) all.clean.leads in
        record {
          end = all.end;
          clean = all.clean;
          bound = omega (arith, few, count, end_is);
          sent = λ o n is_open. subst (λ steps. TellsNote steps (named o) (notes.Sent n)) (sym all.told) (tells-note (parties_of old) (link_after old events) all.clean.events o (notes.Sent n) (complete.sent o n is_open));
          handed = λ o n is_open. elim (complete.handed o n is_open) [
            | inl before ↦ inl before
            | inr since ↦ inr (subst (λ steps. TellsUp steps (named (other o)) n) (sym all.told) (tells-up (parties_of old) (link_after old events) all.clean.events (other o) n since))
          ];
        }

-- ---- what is left to deliver

Reads : LinkSent → Type 0
Reads d = segment_of (segment_octets d.segment) ≡ Ok d.segment

all-got : {X : Type 0} (P : X → Type 0) (xs : List X) → ((k : ℕ) (x : X) → slice_get xs k ≡ Some x → P x) → AllByRecursion P xs
all-got P [] each = tt
all-got P (x ∷ xs) each = (each 0 x refl, all-got P xs (λ k y is. each (suc k) y is))

datagrams-burden : (sent : List LinkSent) (k : ℕ) → AllByRecursion (λ d. segment_of (segment_octets d.segment) ≡ Ok d.segment) sent
    → datagrams_burden (drop k (map spelled sent)) ≡ sent_burden (drop k sent)
unfolding datagrams_burden sent_burden
datagrams-burden [] zero read = refl
datagrams-burden [] (suc k) read = refl
datagrams-burden (d ∷ sent) zero read = rw (read.0, datagrams-burden sent zero read.1) refl
datagrams-burden (d ∷ sent) (suc k) read = datagrams-burden sent k read.1

left-is : (v : WorldValue) (events : List Event) (k : ℕ) → ShowsRun v events → left_of v k ≡ link_left (link_after v events) k
left-is v events k shows =
    rw (
      shows.link.first.senders,
      shows.link.second.senders,
      shows.link.sent,
      datagrams-burden (link_after v events).sent k (all-got (λ d. segment_of (segment_octets d.segment) ≡ Ok d.segment) (link_after v events).sent (λ i d is. read-back v events i d shows is)),
    ) refl

record GetsSome (sent : List LinkSent) (k : ℕ) : Type 0 where
  d : LinkSent
  is : slice_get sent k ≡ Some d

gets-some : (sent : List LinkSent) (k : ℕ) → k < length sent → GetsSome sent k
gets-some [] k low = absurd (omega (arith, low))
gets-some (d ∷ sent) zero low = record { d = d; is = refl }
gets-some (d ∷ sent) (suc k) low = let got = gets-some sent k (omega (arith, low)) in record { d = got.d; is = got.is }

pub step-falls : (old new : WorldValue) (k : ℕ) (told : EndEffects) → Stands old → Delivers old new k (Ok told) → left_of new (k + 1) < left_of old k
step-falls old new k told stands does =
    subst (λ n. n < left_of old k) (sym after_it) (subst (λ n. link_left (happens (parties_of old) w (deliver k)) (k + 1) < n) (sym (left-is old events k shows))
    (subst (λ o. link_left (delivered (parties_of old) w o) (k + 1) < link_left w k) (sym got.is) falls))
  where
    events : List Event
    events = stands.events

    shows : ShowsRun old stands.events
    shows = stands.shows

    w : World
    w = link_after old stands.events

    got : GetsSome (link_after old stands.events).sent k
    got = gets-some (link_after old stands.events).sent k (let same = length-sent old (link_after old stands.events) stands.shows.link in let low = does.0 in omega (arith, low, same))

    falls : link_left (delivered (parties_of old) (link_after old stands.events) (Some got.d)) (k + 1) < link_left (link_after old stands.events) k
    falls = subst (λ n. link_left (delivered (parties_of old) (link_after old stands.events) (Some got.d)) n < link_left (link_after old stands.events) k) (sym (add-one k))
        (delivery-falls (parties_of old) w k got.d (runs-are-tame (parties_of old) events shows.peers shows.first_small shows.second_small) got.is)

    after_it : left_of new (k + 1) ≡ link_left (happens (parties_of old) (link_after old stands.events) (deliver k)) (k + 1)
    after_it = left-is new (events ++ deliver k ∷ []) (k + 1) (does.1.run events shows)
        ∙ ap (λ l. link_left l (k + 1)) (link-on old new events (deliver k ∷ []) does.1.parties)

-- ---- the clock, and how much was sent

replied-now : (w : World) (end : End) (name : SessionName) (reply : Option Reply) → ((replies w end name reply).now ≡ w.now) × (length w.sent ≤ length (replies w end name reply).sent)
replied-now w end name None = (refl, omega arith)
replied-now w end name (Some r) = (refl, let all = length-append w.sent (sent_by end (headed_all name r.out)) in omega (arith, all))

delivered-now : (parties : Party × Party) (w : World) (got : Option LinkSent) → ((delivered parties w got).now ≡ w.now) × (length w.sent ≤ length (delivered parties w got).sent)
delivered-now parties w None = (refl, omega arith)
delivered-now parties w (Some d) = replied-now w (other d.from) _ (arrives (at_end parties (other d.from)) (at_end w.engines (other d.from)) d.segment w.now)

pub deliver-clock : (old new : WorldValue) (k : ℕ) (told : EndEffects) → Stands old → Delivers old new k (Ok told) → (new.moment ≡ old.moment) × (length old.sent ≤ length new.sent)
deliver-clock old new k told stands does =
    let w : World = link_after old stands.events in
    let shows = does.1.run stands.events stands.shows in
    let at = link-on old new stands.events (deliver k ∷ []) does.1.parties in
    let now = delivered-now (parties_of old) (link_after old stands.events) (slice_get (link_after old stands.events).sent k) in (
      sym shows.link.now ∙ (ap (λ (l : World). l.now) at ∙ (now.0 ∙ stands.shows.link.now)),
      let before = length-sent old (link_after old stands.events) stands.shows.link in
          let behind = length-sent new (link_after new (stands.events ++ deliver k ∷ [])) shows.link in
          let same = ap (λ (l : World). length l.sent) at in
          let more = now.1 in
          omega (arith, before, behind, same, more),
    )

ticked-now : (parties : Party × Party) (w : World) (now : ℕ) → nat_lt now w.now ≡ false
    → ((happens parties w (clock now)).now ≡ now) × (length w.sent ≤ length (happens parties w (clock now)).sent)
unfolding ticks
ticked-now parties w now later = rw later (refl, let all = length-append w.sent first in let more = length-append (w.sent ++ first) second in omega (arith, all, more)) where
  first : List LinkSent
  first = sent_by first_end (tick_out parties.0 w.engines.0 now)

  second : List LinkSent
  second = sent_by second_end (tick_out parties.1 w.engines.1 now)

pub tick-clock : (old new : WorldValue) (now : ℕ) (told : List EndEffects) → Stands old → Ticks old new now told → old.moment < now → (new.moment ≡ now) × (length old.sent ≤ length new.sent)
tick-clock old new now told stands does later =
    let shows = does.0.run stands.events stands.shows in
    let at = link-on old new stands.events (clock now ∷ []) does.0.parties in
    let moment = stands.shows.link.now in
    let tick = ticked-now (parties_of old) (link_after old stands.events) now (not-less now (link_after old stands.events).now (omega (arith, moment, later))) in (
      sym shows.link.now ∙ (ap (λ (l : World). l.now) at ∙ tick.0),
      let before = length-sent old (link_after old stands.events) stands.shows.link in
          let behind = length-sent new (link_after new (stands.events ++ clock now ∷ [])) shows.link in
          let same = ap (λ (l : World). length l.sent) at in
          let more = tick.1 in
          omega (arith, before, behind, same, more),
    )

pub due-ahead : (v : WorldValue) (deadline : ℕ) → Stands v → deadline_in v ≡ Some deadline → v.moment < deadline
due-ahead v deadline stands due =
    let ahead = deadline-ahead (parties_of v) stands.events stands.shows.peers stands.shows.alike.first_waits stands.shows.alike.second_waits deadline
    (link-deadline v (link_after v stands.events) stands.shows.link ∙ due) in
    let now = stands.shows.link.now in
    omega (arith, ahead, now)

-- ---- as the code has it

-- where there is a deadline, it is after the clock
pub all-ahead : (v : WorldValue) (o : Option ℕ) → Stands v → o ≡ deadline_in v → IfSome o (λ deadline. v.moment < deadline)
all-ahead v None stands is = tt
all-ahead v (Some deadline) stands is = due-ahead v deadline stands (sym is)

-- a step is told of, and the world is as the call left it
pub deliver-told : (old mid new : WorldValue) (k : ℕ) (told : EndEffects) (one : List EndEffects) (before now : List (List EndEffects)) → Delivers old mid k (Ok told)
    → new ≡ mid → one ≡ told ∷ [] → now ≡ before ++ one ∷ [] → LeadsOn old new k (k + 1) before now
deliver-told old mid new k told one before now does same one_is now_is =
    subst (λ v. LeadsOn old v k (k + 1) before now) (sym same)
    (subst (λ steps. LeadsOn old mid k (k + 1) before steps) (sym (now_is ∙ ap (λ step. before ++ step ∷ []) one_is)) (advance-deliver old mid k told before does))

pub tick-told : (old mid new : WorldValue) (deadline : ℕ) (told : List EndEffects) (before now : List (List EndEffects)) → Ticks old mid deadline told
    → deadline < 2 ^ 62 → deadline_in old ≡ Some deadline → old.moment < deadline → new ≡ mid → now ≡ before ++ told ∷ [] → LeadsOn old new (length old.sent) (length old.sent) before now
tick-told old mid new deadline told before now does below due later same now_is =
    subst (λ v. LeadsOn old v (length old.sent) (length old.sent) before now) (sym same)
    (subst (λ steps. LeadsOn old mid (length old.sent) (length old.sent) before steps) (sym now_is) (advance-tick old mid deadline told before does below due later))
