-- What a drain with picks answers, and what that completes.

use Rattle.std.proofs.Common.{◌≡◌, ℕ, ◌≤◌, ◌^◌, Bool, true, false, if◌then◌else◌}
use Rattle.std.proofs.Common.{List, [], ◌∷◌, ◌++◌, length, Option}
use Rattle.std.proofs.Common.{None, Some, Ok, Err, inl, inr, refl, sym, ◌∙◌, ap, arith, subst}
use Rattle.std.specs.List.{AllByRecursion}
use Rattle.std.specs.Option.{option_map}
use Rattle.std.proofs.lemmas.List.{append_assoc, length-append, length-map, map-append}
use Rattle.ltp_segment.specs.declared.session.Note.{Note}
use Rattle.ltp_segment.specs.declared.session.Note.TheVariants as notes
use Rattle.ltp_session.specs.Engine.{Party}
use Rattle.ltp_session.specs.World.{End, Event, World, clock, deliver, other}
use Rattle.ltp_laws.proofs.ListLemmas.{all-append}
use Rattle.ltp_drain.specs.Clean.{link_deadline}
use Rattle.ltp_drain.specs.Completion.{IsComplete, IsReady}
use Rattle.ltp_drain.specs.Effects.{IsNoted, effects_in}
use Rattle.ltp_drain.specs.Hopeful.{Hopeful, Room, cost}
use Rattle.ltp_picks.specs.Picks.{AreNext, Crossing, Turn, after_pick, after_picks, after_turn}
use Rattle.ltp_picks.specs.Picks.{after_turns, as_turns, behind_new, clock_turn, crosses_at}
use Rattle.ltp_picks.specs.Picks.{events_of, is_old, next_turn, old_copy, oldest_of, oldest_turn}
use Rattle.ltp_picks.specs.Picks.{or_clock, pick_turn, picked_turns, Placed}
use Rattle.ltp_picks.specs.Picks.{Pick as LinkPick}
use Rattle.ltp_picks.specs.PickedRuns.{IsCopiedRun, run_events}
use Rattle.ltp_picks.proofs.CopyEnds.{copied-completes, copied-few}
use Rattle.ltp_picks.proofs.CrossingRuns.{crossing-completes, crossing-few}
use Rattle.ltp_world.specs.declared.effects.Drained.{Drained}
use Rattle.ltp_world.specs.declared.effects.EndEffects.{EndEffects}
use Rattle.ltp_world.specs.declared.picks.Marks.{Marks}
use Rattle.ltp_world.specs.declared.picks.Pick.{Pick}
use Rattle.ltp_world.specs.declared.refused.DrainRefused.{DrainRefused}
use Rattle.ltp_world.specs.declared.refused.DrainRefused.TheVariants as causes
use Rattle.ltp_world.specs.Clean.{DrainsOn, deadline_in}
use Rattle.ltp_world.specs.Drain.{InEveryRun, IsEarly, TellsNote, TellsUp, done_in}
use Rattle.ltp_world.specs.Ends.{named}
use Rattle.ltp_world.specs.Marks.{AreWithin, PicksAs, PicksFront, RestIn, RestTo, TurnsTo}
use Rattle.ltp_world.specs.Marks.{least_mark}
use Rattle.ltp_world.specs.Picks.{CompletesBy, CompletesWithCopies, DrainsBy, IsLateTurn, PicksAll}
use Rattle.ltp_world.specs.Picks.{PicksCompleted, PicksUntilLate, late_after, late_pick, link_pick}
use Rattle.ltp_world.specs.Picks.{link_picks}
use Rattle.ltp_world.specs.RedParts.{DrainHandsUpFronts, HandsUpFrontsIn}
use Rattle.ltp_world.specs.Shows.{ShowsRun, link_after}
use Rattle.ltp_world.specs.Values.{WorldValue, parties_of}
use Rattle.ltp_world.proofs.DrainFrontLemmas.{NoSubmit, made-fronts}
use Rattle.ltp_world.proofs.DrainLemmas.{done-append, length-done, length-sent, link-deadline}
use Rattle.ltp_world.proofs.DrainLemmas.{link-on, tells-note, tells-up}
use Rattle.ltp_world.proofs.PickedLemmas.{clean-rest}
use Rattle.ltp_world.proofs.RestLemmas.{events-append, marks-left, nothing-left, rest-more}

-- ---- one run

-- the picks' turns, and those after them
record WholeRun (old new : WorldValue) (picked : List LinkPick) (marks : Marks)
    (now : List (List EndEffects)) (events : List Event) : Type 0 where
  rest : List Turn
  next : AreNext (parties_of old) (after_picks (parties_of old)
      (crosses_at (link_after old events)) picked) rest
  early : AllByRecursion IsEarly (run_events (parties_of old) (link_after old events) picked rest)
  told : now ≡ done_in (parties_of old) (link_after old events)
      (run_events (parties_of old) (link_after old events) picked rest)
  shows : ShowsRun new (events
      ++ run_events (parties_of old) (link_after old events) picked rest)
  none : (after_turns (parties_of old) (after_picks (parties_of old)
      (crosses_at (link_after old events)) picked) rest).new ≡ []
  stands : (after_turns (parties_of old) (after_picks (parties_of old)
      (crosses_at (link_after old events)) picked) rest).world
      ≡ link_after new (events
      ++ run_events (parties_of old) (link_after old events) picked rest)

whole-run : (old mid new : WorldValue) (picked : List LinkPick) (marks : Marks)
    (before now : List (List EndEffects)) → PicksFront old mid picked marks before
    → RestTo mid new (least_mark marks) (length new.sent) marks before now
    → (events : List Event) → ShowsRun old events → WholeRun old new picked marks now events
whole-run old mid new picked marks before now front rest events shows =
    join (front.run events shows)
    (λ (a : TurnsTo (parties_of old) (crosses_at (link_after old events)) d mid marks [] before ts
    events). subst (λ (ps : Party × Party). RestIn ps d new (length new.sent) marks before now
    (events ++ events_of ts)) front.parties
    (rest.run (events ++ events_of ts) a.shows d a.stands (marks-left marks d a.marks)))
  where
    d : Crossing
    d = after_picks (parties_of old) (crosses_at (link_after old events)) picked

    ts : List Turn
    ts = picked_turns (parties_of old) (crosses_at (link_after old events)) picked

    join : (a : TurnsTo (parties_of old) (crosses_at (link_after old events))
        (after_picks (parties_of old) (crosses_at (link_after old events)) picked) mid marks []
        before (picked_turns (parties_of old) (crosses_at (link_after old events)) picked) events)
        → (TurnsTo (parties_of old) (crosses_at (link_after old events))
        (after_picks (parties_of old) (crosses_at (link_after old events)) picked) mid marks []
        before (picked_turns (parties_of old) (crosses_at (link_after old events)) picked) events
        → RestIn (parties_of old)
        (after_picks (parties_of old) (crosses_at (link_after old events)) picked) new
        (length new.sent) marks before now (events ++ events_of
        (picked_turns (parties_of old) (crosses_at (link_after old events)) picked)))
        → WholeRun old new picked marks now events
    join a then_rest = both (then_rest a)
      where
        both : RestIn (parties_of old)
            (after_picks (parties_of old) (crosses_at (link_after old events)) picked) new
            (length new.sent) marks before now (events ++ events_of
            (picked_turns (parties_of old) (crosses_at (link_after old events)) picked))
            → WholeRun old new picked marks now events
        both b =
            let all : (events ++ events_of ts) ++ events_of b.turns
            ≡ events ++ events_of (ts ++ b.turns) =
            append_assoc events (events_of ts) (events_of b.turns)
            ∙ ap (λ (es : List Event). events ++ es) (sym (events-append ts b.turns)) in
            let size = length-sent new (link_after new ((events ++ events_of ts)
            ++ events_of b.turns)) b.shows.link in
            record {
              rest = b.turns;
              next = b.next;
              early = subst (AllByRecursion IsEarly) (sym (events-append ts b.turns))
                  (all-append IsEarly (events_of ts) (events_of b.turns) a.early b.early);
              told = b.told
                  ∙ ap (λ (first : List (List EndEffects)). first
                  ++ done_in (parties_of old) d.world (events_of b.turns)) a.told
                  ∙ ap (λ (w : World). done_in (parties_of old) (link_after old events)
                  (events_of ts) ++ done_in (parties_of old) w (events_of b.turns))
                  (a.stands ∙ link-on old mid events (events_of ts) front.parties)
                  ∙ sym (done-append (parties_of old) (link_after old events) (events_of ts)
                  (events_of b.turns))
                  ∙ ap (done_in (parties_of old) (link_after old events))
                  (sym (events-append ts b.turns));
              shows = subst (ShowsRun new) all b.shows;
              none = nothing-left marks (after_turns (parties_of old) d b.turns)
                  (length new.sent) b.left
                  (omega (arith, ap (λ (w : World). length w.sent) b.stands, size));
              stands = b.stands ∙ ap (link_after new) all;
            }

-- ---- what it answers

length-turns : (ts : List Turn) → length (events_of ts) ≡ length ts
length-turns ts = length-map ts (λ t. t.event)

pub picks-done : (old mid new : WorldValue) (picks : List Pick) (marks : Marks)
    (before now : List (List EndEffects)) (drained : Drained)
    → PicksFront old mid (link_picks picks) marks before
    → RestTo mid new (least_mark marks) (length new.sent) marks before now
    → deadline_in new ≡ None → drained.effects ≡ now → drained.events ≡ length now
    → DrainsBy old new picks (Ok drained)
picks-done old mid new picks marks before now drained front rest none effects count = record {
  whole = rest.whole;
  parties = rest.parties ∙ front.parties;
  run = λ events shows. by_run events
      (whole-run old mid new (link_picks picks) marks before now front rest events shows);
}
  where
    by_run : (events : List Event) → WholeRun old new (link_picks picks) marks now events
        → PicksAll old new picks drained events
    by_run events all = record {
      end = (after_turns (parties_of old) (after_picks (parties_of old)
          (crosses_at (link_after old events)) (link_picks picks)) all.rest).world;
      run = record {
        rest = all.rest;
        goes_on = all.next;
        count =
            let made = length-done (parties_of old) (link_after old events)
            (run_events (parties_of old) (link_after old events) (link_picks picks) all.rest) in
            let turns = length-turns (picked_turns (parties_of old)
            (crosses_at (link_after old events)) (link_picks picks) ++ all.rest) in
            let both = length-append (picked_turns (parties_of old)
            (crosses_at (link_after old events)) (link_picks picks)) all.rest in
            omega (arith, count, ap length all.told, made, turns, both);
        over = record {
          none_new = all.none;
          no_timer = ap link_deadline all.stands
              ∙ link-deadline new (link_after new (events
              ++ run_events (parties_of old) (link_after old events) (link_picks picks) all.rest))
              all.shows.link ∙ none;
        };
        leads = refl;
      };
      early = all.early;
      told = effects ∙ all.told;
      shows = all.shows;
    }

pub picks-stop : (old mid new : WorldValue) (picks : List Pick) (marks : Marks)
    (before now : List (List EndEffects)) (deadline : ℕ)
    → PicksFront old mid (link_picks picks) marks before
    → RestTo mid new (least_mark marks) (length new.sent) marks before now
    → deadline_in new ≡ Some deadline → 2 ^ 62 ≤ deadline
    → DrainsBy old new picks (Err causes.TooLate)
picks-stop old mid new picks marks before now deadline front rest due late = record {
  whole = rest.whole;
  parties = rest.parties ∙ front.parties;
  run = λ events shows. by_run events
      (whole-run old mid new (link_picks picks) marks before now front rest events shows);
}
  where
    by_run : (events : List Event) → WholeRun old new (link_picks picks) marks now events
        → PicksUntilLate old new picks events
    by_run events all = record {
      made = run_events (parties_of old) (link_after old events) (link_picks picks) all.rest;
      until = late_after all.rest _ all.next refl refl (is-late
          (after_turns (parties_of old) (after_picks (parties_of old)
          (crosses_at (link_after old events)) (link_picks picks)) all.rest) all.none
          (ap link_deadline all.stands
          ∙ link-deadline new (link_after new (events
          ++ run_events (parties_of old) (link_after old events) (link_picks picks) all.rest))
          all.shows.link ∙ due));
      early = all.early;
      shows = all.shows;
    }
      where
        clock-at : ℕ → Turn
        clock-at now = record { event = clock now; left = [] }

        is-late : (d : Crossing) → d.new ≡ [] → link_deadline d.world ≡ Some deadline
            → IsLateTurn (next_turn d.world d.new)
        is-late d none is = subst IsLateTurn (sym (ap (next_turn d.world) none
            ∙ ap (option_map clock-at) is)) late

pub pick-stops : (old mid new : WorldValue) (picks front others : List Pick) (pick : Pick)
    (marks : Marks) (before now : List (List EndEffects)) (refused : DrainRefused)
    → PicksFront old mid (link_picks front) marks before
    → PicksAs mid new pick marks before now (Err refused) → picks ≡ front ++ pick ∷ others
    → DrainsBy old new picks (Err refused)
pick-stops old mid new picks front others pick marks before now causes.Memory made spent is = spent
pick-stops old mid new picks front others pick marks before now causes.TooLate made late is =
    subst (λ (v : WorldValue). InEveryRun (PicksUntilLate old v picks) old v) (sym late.0) (record {
      whole = made.whole;
      parties = made.parties;
      run = λ events shows.
          let a = made.run events shows in
          record {
            made = events_of (picked_turns (parties_of old) (crosses_at (link_after old events))
                (link_picks front));
            until = late_pick (link_picks front) (link_pick pick) (link_picks others)
                (ap link_picks is ∙ map-append link_pick front (pick ∷ others)) refl
                (late.1 (events ++ events_of (picked_turns (parties_of old)
                (crosses_at (link_after old events)) (link_picks front)))
                (after_picks (parties_of old) (crosses_at (link_after old events))
                (link_picks front)) a.shows a.stands a.marks);
            early = a.early;
            shows = a.shows;
          };
    })

-- the drain after the picks ends, or is too late
pub picks-end : (old mid u new : WorldValue) (picks : List Pick) (marks : Marks) (from : ℕ)
    (first before now : List (List EndEffects)) (drained : Drained)
    → PicksFront old mid (link_picks picks) marks first
    → RestTo mid u (least_mark marks) (length u.sent) marks first before → AreWithin marks mid
    → length mid.sent ≤ length u.sent → from ≡ length u.sent → DrainsOn u new from before now (Ok tt)
    → drained.effects ≡ now → drained.events ≡ length now → DrainsBy old new picks (Ok drained)
picks-end old mid u new picks marks from first before now drained front rest within grows is on
    effects count =
    picks-done old mid new picks marks first now drained front
    (rest-more mid u new (least_mark marks) (length u.sent) (length new.sent) marks first before now
    rest (clean-rest u new from marks before now on.0 is
    (omega (arith, within.0, grows), omega (arith, within.1, grows)))) on.1 effects count

pub picks-refuse : (old mid u new : WorldValue) (picks : List Pick) (marks : Marks) (from : ℕ)
    (first before now : List (List EndEffects)) (refused : DrainRefused)
    → PicksFront old mid (link_picks picks) marks first
    → RestTo mid u (least_mark marks) (length u.sent) marks first before → AreWithin marks mid
    → length mid.sent ≤ length u.sent → from ≡ length u.sent
    → DrainsOn u new from before now (Err refused) → DrainsBy old new picks (Err refused)
picks-refuse old mid u new picks marks from first before now causes.Memory front rest within grows
    is spent = spent
picks-refuse old mid u new picks marks from first before now causes.TooLate front rest within grows
    is late =
    picks-stop old mid new picks marks first late.now late.deadline front
    (rest-more mid u new (least_mark marks) (length u.sent) (length new.sent) marks first before
    late.now rest (clean-rest u new from marks before late.now late.leads is
    (omega (arith, within.0, grows), omega (arith, within.1, grows)))) late.due late.late

-- ---- red parts

some-turn : (from : End) (es : List Placed) (t : Turn) → oldest_turn from es ≡ Some t
    → NoSubmit t.event
unfolding oldest_turn
some-turn from [] t is = absurd (cc)
some-turn from (e ∷ es) t is = by_test _ is (λ x found. some-turn from es x found)
  where
    by_rest : (o : Option Turn) → oldest_turn from es ≡ o → behind_new e o ≡ Some t
        → ((x : Turn) → oldest_turn from es ≡ Some x → NoSubmit x.event) → NoSubmit t.event
    by_rest None none is deeper = absurd (cc)
    by_rest (Some x) some is deeper =
        let one : record { event = x.event; left = e ∷ x.left } ≡ t = cc in
        subst (λ (t : Turn). NoSubmit t.event) one (deeper x some)

    by_test : (mine : Bool)
        → (if mine then Some (record { event = deliver e.place; left = es })
        else behind_new e (oldest_turn from es)) ≡ Some t
        → ((x : Turn) → oldest_turn from es ≡ Some x → NoSubmit x.event) → NoSubmit t.event
    by_test true is deeper =
        let one : record { event = deliver e.place; left = es } ≡ t = cc in
        subst (λ (t : Turn). NoSubmit t.event) one tt
    by_test false is deeper = by_rest (oldest_turn from es) refl is deeper

clock-none : (w : World) (es : List Placed) (t : Turn) → clock_turn w es ≡ Some t
    → NoSubmit t.event
clock-none w (e ∷ es) t is = absurd (cc)
clock-none w [] t is = by_deadline (link_deadline w) is
  where
    clock-at : ℕ → Turn
    clock-at now = record { event = clock now; left = [] }

    by_deadline : (x : Option ℕ) → option_map clock-at x ≡ Some t → NoSubmit t.event
    by_deadline None is = absurd (cc)
    by_deadline (Some now) is =
        let one : clock-at now ≡ t = cc in subst (λ (t : Turn). NoSubmit t.event) one tt

next-none : (w : World) (es : List Placed) (t : Turn) → next_turn w es ≡ Some t → NoSubmit t.event
next-none w [] t is = clock-none w [] t is
next-none w (e ∷ es) t is =
    let one : record { event = deliver e.place; left = es } ≡ t = cc in
    subst (λ (t : Turn). NoSubmit t.event) one tt

pick-none : (d : Crossing) (pick : LinkPick) (t : Turn) → pick_turn d pick ≡ Some t
    → NoSubmit t.event
pick-none d (oldest_of from) t is = by_oldest (oldest_turn from d.new) refl is
  where
    by_oldest : (x : Option Turn) → oldest_turn from d.new ≡ x
        → or_clock d.world d.new x ≡ Some t → NoSubmit t.event
    by_oldest None none is = clock-none d.world d.new t is
    by_oldest (Some x) some is =
        let one : x ≡ t = cc in
        subst (λ (t : Turn). NoSubmit t.event) one (some-turn from d.new x some)
pick-none d (old_copy k) t is = by_test (is_old d k) is
  where
    by_test : (b : Bool)
        → (if b then Some (record { event = deliver k; left = d.new }) else None) ≡ Some t
        → NoSubmit t.event
    by_test true is =
        let one : record { event = deliver k; left = d.new } ≡ t = cc in
        subst (λ (t : Turn). NoSubmit t.event) one tt
    by_test false is = absurd (cc)

next-nones : (parties : Party × Party) (d : Crossing) (ts : List Turn) → AreNext parties d ts
    → AllByRecursion NoSubmit (events_of ts)
next-nones parties d [] are = tt
next-nones parties d (t ∷ ts) are =
    (next-none d.world d.new t are.0, next-nones parties (after_turn parties d t) ts are.1)

pick-nones : (parties : Party × Party) (picks : List LinkPick) (d : Crossing)
    → AllByRecursion NoSubmit (events_of (picked_turns parties d picks))
unfolding picked_turns
pick-nones parties [] d = tt
pick-nones parties (pick ∷ picks) d =
    by_turn (pick_turn d pick) refl (λ d. pick-nones parties picks d)
  where
    by_turn : (x : Option Turn) → pick_turn d pick ≡ x
        → ((d : Crossing) → AllByRecursion NoSubmit (events_of (picked_turns parties d picks)))
        → AllByRecursion NoSubmit (events_of (as_turns x
        ++ picked_turns parties (after_pick parties d x) picks))
    by_turn None none rest = rest d
    by_turn (Some t) some rest = (pick-none d pick t some, rest (after_turn parties d t))

pub picks-fronts : (old new : WorldValue) (picks : List Pick) (drained : Drained)
    → DrainsBy old new picks (Ok drained) → DrainHandsUpFronts old drained.effects
picks-fronts old new picks drained drains events shows = by_run (drains.run events shows)
  where
    by_run : PicksAll old new picks drained events → HandsUpFrontsIn old events drained.effects
    by_run all = subst (HandsUpFrontsIn old events) (sym all.told)
        (made-fronts old events _ shows
        (subst (AllByRecursion NoSubmit) (sym (events-append _ all.run.rest))
        (all-append NoSubmit _ (events_of all.run.rest)
        (pick-nones (parties_of old) (link_picks picks) (crosses_at (link_after old events)))
        (next-nones (parties_of old) _ all.run.rest all.run.goes_on))))

-- ---- sessions are completed

-- what a run completes is told
told-complete : (old new : WorldValue) (picks : List Pick) (drained : Drained)
    (events : List Event) (most : World → ℕ) (all : PicksAll old new picks drained events)
    → drained.events ≤ most all.end
    → IsComplete (parties_of old) (link_after old events)
    (run_events (parties_of old) (link_after old events) (link_picks picks) all.run.rest) all.end
    → PicksCompleted (parties_of old) (link_after old events) (link_picks picks) drained most
told-complete old new picks drained events most all bound complete = record {
  end = all.end;
  run = all.run;
  bound = bound;
  sent = λ o n is_open. subst (λ steps. TellsNote steps (named o) (notes.Sent n))
      (sym all.told) (tells-note (parties_of old) (link_after old events) _ o
      (notes.Sent n) (complete.sent o n is_open));
  handed = λ o n is_open. elim (complete.handed o n is_open) [
    | inl before ↦ inl before
    | inr since ↦ inr (subst (λ steps. TellsUp steps (named (other o)) n) (sym all.told)
        (tells-up (parties_of old) (link_after old events) _ (other o) n since))
  ];
}

is-ready : (old : WorldValue) (events : List Event) → ShowsRun old events
    → Hopeful (parties_of old) (link_after old events) → Room (link_after old events)
    → IsReady (parties_of old) (link_after old events)
is-ready old events shows hopeful room = record {
  peers = shows.peers;
  alike = shows.alike;
  reached = record { events = events; leads = refl };
  hopeful = hopeful;
  room = room;
}

pub picks-complete : (old new : WorldValue) (picks : List Pick) (drained : Drained)
    → DrainsBy old new picks (Ok drained) → CompletesBy old picks drained
picks-complete old new picks drained drains events shows hopeful room new_picks =
    let all = drains.run events shows in
    let ready = is-ready old events shows hopeful room in
    told-complete old new picks drained events (cost (parties_of old) (link_after old events)) all
    (crossing-few (parties_of old) (link_after old events) (link_picks picks) drained.events all.end
    ready new_picks all.run)
    (crossing-completes (parties_of old) (link_after old events) (link_picks picks) drained.events
    all.end ready new_picks all.run)

pub copies-complete : (old new : WorldValue) (picks : List Pick) (drained : Drained)
    → DrainsBy old new picks (Ok drained) → CompletesWithCopies old picks drained
copies-complete old new picks drained drains events shows hopeful room few spared =
    let all = drains.run events shows in
    let ready = is-ready old events shows hopeful room in
    let copied = copied all in
    told-complete old new picks drained events _ all
    (copied-few (parties_of old) (link_after old events) (link_picks picks) drained.events all.end
    ready copied)
    (copied-completes (parties_of old) (link_after old events) (link_picks picks) drained.events
    all.end ready copied)
  where
    tells : (all : PicksAll old new picks drained events) (o : End) (note : Note)
        → IsNoted (effects_in (parties_of old) (link_after old events)
        (run_events (parties_of old) (link_after old events) (link_picks picks) all.run.rest)) o note
        → TellsNote drained.effects (named o) note
    tells all o note noted = subst (λ steps. TellsNote steps (named o) note) (sym all.told)
        (tells-note (parties_of old) (link_after old events) _ o note noted)

    copied : (all : PicksAll old new picks drained events)
        → IsCopiedRun (parties_of old) (link_after old events) (link_picks picks) drained.events
        all.end
    copied all = record {
      run = all.run;
      few = few;
      spared = record {
        evicted = λ o n noted. spared.evicted o n (tells all o (notes.Evicted n) noted);
        full = λ o n noted. spared.full o n (tells all o (notes.HistoryFull n) noted);
      };
    }
