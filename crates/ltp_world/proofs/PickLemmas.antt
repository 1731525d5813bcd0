-- Turns of a drain, one after the other, as the code makes them.

use Rattle.std.proofs.Common.{◌≡◌, ℕ, zero, suc, ◌+◌, ◌<◌, ◌≤◌, true, false, not, List}
use Rattle.std.proofs.Common.{[], ◌∷◌, ◌++◌, length, map, drop, Option, None, Some, Ok, Err, ◌⊎◌, inl}
use Rattle.std.proofs.Common.{inr, refl, sym, ◌∙◌, ap, arith, subst, nat_le}
use Rattle.std.specs.List.{slice_get}
use Rattle.std.specs.Option.{option_map}
use Rattle.std.proofs.lemmas.List.{append-nil}
use Rattle.ltp_session.specs.Engine.{Party}
use Rattle.ltp_session.specs.World.{End, Event, World, at_end, clock, deliver, first_end, happens}
use Rattle.ltp_session.specs.World.{other, second_end, with_end}
use Rattle.ltp_session.specs.World.{Sent as LinkSent}
use Rattle.ltp_drain.specs.Clean.{link_deadline}
use Rattle.ltp_drain.specs.Draining.{since}
use Rattle.ltp_drain.specs.Effects.{effects_at}
use Rattle.ltp_picks.specs.Picks.{Crossing, Placed, Turn, after_pick, after_turn}
use Rattle.ltp_picks.specs.Picks.{as_turns, clock_turn}
use Rattle.ltp_picks.specs.Picks.{is_old, oldest_of, oldest_turn, or_clock, pick_turn}
use Rattle.ltp_picks.specs.Picks.{placed_from}
use Rattle.ltp_picks.proofs.CrossingLemmas.{clock-sent, delivered-sent}
use Rattle.ltp_world.specs.declared.effects.EndEffects.{EndEffects}
use Rattle.ltp_world.specs.declared.ends.End.{End as CodeEnd}
use Rattle.ltp_world.specs.declared.ends.End.TheVariants as ends
use Rattle.ltp_world.specs.declared.picks.Marks.{Marks}
use Rattle.ltp_world.specs.declared.picks.Pick.TheVariants as picks
use Rattle.ltp_world.specs.declared.refused.DrainRefused.{DrainRefused}
use Rattle.ltp_world.specs.declared.refused.DrainRefused.TheVariants as causes
use Rattle.ltp_world.specs.declared.sent.Sent.{Sent}
use Rattle.ltp_world.specs.Clean.{TakesEvent, TellsEvent}
use Rattle.ltp_world.specs.Drain.{IsEarly, done_in, told_of}
use Rattle.ltp_world.specs.Ends.{link_end, named, other_end}
use Rattle.ltp_world.specs.Marks.{AreMarks, IsTooLate, PicksAs, PicksOne, SetsClock}
use Rattle.ltp_world.specs.Marks.{SetsTo}
use Rattle.ltp_world.specs.Marks.{TurnsTo, is_new_by, is_new_in, mark_of, marks_at, new_from}
use Rattle.ltp_world.specs.Marks.{next_place, pick_of, rests, ticks_to, with_mark}
use Rattle.ltp_world.specs.Picks.{IsLateTurn, link_pick}
use Rattle.ltp_world.specs.Shows.{ShowsRun, link_after, spelled}
use Rattle.ltp_world.specs.Steps.{Delivers, Ticks}
use Rattle.ltp_world.specs.Values.{WorldValue, parties_of}
use Rattle.ltp_world.proofs.DrainLemmas.{hears-told, length-sent, link-deadline, link-on}
use Rattle.ltp_world.proofs.DrainLemmas.{not-less, ticks-told}
use Rattle.ltp_world.proofs.MarkLemmas.{Sought, all-new, found, new-append, next-sought}
use Rattle.ltp_world.proofs.MarkLemmas.{nothing-new, nowhere}
use Rattle.ltp_world.proofs.SearchLemmas.{not-there, old-is}

-- ---- an event

pub deliver-takes : (old mid new : WorldValue) (k : ℕ) (told : EndEffects) (one : List EndEffects)
    (before now : List (List EndEffects)) → Delivers old mid k (Ok told) → new ≡ mid
    → one ≡ told ∷ [] → now ≡ before ++ one ∷ [] → TakesEvent old new (deliver k) before now
deliver-takes old mid new k told one before now does same one_is now_is =
    subst (λ (v : WorldValue). TakesEvent old v (deliver k) before now) (sym same) (record {
      whole = does.1.whole;
      parties = does.1.parties;
      run = λ events shows. record {
        told = now_is ∙ ap (λ step. before ++ step ∷ []) (one_is
            ∙ hears-told (parties_of old) (link_after old events) told
            (slice_get (link_after old events).sent k) (does.2 events shows));
        shows = does.1.run events shows;
      };
    })

pub tick-takes : (old mid new : WorldValue) (deadline : ℕ) (told : List EndEffects)
    (before now : List (List EndEffects)) → Ticks old mid deadline told → old.moment < deadline
    → new ≡ mid → now ≡ before ++ told ∷ [] → TakesEvent old new (clock deadline) before now
tick-takes old mid new deadline told before now does later same now_is =
    subst (λ (v : WorldValue). TakesEvent old v (clock deadline) before now) (sym same) (record {
      whole = does.0.whole;
      parties = does.0.parties;
      run = λ events shows. record {
        told = now_is ∙ ap (λ step. before ++ step ∷ []) (does.1 events shows
            ∙ ticks-told (parties_of old) (link_after old events) deadline
            (not-less deadline (link_after old events).now
            (let now = shows.link.now in omega (arith, now, later))));
        shows = does.0.run events shows;
      };
    })

-- ---- marks of the code

pub mark-at : (marks : Marks) (end : CodeEnd)
    → mark_of marks end ≡ at_end (marks_at marks) (link_end end)
mark-at marks ends.First = refl
mark-at marks ends.Second = refl

pub marks-with : (marks : Marks) (end : CodeEnd) (x : ℕ)
    → marks_at (with_mark marks end x) ≡ with_end (marks_at marks) (link_end end) x
marks-with marks ends.First x = refl
marks-with marks ends.Second x = refl

pick-is : (end : CodeEnd) → link_pick (pick_of end) ≡ oldest_of (link_end end)
pick-is ends.First = refl
pick-is ends.Second = refl

other-is : (end : CodeEnd) → link_end (other_end end) ≡ other (link_end end)
other-is ends.First = refl
other-is ends.Second = refl

mark-apart : (marks : Marks) (end : CodeEnd) (x : ℕ)
    → mark_of (with_mark marks end x) (other_end end) ≡ mark_of marks (other_end end)
mark-apart marks ends.First x = refl
mark-apart marks ends.Second x = refl

with-within : (marks : Marks) (end : CodeEnd) (x n : ℕ) → marks.first ≤ n → marks.second ≤ n
    → x ≤ n → ((with_mark marks end x).first ≤ n) × ((with_mark marks end x).second ≤ n)
with-within marks ends.First x n first second low = (low, second)
with-within marks ends.Second x n first second low = (first, low)

mark-within : (marks : Marks) (end : CodeEnd) (n : ℕ) → marks.first ≤ n → marks.second ≤ n
    → mark_of marks end ≤ n
mark-within marks ends.First n first second = first
mark-within marks ends.Second n first second = second

pub each-within : (marks : Marks) (n : ℕ) → marks.first ≤ n → marks.second ≤ n → (o : End)
    → at_end (marks_at marks) o ≤ n
each-within marks n first second first_end = first
each-within marks n first second second_end = second

-- what is new after a turn
pub turn-marks : (parties : Party × Party) (d : Crossing) (t : Turn) (marks : Marks)
    → (happens parties d.world t.event).sent
    ≡ d.world.sent ++ since d.world (happens parties d.world t.event)
    → t.left ≡ new_from 0 (marks_at marks) d.world.sent
    → marks.first ≤ length d.world.sent → marks.second ≤ length d.world.sent
    → AreMarks marks (after_turn parties d t)
turn-marks parties d t marks adds left first second = record {
  new = ap (λ (es : List Placed). es ++ placed_from (length d.world.sent) added) left
      ∙ ap (λ (es : List Placed). new_from 0 (marks_at marks) d.world.sent ++ es)
      (sym (all-new (length d.world.sent) (marks_at marks) added
      (each-within marks (length d.world.sent) first second)))
      ∙ sym (ap (new_from 0 (marks_at marks)) adds
      ∙ new-append 0 (marks_at marks) d.world.sent added
      ∙ ap (λ (j : ℕ). new_from 0 (marks_at marks) d.world.sent ++ new_from j (marks_at marks) added)
      (zero-plus (length d.world.sent)));
  first = omega (arith, first, grows);
  second = omega (arith, second, grows);
}
  where
    added : List LinkSent
    added = since d.world (happens parties d.world t.event)

    zero-plus : (n : ℕ) → 0 + n ≡ n
    zero-plus n = omega arith

    more : (xs ys : List LinkSent) → length xs ≤ length (xs ++ ys)
    more [] ys = omega arith
    more (x ∷ xs) ys = omega (arith, more xs ys)

    grows : length d.world.sent ≤ length (happens parties d.world t.event).sent
    grows = subst (λ (sent : List LinkSent). length d.world.sent ≤ length sent) (sym adds)
        (more d.world.sent added)

-- ---- a turn of one event

pub event-turns : (old new : WorldValue) (d d' : Crossing) (t : Turn) (marks : Marks)
    (before now : List (List EndEffects)) (events : List Event)
    → TakesEvent old new t.event before now → ShowsRun old events → d.world ≡ link_after old events
    → IsEarly t.event → d' ≡ after_turn (parties_of old) d t → AreMarks marks d'
    → TurnsTo (parties_of old) d d' new marks before now (t ∷ []) events
unfolding done_in
event-turns old new d d' t marks before now events takes shows at early is are =
    let one : TellsEvent (parties_of old) (link_after old events) new t.event before now events =
    takes.run events shows in
    record {
      early = (early, tt);
      told = one.told ∙ ap (λ (w : World). before ++ map told_of
          (effects_at (parties_of old) w t.event) ∷ []) (sym at);
      shows = one.shows;
      marks = are;
      stands = ap (λ (d : Crossing). d.world) is
          ∙ ap (λ (w : World). happens (parties_of old) w t.event) at
          ∙ sym (link-on old new events (t.event ∷ []) takes.parties);
    }

pub no-turns : (v : WorldValue) (d : Crossing) (marks : Marks) (told : List (List EndEffects))
    (events : List Event) → ShowsRun v events → d.world ≡ link_after v events → AreMarks marks d
    → TurnsTo (parties_of v) d d v marks told told [] events
unfolding done_in
no-turns v d marks told events shows at are = record {
  early = tt;
  told = sym (append-nil told);
  shows = subst (ShowsRun v) (sym (append-nil events)) shows;
  marks = are;
  stands = at ∙ ap (link_after v) (sym (append-nil events));
}

-- a pick that has this turn
by-turn : (old new : WorldValue) (d : Crossing) (turn turn' : Option Turn) (marks : Marks)
    (before now : List (List EndEffects)) (events : List Event) → turn ≡ turn'
    → TurnsTo (parties_of old) d (after_pick (parties_of old) d turn') new marks before now
    (as_turns turn') events
    → TurnsTo (parties_of old) d (after_pick (parties_of old) d turn) new marks before now
    (as_turns turn) events
by-turn old new d turn turn' marks before now events is to =
    subst (λ (turn : Option Turn). TurnsTo (parties_of old) d
    (after_pick (parties_of old) d turn) new marks before now (as_turns turn) events) (sym is) to

-- ---- the oldest of an end

-- where the code's search ends
seeks : (v : WorldValue) (d : Crossing) (events : List Event) (marks : Marks) (end : CodeEnd) (at : ℕ)
    → ShowsRun v events → d.world ≡ link_after v events → AreMarks marks d
    → at ≡ next_place end (mark_of marks end) (drop (mark_of marks end) v.sent)
    → Sought (link_end end) (marks_at marks) 0 d.world.sent at
seeks v d events marks end at shows stands are is =
    subst (Sought (link_end end) (marks_at marks) 0 d.world.sent) (sym place)
    (next-sought end (marks_at marks) d.world.sent
    (each-within marks (length d.world.sent) are.first are.second (link_end end)))
  where
    sent : v.sent ≡ map spelled d.world.sent
    sent = shows.link.sent ∙ ap (λ (w : World). map spelled w.sent) (sym stands)

    place : at ≡ next_place end (at_end (marks_at marks) (link_end end))
        (drop (at_end (marks_at marks) (link_end end)) (map spelled d.world.sent))
    place = is ∙ ap (λ (m : ℕ). next_place end m (drop m v.sent)) (mark-at marks end)
        ∙ ap (λ sent. next_place end (at_end (marks_at marks) (link_end end))
        (drop (at_end (marks_at marks) (link_end end)) sent)) sent

abbrev turn-of : ℕ → List Placed → Option Turn
turn-of at left = Some (record { event = deliver at; left = left })

pub picks-oldest : (old new : WorldValue) (marks : Marks) (end : CodeEnd) (at : ℕ)
    (before now : List (List EndEffects)) → TakesEvent old new (deliver at) before now
    → at ≡ next_place end (mark_of marks end) (drop (mark_of marks end) old.sent)
    → at < length old.sent
    → PicksOne old new (pick_of end) marks (with_mark marks end (at + 1)) before now
picks-oldest old new marks end at before now takes is low = record {
  whole = takes.whole;
  parties = takes.parties;
  run = λ events shows d stands are. by_search events shows d stands are
      (seeks old d events marks end at shows stands are is);
}
  where
    by_search : (events : List Event) → ShowsRun old events → (d : Crossing)
        → d.world ≡ link_after old events → AreMarks marks d
        → Sought (link_end end) (marks_at marks) 0 d.world.sent at
        → TurnsTo (parties_of old) d
        (after_pick (parties_of old) d (pick_turn d (link_pick (pick_of end)))) new
        (with_mark marks end (at + 1)) before now
        (as_turns (pick_turn d (link_pick (pick_of end)))) events
    by_search events shows d stands are (nowhere all turn same) = absurd (
        let size = length-sent old (link_after old events) shows.link in
        let same_size = ap (λ (w : World). length w.sent) stands in
        omega (arith, all, low, size, same_size))
    by_search events shows d stands are (found below from turn same) =
        by-turn old new d _ (Some t) (with_mark marks end (at + 1)) before now events
        (ap (pick_turn d) (pick-is end)
        ∙ ap (or_clock d.world d.new) (ap (oldest_turn (link_end end)) are.new ∙ turn
        ∙ ap (λ (m : ℕ × ℕ). turn-of at (new_from 0 m d.world.sent))
        (sym (marks-with marks end (at + 1)))))
        (event-turns old new d (after_turn (parties_of old) d t) t (with_mark marks end (at + 1))
        before now events takes shows stands tt refl
        (turn-marks (parties_of old) d t (with_mark marks end (at + 1))
        (delivered-sent (parties_of old) d.world at) refl within.0 within.1))
      where
        t : Turn
        t = record {
          event = deliver at;
          left = new_from 0 (marks_at (with_mark marks end (at + 1))) d.world.sent;
        }

        within : ((with_mark marks end (at + 1)).first ≤ length d.world.sent)
            × ((with_mark marks end (at + 1)).second ≤ length d.world.sent)
        within = with-within marks end (at + 1) (length d.world.sent) are.first are.second
            (omega (arith, below))

-- ---- an end that has nothing new

-- both searches went to the end, or the second one found something
data SoughtBoth (end : CodeEnd) (d : Crossing) (marks : Marks) (at another : ℕ) : Type 0 where
  none_at_all : d.new ≡ [] → AreMarks (with_mark (with_mark marks end at) (other_end end) another) d
      → SoughtBoth end d marks at another
  the_other : (t : Turn) → oldest_turn (link_end end) d.new ≡ None
      → oldest_turn (link_end (other_end end)) d.new ≡ Some t
      → another < length d.world.sent
      → AreMarks (with_mark (with_mark marks end at) (other_end end) another) d
      → SoughtBoth end d marks at another

-- marks that moved to where nothing is between
moved-marks : (marks : Marks) (end : CodeEnd) (at : ℕ) (d : Crossing)
    → new_from 0 (with_end (marks_at marks) (link_end end) at) d.world.sent
    ≡ new_from 0 (marks_at marks) d.world.sent
    → at ≤ length d.world.sent → AreMarks marks d → AreMarks (with_mark marks end at) d
moved-marks marks end at d same low are =
    let within = with-within marks end at (length d.world.sent) are.first are.second low in
    record {
      new = are.new ∙ sym same
          ∙ ap (λ (m : ℕ × ℕ). new_from 0 m d.world.sent) (sym (marks-with marks end at));
      first = within.0;
      second = within.1;
    }

seeks-both : (v : WorldValue) (d : Crossing) (events : List Event) (marks : Marks)
    (end : CodeEnd) (at another : ℕ) → ShowsRun v events → d.world ≡ link_after v events
    → AreMarks marks d
    → at ≡ next_place end (mark_of marks end) (drop (mark_of marks end) v.sent)
    → length v.sent ≤ at
    → another ≡ next_place (other_end end) (mark_of marks (other_end end))
    (drop (mark_of marks (other_end end)) v.sent)
    → SoughtBoth end d marks at another
seeks-both v d events marks end at another shows stands are is_at high is_another =
    by_first (seeks v d events marks end at shows stands are is_at)
  where
    size : length v.sent ≡ length d.world.sent
    size = length-sent v (link_after v events) shows.link
        ∙ ap (λ (w : World). length w.sent) (sym stands)

    by_second : AreMarks (with_mark marks end at) d → oldest_turn (link_end end) d.new ≡ None
        → Sought (link_end (other_end end)) (marks_at (with_mark marks end at)) 0 d.world.sent
        another → SoughtBoth end d marks at another
    by_second moved none (found low from turn same) =
        the_other _ none (ap (oldest_turn (link_end (other_end end))) moved.new ∙ turn)
        (omega (arith, low))
        (moved-marks (with_mark marks end at) (other_end end) another d same (omega (arith, low))
        moved)
    by_second moved none (nowhere all turn same) =
        none_at_all (nothing-new (link_end end) d.new none
        (ap (λ (o : End). oldest_turn o d.new) (sym (other-is end))
        ∙ ap (oldest_turn (link_end (other_end end))) moved.new ∙ turn))
        (moved-marks (with_mark marks end at) (other_end end) another d same (omega (arith, all))
        moved)

    by_first : Sought (link_end end) (marks_at marks) 0 d.world.sent at
        → SoughtBoth end d marks at another
    by_first (found low from turn same) = absurd (omega (arith, low, high, size))
    by_first (nowhere all turn same) =
        let moved = moved-marks marks end at d same (omega (arith, all)) are in
        by_second moved (ap (oldest_turn (link_end end)) are.new ∙ turn)
        (seeks v d events (with_mark marks end at) (other_end end) another shows stands moved
        (is_another ∙ ap (λ (m : ℕ). next_place (other_end end) m (drop m v.sent))
        (sym (mark-apart marks end at))))

nothing-oldest : (o : End) → oldest_turn o [] ≡ None
unfolding oldest_turn
nothing-oldest o = refl

abbrev clock-at : ℕ → Turn
clock-at now = record { event = clock now; left = [] }

nothing-there : (o : End) {t : Turn} → oldest_turn o [] ≡ Some t → ⊥
unfolding oldest_turn
nothing-there o is = cc

-- a pick of an end that has nothing new, where neither has: the clock's turn
pick-clock : (d : Crossing) (end : CodeEnd) → d.new ≡ []
    → pick_turn d (link_pick (pick_of end)) ≡ clock_turn d.world []
pick-clock d end none =
    ap (pick_turn d) (pick-is end)
    ∙ ap (λ (es : List Placed). or_clock d.world es (oldest_turn (link_end end) es)) none
    ∙ ap (or_clock d.world []) (nothing-oldest (link_end end))

-- ... where the other one has: nothing
pick-nothing : (d : Crossing) (end : CodeEnd) (t : Turn) → oldest_turn (link_end end) d.new ≡ None
    → oldest_turn (link_end (other_end end)) d.new ≡ Some t
    → pick_turn d (link_pick (pick_of end)) ≡ None
pick-nothing d end t none some =
    ap (pick_turn d) (pick-is end)
    ∙ ap (or_clock d.world d.new) none ∙ by_new d.new refl
  where
    by_new : (es : List Placed) → d.new ≡ es → clock_turn d.world es ≡ None
    by_new (e ∷ es) is = refl
    by_new [] is = absurd (nothing-there (link_end (other_end end))
        (ap (oldest_turn (link_end (other_end end))) (sym is) ∙ some))

-- a search that found something
ends-apart : (v : WorldValue) (d : Crossing) (events : List Event) (marks : Marks) (end : CodeEnd)
    (at another : ℕ) → ShowsRun v events → d.world ≡ link_after v events → AreMarks marks d
    → d.new ≡ []
    → another ≡ next_place (other_end end) (mark_of marks (other_end end))
    (drop (mark_of marks (other_end end)) v.sent)
    → another < length v.sent → ⊥
ends-apart v d events marks end at another shows stands are none is low =
    by_search (seeks v d events marks (other_end end) another shows stands are is)
  where
    by_search : Sought (link_end (other_end end)) (marks_at marks) 0 d.world.sent another → ⊥
    by_search (found below from turn same) = nothing-there (link_end (other_end end))
        (ap (oldest_turn (link_end (other_end end))) (sym none ∙ are.new) ∙ turn)
    by_search (nowhere all turn same) =
        let size = length-sent v (link_after v events) shows.link in
        let same_size = ap (λ (w : World). length w.sent) stands in
        omega (arith, all, low, size, same_size)

pub picks-nothing : (v : WorldValue) (marks : Marks) (end : CodeEnd) (at another : ℕ)
    (told : List (List EndEffects)) → v.spent ≡ false
    → at ≡ next_place end (mark_of marks end) (drop (mark_of marks end) v.sent)
    → length v.sent ≤ at
    → another ≡ next_place (other_end end) (mark_of marks (other_end end))
    (drop (mark_of marks (other_end end)) v.sent)
    → another < length v.sent
    → PicksOne v v (pick_of end) marks
    (with_mark (with_mark marks end at) (other_end end) another) told told
picks-nothing v marks end at another told whole is_at high is_another low = record {
  whole = whole;
  parties = refl;
  run = λ events shows d stands are. by_search events shows d stands
      are (seeks-both v d events marks end at another shows stands are is_at high is_another);
}
  where
    marks' : Marks
    marks' = with_mark (with_mark marks end at) (other_end end) another

    by_search : (events : List Event) → ShowsRun v events → (d : Crossing)
        → d.world ≡ link_after v events → AreMarks marks d → SoughtBoth end d marks at another
        → TurnsTo (parties_of v) d
        (after_pick (parties_of v) d (pick_turn d (link_pick (pick_of end)))) v marks' told told
        (as_turns (pick_turn d (link_pick (pick_of end)))) events
    by_search events shows d stands was (the_other t none some below are) =
        by-turn v v d _ None marks' told told events (pick-nothing d end t none some)
        (no-turns v d marks' told events shows stands are)
    by_search events shows d stands was (none_at_all none are) =
        absurd (ends-apart v d events marks end at another shows stands was none is_another low)

-- ---- the clock

pub picks-clock : (old new : WorldValue) (marks : Marks) (end : CodeEnd) (at another : ℕ)
    (before now : List (List EndEffects)) → old.spent ≡ false → SetsTo old new before now
    → at ≡ next_place end (mark_of marks end) (drop (mark_of marks end) old.sent)
    → length old.sent ≤ at
    → another ≡ next_place (other_end end) (mark_of marks (other_end end))
    (drop (mark_of marks (other_end end)) old.sent)
    → length old.sent ≤ another
    → PicksOne old new (pick_of end) marks
    (with_mark (with_mark marks end at) (other_end end) another) before now
picks-clock old new marks end at another before now whole sets is_at high is_another above =
    by_clock sets
  where
    marks' : Marks
    marks' = with_mark (with_mark marks end at) (other_end end) another

    nothing : (events : List Event) → ShowsRun old events → (d : Crossing)
        → d.world ≡ link_after old events → AreMarks marks d
        → (d.new ≡ []) × AreMarks marks' d
    nothing events shows d stands are = by_search
        (seeks-both old d events marks end at another shows stands are is_at high is_another)
        (length-sent old (link_after old events) shows.link
        ∙ ap (λ (w : World). length w.sent) (sym stands))
      where
        by_search : SoughtBoth end d marks at another → length old.sent ≡ length d.world.sent
            → (d.new ≡ []) × AreMarks marks' d
        by_search (none_at_all none are) size = (none, are)
        by_search (the_other t none some below are) size = absurd (omega (arith, below, above, size))

    by_clock : SetsTo old new before now → PicksOne old new (pick_of end) marks marks' before now
    by_clock (rests none same told) =
        subst (λ (told : List (List EndEffects)). PicksOne old new (pick_of end) marks marks' before
        told) (sym told)
        (subst (λ (v : WorldValue). PicksOne old v (pick_of end) marks marks' before before)
        (sym same) (record {
          whole = whole;
          parties = refl;
          run = λ events shows d stands are.
              let (nothing_new, moved) = nothing events shows d stands are in
              by-turn old old d _ None marks' before before events
              (pick-clock d end nothing_new
              ∙ ap (option_map clock-at) (ap link_deadline stands
              ∙ link-deadline old (link_after old events) shows.link ∙ none))
              (no-turns old d marks' before events shows stands moved);
        }))
    by_clock (ticks_to deadline due early later takes) = record {
      whole = takes.whole;
      parties = takes.parties;
      run = λ events shows d stands are.
          let (nothing_new, moved) = nothing events shows d stands are in
          by-turn old new d _ (Some (clock-at deadline)) marks' before now events
          (pick-clock d end nothing_new
          ∙ ap (option_map clock-at) (ap link_deadline stands
          ∙ link-deadline old (link_after old events) shows.link ∙ due))
          (event-turns old new d (after_turn (parties_of old) d (clock-at deadline))
          (clock-at deadline) marks' before now events takes shows stands early refl
          (turn-marks (parties_of old) d (clock-at deadline) marks'
          (clock-sent (parties_of old) d.world deadline) (sym nothing_new ∙ moved.new) moved.first
          moved.second));
    }

pub picks-late : (old new : WorldValue) (marks : Marks) (end : CodeEnd) (at another : ℕ)
    (before now : List (List EndEffects)) → IsTooLate old new
    → at ≡ next_place end (mark_of marks end) (drop (mark_of marks end) old.sent)
    → length old.sent ≤ at
    → another ≡ next_place (other_end end) (mark_of marks (other_end end))
    (drop (mark_of marks (other_end end)) old.sent)
    → length old.sent ≤ another
    → PicksAs old new (pick_of end) marks before now (Err causes.TooLate)
picks-late old new marks end at another before now late is_at high is_another above = (
  late.same,
  λ events d shows stands are. is-late events d shows stands
      (seeks-both old d events marks end at another shows stands are is_at high is_another)
      (length-sent old (link_after old events) shows.link
      ∙ ap (λ (w : World). length w.sent) (sym stands)),
)
  where
    is-late : (events : List Event) (d : Crossing) → ShowsRun old events
        → d.world ≡ link_after old events → SoughtBoth end d marks at another
        → length old.sent ≡ length d.world.sent
        → IsLateTurn (pick_turn d (link_pick (pick_of end)))
    is-late events d shows stands (the_other t none some below are) size =
        absurd (omega (arith, below, above, size))
    is-late events d shows stands (none_at_all none are) size =
        subst IsLateTurn (sym (pick-clock d end none
        ∙ ap (option_map clock-at) (ap link_deadline stands
        ∙ link-deadline old (link_after old events) shows.link ∙ late.due))) late.late

-- ---- an old one

spelled-at : (sent : List LinkSent) (k : ℕ) (x : LinkSent) → slice_get sent k ≡ Some x
    → slice_get (map spelled sent) k ≡ Some (spelled x)
spelled-at [] k x is = absurd (cc)
spelled-at (d ∷ sent) zero x is =
    let one : d ≡ x = cc in ap (λ (d : LinkSent). Some (spelled d)) one
spelled-at (d ∷ sent) (suc k) x is = spelled-at sent k x is

pub new-in : (sent : List LinkSent) (marks : Marks) (k : ℕ) (x : LinkSent)
    → slice_get sent k ≡ Some x
    → is_new_in (map spelled sent) k marks ≡ nat_le (at_end (marks_at marks) x.from) k
new-in sent marks k x is =
    ap (is_new_by marks k) (spelled-at sent k x is) ∙ ap (λ (m : ℕ). nat_le m k) (by_end x.from)
  where
    by_end : (o : End) → mark_of marks (named o) ≡ at_end (marks_at marks) o
    by_end first_end = refl
    by_end second_end = refl

record Gets (sent : List LinkSent) (k : ℕ) : Type 0 where
  x : LinkSent
  is : slice_get sent k ≡ Some x

gets : (sent : List LinkSent) (k : ℕ) → (Gets sent k × (k < length sent)) ⊎ ((length sent ≤ k)
    × (slice_get (map spelled sent) k ≡ None))
gets [] k = inr (omega arith, refl)
gets (d ∷ sent) zero = inl (record { x = d; is = refl }, omega arith)
gets (d ∷ sent) (suc k) = go (gets sent k)
  where
    go : (Gets sent k × (k < length sent)) ⊎ ((length sent ≤ k)
        × (slice_get (map spelled sent) k ≡ None))
        → (Gets (d ∷ sent) (suc k) × (suc k < length (d ∷ sent))) ⊎ ((length (d ∷ sent) ≤ suc k)
        × (slice_get (map spelled (d ∷ sent)) (suc k) ≡ None))
    go (inl (got, low)) = inl (record { x = got.x; is = got.is }, omega (arith, low))
    go (inr (high, none)) = inr (omega (arith, high), none)

-- what the code takes as old is old
old-there : (v : WorldValue) (d : Crossing) (events : List Event) (marks : Marks) (k : ℕ)
    → ShowsRun v events → d.world ≡ link_after v events → AreMarks marks d
    → is_old d k ≡ not (is_new_in v.sent k marks)
old-there v d events marks k shows stands are = by_got (gets d.world.sent k)
  where
    sent : v.sent ≡ map spelled d.world.sent
    sent = shows.link.sent ∙ ap (λ (w : World). map spelled w.sent) (sym stands)

    by_got : (Gets d.world.sent k × (k < length d.world.sent)) ⊎ ((length d.world.sent ≤ k)
        × (slice_get (map spelled d.world.sent) k ≡ None))
        → is_old d k ≡ not (is_new_in v.sent k marks)
    by_got (inl (got, low)) =
        old-is d (marks_at marks) k got.x are.new low got.is
        ∙ ap not (sym (ap (λ (ds : List Sent). is_new_in ds k marks) sent
        ∙ new-in d.world.sent marks k got.x got.is))
    by_got (inr (high, none)) =
        not-there d k high
        ∙ ap not (sym (ap (λ (ds : List Sent). is_new_in ds k marks) sent
        ∙ ap (is_new_by marks k) none))

pub picks-old : (old new : WorldValue) (marks : Marks) (k : ℕ) (before now : List (List EndEffects))
    → TakesEvent old new (deliver k) before now → not (is_new_in old.sent k marks) ≡ true
    → PicksOne old new (picks.Old k) marks marks before now
picks-old old new marks k before now takes is = record {
  whole = takes.whole;
  parties = takes.parties;
  run = λ events shows d stands are.
      let turn : Turn = record { event = deliver k; left = d.new } in
      by-turn old new d _ (Some turn) marks before now events
      (old-turn old events d shows stands are)
      (event-turns old new d (after_turn (parties_of old) d turn) turn marks before now events
      takes shows stands tt refl
      (turn-marks (parties_of old) d turn marks (delivered-sent (parties_of old) d.world k) are.new
      are.first are.second));
}
  where
    old-turn : (v : WorldValue) (events : List Event) (d : Crossing) → ShowsRun old events
        → d.world ≡ link_after old events → AreMarks marks d
        → pick_turn d (link_pick (picks.Old k))
        ≡ Some (record { event = deliver k; left = d.new })
    old-turn v events d shows stands are =
        rw (old-there old d events marks k shows stands are ∙ is) refl

pub picks-no_old : (v : WorldValue) (marks : Marks) (k : ℕ) (told : List (List EndEffects))
    → v.spent ≡ false → not (is_new_in v.sent k marks) ≡ false
    → PicksOne v v (picks.Old k) marks marks told told
picks-no_old v marks k told whole is = record {
  whole = whole;
  parties = refl;
  run = λ events shows d stands are.
      by-turn v v d _ None marks told told events
      (rw (old-there v d events marks k shows stands are ∙ is) refl)
      (no-turns v d marks told events shows stands are);
}

-- ---- as the code has it

pub takes-oldest : (old new : WorldValue) (marks marks' : Marks) (end : CodeEnd) (m at : ℕ)
    (before now : List (List EndEffects)) → TakesEvent old new (deliver at) before now
    → m ≡ mark_of marks end → at ≡ next_place end m (drop m old.sent) → at < length old.sent
    → marks' ≡ with_mark marks end (at + 1) → PicksOne old new (pick_of end) marks marks' before now
takes-oldest old new marks marks' end m at before now takes is_m is low is' =
    subst (λ (marks' : Marks). PicksOne old new (pick_of end) marks marks' before now) (sym is')
    (picks-oldest old new marks end at before now takes
    (subst (λ (m : ℕ). at ≡ next_place end m (drop m old.sent)) is_m is) low)

-- the code's second search, and the marks after it
pub record Searched (v : WorldValue) (marks marks1 marks' : Marks) (end peer : CodeEnd)
    (m at m' another : ℕ) : Type 0 where
  pub is_m : m ≡ mark_of marks end
  pub first : at ≡ next_place end m (drop m v.sent)
  pub high : length v.sent ≤ at
  pub is_peer : peer ≡ other_end end
  pub is_m' : m' ≡ mark_of marks peer
  pub second : another ≡ next_place peer m' (drop m' v.sent)
  pub is1 : marks1 ≡ with_mark marks end at
  pub is' : marks' ≡ with_mark marks1 peer another

searched-first : (v : WorldValue) (marks marks1 marks' : Marks) (end peer : CodeEnd)
    (m at m' another : ℕ) → Searched v marks marks1 marks' end peer m at m' another
    → at ≡ next_place end (mark_of marks end) (drop (mark_of marks end) v.sent)
searched-first v marks marks1 marks' end peer m at m' another s =
    subst (λ (m : ℕ). at ≡ next_place end m (drop m v.sent)) s.is_m s.first

searched-second : (v : WorldValue) (marks marks1 marks' : Marks) (end peer : CodeEnd)
    (m at m' another : ℕ) → Searched v marks marks1 marks' end peer m at m' another
    → another ≡ next_place (other_end end) (mark_of marks (other_end end))
    (drop (mark_of marks (other_end end)) v.sent)
searched-second v marks marks1 marks' end peer m at m' another s =
    subst (λ (peer : CodeEnd). another ≡ next_place peer (mark_of marks peer)
    (drop (mark_of marks peer) v.sent)) s.is_peer
    (subst (λ (m : ℕ). another ≡ next_place peer m (drop m v.sent)) s.is_m' s.second)

searched-marks : (v : WorldValue) (marks marks1 marks' : Marks) (end peer : CodeEnd)
    (m at m' another : ℕ) → Searched v marks marks1 marks' end peer m at m' another
    → marks' ≡ with_mark (with_mark marks end at) (other_end end) another
searched-marks v marks marks1 marks' end peer m at m' another s =
    s.is' ∙ ap (λ (marks : Marks). with_mark marks peer another) s.is1
    ∙ ap (λ (peer : CodeEnd). with_mark (with_mark marks end at) peer another) s.is_peer

pub searched-nothing : (v : WorldValue) (marks marks1 marks' : Marks) (end peer : CodeEnd)
    (m at m' another : ℕ) (told : List (List EndEffects)) → v.spent ≡ false
    → Searched v marks marks1 marks' end peer m at m' another → another < length v.sent
    → PicksOne v v (pick_of end) marks marks' told told
searched-nothing v marks marks1 marks' end peer m at m' another told whole s low =
    subst (λ (marks' : Marks). PicksOne v v (pick_of end) marks marks' told told)
    (sym (searched-marks v marks marks1 marks' end peer m at m' another s))
    (picks-nothing v marks end at another told whole
    (searched-first v marks marks1 marks' end peer m at m' another s) s.high
    (searched-second v marks marks1 marks' end peer m at m' another s) low)

pub searched-clock : (old new : WorldValue) (marks marks1 marks' : Marks) (end peer : CodeEnd)
    (m at m' another : ℕ) (before now : List (List EndEffects)) → old.spent ≡ false
    → SetsTo old new before now
    → Searched old marks marks1 marks' end peer m at m' another → length old.sent ≤ another
    → PicksOne old new (pick_of end) marks marks' before now
searched-clock old new marks marks1 marks' end peer m at m' another before now whole sets s above =
    subst (λ (marks' : Marks). PicksOne old new (pick_of end) marks marks' before now)
    (sym (searched-marks old marks marks1 marks' end peer m at m' another s))
    (picks-clock old new marks end at another before now whole sets
    (searched-first old marks marks1 marks' end peer m at m' another s) s.high
    (searched-second old marks marks1 marks' end peer m at m' another s) above)

pub searched-late : (old new : WorldValue) (marks marks1 marks' : Marks) (end peer : CodeEnd)
    (m at m' another : ℕ) (before now : List (List EndEffects)) (refused : DrainRefused)
    → SetsClock old new before now (Err refused)
    → Searched old marks marks1 marks' end peer m at m' another → length old.sent ≤ another
    → PicksAs old new (pick_of end) marks before now (Err refused)
searched-late old new marks marks1 marks' end peer m at m' another before now causes.TooLate late s
    above =
    picks-late old new marks end at another before now late
    (searched-first old marks marks1 marks' end peer m at m' another s) s.high
    (searched-second old marks marks1 marks' end peer m at m' another s) above
searched-late old new marks marks1 marks' end peer m at m' another before now causes.Memory spent s
    above = spent
