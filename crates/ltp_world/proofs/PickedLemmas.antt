-- A drain with picks, from its picks to its end.

use Rattle.std.proofs.Common.{◌≡◌, ℕ, zero, suc, ◌+◌, ◌<◌, ◌≤◌, Bool, true, false, List, []}
use Rattle.std.proofs.Common.{◌∷◌, ◌++◌, length, drop, take, get_or, Option, None, Some}
use Rattle.std.proofs.Common.{refl, sym, ◌∙◌, ap, arith, subst, nat_lt, if◌then◌else◌}
use Rattle.std.proofs.lemmas.Bool.{ltb-false, ltb-true}
use Rattle.std.specs.List.{AllByRecursion}
use Rattle.std.specs.Option.{option_map}
use Rattle.std.proofs.lemmas.List.{append-nil, append_assoc, drop_more, length-append, map-append}
use Rattle.std.proofs.lemmas.List.{take-append-drop, take_more}
use Rattle.ltp_session.specs.Engine.{Party}
use Rattle.ltp_session.specs.World.{End, Event, World, at_end, clock, deliver, first_end, happens}
use Rattle.ltp_session.specs.World.{run, second_end}
use Rattle.ltp_session.specs.World.{Sent as LinkSent}
use Rattle.ltp_laws.proofs.ListLemmas.{all-append}
use Rattle.ltp_drain.specs.Clean.{AreClean, clean_event, link_deadline, passed, passed_after}
use Rattle.ltp_drain.specs.Draining.{since}
use Rattle.ltp_drain.proofs.CleanSteps.{taken}
use Rattle.ltp_picks.specs.Picks.{AreNext, Crossing, Turn, after_pick, after_picks}
use Rattle.ltp_picks.specs.Picks.{after_turn, after_turns, as_turns, crosses_at, events_of}
use Rattle.ltp_picks.specs.Picks.{next_turn, pick_turn, picked_turns, placed_from}
use Rattle.ltp_picks.specs.Picks.{Pick as LinkPick}
use Rattle.ltp_picks.proofs.CrossingLemmas.{clock-sent, delivered-sent}
use Rattle.ltp_world.specs.declared.effects.EndEffects.{EndEffects}
use Rattle.ltp_world.specs.declared.picks.Marks.{Marks}
use Rattle.ltp_world.specs.declared.picks.Pick.{Pick}
use Rattle.ltp_world.specs.Clean.{LeadsIn, LeadsOn}
use Rattle.ltp_world.specs.Drain.{IsEarly, done_in}
use Rattle.ltp_world.specs.Marks.{AreLeft, AreWithin, PicksFront, PicksOne}
use Rattle.ltp_world.specs.Marks.{RestIn, RestTo, TurnsTo, marks_at, new_from}
use Rattle.ltp_world.specs.Picks.{link_pick}
use Rattle.ltp_world.specs.Picks.{link_picks}
use Rattle.ltp_world.specs.Shows.{ShowsRun, link_after}
use Rattle.ltp_world.specs.Values.{WorldValue, parties_of}
use Rattle.ltp_world.proofs.DrainLemmas.{done-append, length-sent}
use Rattle.ltp_world.proofs.DrainLemmas.{link-on}
use Rattle.ltp_world.proofs.MarkLemmas.{all-new, low-le, new-take, none-new}
use Rattle.ltp_world.proofs.PickLemmas.{each-within}
use Rattle.ltp_world.proofs.RestLemmas.{events-append, left-after, nothing-left}
use Rattle.ltp_world.proofs.RestLemmas.{turns-world}

-- ---- picks after picks

after-append : (parties : Party × Party) (d : Crossing) (xs : List LinkPick) (p : LinkPick)
    → after_picks parties d (xs ++ p ∷ [])
    ≡ after_pick parties (after_picks parties d xs) (pick_turn (after_picks parties d xs) p)
unfolding after_picks
after-append parties d [] p = refl
after-append parties d (x ∷ xs) p =
    after-append parties (after_pick parties d (pick_turn d x)) xs p

picked-append : (parties : Party × Party) (d : Crossing) (xs : List LinkPick) (p : LinkPick)
    → picked_turns parties d (xs ++ p ∷ [])
    ≡ picked_turns parties d xs ++ as_turns (pick_turn (after_picks parties d xs) p)
unfolding picked_turns after_picks
picked-append parties d [] p = append-nil (as_turns (pick_turn d p))
picked-append parties d (x ∷ xs) p =
    ap (λ (ts : List Turn). as_turns (pick_turn d x) ++ ts)
    (picked-append parties (after_pick parties d (pick_turn d x)) xs p)
    ∙ sym (append_assoc (as_turns (pick_turn d x)) _ _)

-- turns of one list, and of another after it
both-turns : (u v w : WorldValue) (events : List Event) (d d' : Crossing) (marks marks' : Marks)
    (ys zs : List (List EndEffects)) (xs more : List Turn) → parties_of v ≡ parties_of u
    → TurnsTo (parties_of u) (crosses_at (link_after u events)) d v marks [] ys xs events
    → TurnsTo (parties_of u) d d' w marks' ys zs more (events ++ events_of xs)
    → TurnsTo (parties_of u) (crosses_at (link_after u events)) d' w marks' [] zs (xs ++ more)
    events
both-turns u v w events d d' marks marks' ys zs xs more same a b = record {
  early = subst (AllByRecursion IsEarly) (sym (events-append xs more))
      (all-append IsEarly (events_of xs) (events_of more) a.early b.early);
  told = b.told
      ∙ ap (λ (ys : List (List EndEffects)). ys ++ done_in (parties_of u) d.world (events_of more))
      a.told
      ∙ ap (λ (w : World). done_in (parties_of u) (link_after u events) (events_of xs)
      ++ done_in (parties_of u) w (events_of more))
      (a.stands ∙ link-on u v events (events_of xs) same)
      ∙ sym (done-append (parties_of u) (link_after u events) (events_of xs) (events_of more))
      ∙ ap (done_in (parties_of u) (link_after u events)) (sym (events-append xs more));
  shows = subst (ShowsRun w) all b.shows;
  marks = b.marks;
  stands = b.stands ∙ ap (link_after w) all;
}
  where
    all : (events ++ events_of xs) ++ events_of more ≡ events ++ events_of (xs ++ more)
    all = append_assoc events (events_of xs) (events_of more)
        ∙ ap (λ (es : List Event). events ++ es) (sym (events-append xs more))

pub front-none : (v : WorldValue) (marks : Marks) (told : List (List EndEffects))
    → v.spent ≡ false → marks.first ≡ length v.sent → marks.second ≡ length v.sent → told ≡ []
    → PicksFront v v [] marks told
unfolding done_in after_picks picked_turns
front-none v marks told whole first second none = record {
  whole = whole;
  parties = refl;
  run = λ events shows.
      let size = length-sent v (link_after v events) shows.link in
      record {
        early = tt;
        told = none;
        shows = subst (ShowsRun v) (sym (append-nil events)) shows;
        marks = record {
          new = sym (none-new 0 (marks_at marks) (link_after v events).sent (high events size));
          first = omega (arith, first, size);
          second = omega (arith, second, size);
        };
        stands = ap (link_after v) (sym (append-nil events));
      };
}
  where
    high : (events : List Event) → length v.sent ≡ length (link_after v events).sent → (o : End)
        → 0 + length (link_after v events).sent ≤ at_end (marks_at marks) o
    high events size first_end = omega (arith, first, size)
    high events size second_end = omega (arith, second, size)

pub front-more : (u v w : WorldValue) (picked : List LinkPick) (pick : Pick) (marks marks' : Marks)
    (ys zs : List (List EndEffects)) → PicksFront u v picked marks ys
    → PicksOne v w pick marks marks' ys zs
    → PicksFront u w (picked ++ link_pick pick ∷ []) marks' zs
front-more u v w picked pick marks marks' ys zs front one = record {
  whole = one.whole;
  parties = one.parties ∙ front.parties;
  run = λ events shows.
      let before = front.run events shows in
      join events before (subst (λ (ps : Party × Party). TurnsTo ps (at-front events)
      (after_pick ps (at-front events) (pick_turn (at-front events) (link_pick pick))) w marks' ys
      zs (as_turns (pick_turn (at-front events) (link_pick pick)))
      (events ++ events_of (turns-front events))) front.parties
      (one.run (events ++ events_of (turns-front events)) before.shows (at-front events)
      before.stands before.marks));
}
  where
    at-front : List Event → Crossing
    at-front events = after_picks (parties_of u) (crosses_at (link_after u events)) picked

    turns-front : List Event → List Turn
    turns-front events = picked_turns (parties_of u) (crosses_at (link_after u events)) picked

    join : (events : List Event)
        → TurnsTo (parties_of u) (crosses_at (link_after u events)) (at-front events) v marks [] ys
        (turns-front events) events
        → TurnsTo (parties_of u) (at-front events) (after_pick (parties_of u) (at-front events)
        (pick_turn (at-front events) (link_pick pick))) w marks' ys zs
        (as_turns (pick_turn (at-front events) (link_pick pick)))
        (events ++ events_of (turns-front events))
        → TurnsTo (parties_of u) (crosses_at (link_after u events))
        (after_picks (parties_of u) (crosses_at (link_after u events))
        (picked ++ link_pick pick ∷ [])) w marks' [] zs
        (picked_turns (parties_of u) (crosses_at (link_after u events))
        (picked ++ link_pick pick ∷ [])) events
    join events a b = subst (λ (ts : List Turn). TurnsTo (parties_of u)
        (crosses_at (link_after u events)) (after_picks (parties_of u)
        (crosses_at (link_after u events)) (picked ++ link_pick pick ∷ [])) w marks' [] zs ts events)
        (sym (picked-append (parties_of u) (crosses_at (link_after u events)) picked
        (link_pick pick)))
        (subst (λ (d : Crossing). TurnsTo (parties_of u) (crosses_at (link_after u events)) d w
        marks' [] zs (turns-front events
        ++ as_turns (pick_turn (at-front events) (link_pick pick))) events)
        (sym (after-append (parties_of u) (crosses_at (link_after u events)) picked
        (link_pick pick)))
        (both-turns u v w events (at-front events) _ marks marks' ys zs (turns-front events)
        (as_turns (pick_turn (at-front events) (link_pick pick))) front.parties a b))

-- ---- after the picks

pub record CleanTurns (parties : Party × Party) (d : Crossing) (c : ℕ) (marks : Marks)
    (events : List Event) : Type 0 where
  pub turns : List Turn
  pub are : AreNext parties d turns
  pub same : events_of turns ≡ events
  pub left : AreLeft (passed c events) marks (after_turns parties d turns)

record CleanTurn (parties : Party × Party) (d : Crossing) (c : ℕ) (marks : Marks) (event : Event)
    : Type 0 where
  turn : Turn
  is : next_turn d.world d.new ≡ Some turn
  same : turn.event ≡ event
  left : AreLeft (passed_after c event) marks (after_turn parties d turn)
  within : passed_after c event ≤ length (after_turn parties d turn).world.sent
  low : c ≤ passed_after c event

abbrev clock-turn : ℕ → Turn
clock-turn now = record { event = clock now; left = [] }

suc-plus : (k : ℕ) → suc k ≡ k + 1
suc-plus k = omega arith

drop-over : {X : Type 0} (k : ℕ) (xs ys : List X) → k ≡ length xs → drop k (xs ++ ys) ≡ ys
drop-over zero [] ys is = refl
drop-over zero (x ∷ xs) ys is = absurd (omega (arith, is))
drop-over (suc k) [] ys is = absurd (omega (arith, is))
drop-over (suc k) (x ∷ xs) ys is = drop-over k xs ys (omega (arith, is))

more-sent : (xs ys zs : List LinkSent) → zs ≡ xs ++ ys → length xs ≤ length zs
more-sent xs ys zs is = let both = length-append xs ys in omega (arith, ap length is, both)

clean-turn : (parties : Party × Party) (d : Crossing) (c : ℕ) (marks : Marks) (event : Event)
    → marks.first ≤ c → marks.second ≤ c → c ≤ length d.world.sent → AreLeft c marks d
    → clean_event d.world c ≡ Some event → CleanTurn parties d c marks event
unfolding new_from
clean-turn parties d c marks event first second within left clean =
    by_test (nat_lt c (length d.world.sent)) refl clean
  where
    Goal : Event → Type 0
    Goal event = CleanTurn parties d c marks event

    by_delivery : c < length d.world.sent → Goal (deliver c)
    by_delivery low =
        let t = taken d.world.sent c low in
        let turn : Turn = record {
          event = deliver c;
          left = new_from (c + 1) (marks_at marks) (drop (c + 1) d.world.sent);
        } in
        record {
          turn = turn;
          is = ap (next_turn d.world) (left ∙ ap (new_from c (marks_at marks)) t.rest
              ∙ new-take c (marks_at marks) t.x (drop (suc c) d.world.sent)
              (low-le (at_end (marks_at marks) t.x.from) c (each-within marks c first second t.x.from))
              ∙ ap (λ (j : ℕ). record { place = c; sent = t.x }
              ∷ new_from (c + 1) (marks_at marks) (drop j d.world.sent)) (suc-plus c));
          same = refl;
          left = left-after parties d c marks turn (delivered-sent parties d.world c) refl low
              (omega (arith, first, within)) (omega (arith, second, within));
          within = omega (arith, low, more-sent d.world.sent _ _ (delivered-sent parties d.world c));
          low = omega arith;
        }

    by_clock : (now : ℕ) → length d.world.sent ≤ c → link_deadline d.world ≡ Some now
        → Goal (clock now)
    by_clock now over is =
        let none : d.new ≡ [] = nothing-left marks d c left over in
        let turn : Turn = record { event = clock now; left = [] } in
        let adds = clock-sent parties d.world now in
        let added : List LinkSent = since d.world (happens parties d.world (clock now)) in
        record {
          turn = turn;
          is = ap (next_turn d.world) none
              ∙ ap (option_map (λ (now : ℕ). clock-turn now)) is;
          same = refl;
          left = ap (λ (k : ℕ). placed_from k added) (omega (arith, within, over))
              ∙ sym (all-new c (marks_at marks) added (each-within marks c first second))
              ∙ ap (new_from c (marks_at marks)) (sym (ap (drop c) adds
              ∙ drop-over c d.world.sent added (omega (arith, within, over))));
          within = omega (arith, within, more-sent d.world.sent added _ adds);
          low = omega arith;
        }

    by_deadline : (x : Option ℕ) → link_deadline d.world ≡ x → length d.world.sent ≤ c
        → option_map clock x ≡ Some event → Goal event
    by_deadline None is over clean = absurd (cc)
    by_deadline (Some now) is over clean =
        let one : clock now ≡ event = cc in subst Goal one (by_clock now over is)

    by_test : (b : Bool) → nat_lt c (length d.world.sent) ≡ b
        → (if b then Some (deliver c) else option_map clock (link_deadline d.world)) ≡ Some event
        → Goal event
    by_test true is clean =
        let one : deliver c ≡ event = cc in
        subst Goal one (by_delivery (ltb-true c (length d.world.sent) is))
    by_test false is clean =
        by_deadline (link_deadline d.world) refl (ltb-false c (length d.world.sent) is) clean

clean-turns : (parties : Party × Party) (marks : Marks) (events : List Event) (d : Crossing)
    (c : ℕ) → marks.first ≤ c → marks.second ≤ c → c ≤ length d.world.sent → AreLeft c marks d
    → AreClean parties d.world c events → CleanTurns parties d c marks events
unfolding after_turns
clean-turns parties marks [] d c first second within left clean =
    record { turns = []; are = tt; same = refl; left = left }
clean-turns parties marks (event ∷ events) d c first second within left clean =
    let one = clean-turn parties d c marks event first second within left clean.0 in
    let rest = clean-turns parties marks events (after_turn parties d one.turn)
    (passed_after c event) (omega (arith, first, one.low)) (omega (arith, second, one.low))
    one.within one.left
    (subst (λ (w : World). AreClean parties w (passed_after c event) events)
    (ap (happens parties d.world) (sym one.same)) clean.1) in
    record {
      turns = one.turn ∷ rest.turns;
      are = (one.is, rest.are);
      same = ap (λ (e : Event). e ∷ events_of rest.turns) one.same
          ∙ ap (λ (es : List Event). event ∷ es) rest.same;
      left = rest.left;
    }

-- the drain goes on by itself
pub clean-rest : (old new : WorldValue) (from : ℕ) (marks : Marks)
    (before now : List (List EndEffects)) → LeadsOn old new from (length new.sent) before now
    → from ≡ length old.sent → AreWithin marks old
    → RestTo old new (length old.sent) (length new.sent) marks before now
clean-rest old new from marks before now leads is within = record {
  whole = leads.whole;
  parties = leads.parties;
  run = λ events shows d stands left. by_run events shows d stands left
      (leads.run events shows);
}
  where
    by_run : (events : List Event) → ShowsRun old events → (d : Crossing)
        → d.world ≡ link_after old events → AreLeft (length old.sent) marks d
        → LeadsIn (parties_of old) (link_after old events) new from (length new.sent) before now
        events
        → RestIn (parties_of old) d new (length new.sent) marks before now events
    by_run events shows d stands left on =
        let size = length-sent old (link_after old events) shows.link in
        let same_size = ap (λ (w : World). length w.sent) stands in
        let all = clean-turns (parties_of old) marks on.made d (length old.sent) within.0 within.1
        (omega (arith, size, same_size)) left
        (subst (λ (c : ℕ). AreClean (parties_of old) d.world c on.made) is
        (subst (λ (w : World). AreClean (parties_of old) w from on.made) (sym stands) on.clean)) in
        record {
          turns = all.turns;
          next = all.are;
          early = subst (AllByRecursion IsEarly) (sym all.same) on.early;
          told = on.told ∙ ap (λ (w : World). before ++ done_in (parties_of old) w on.made)
              (sym stands)
              ∙ ap (λ (es : List Event). before ++ done_in (parties_of old) d.world es)
              (sym all.same);
          shows = subst (λ (es : List Event). ShowsRun new (events ++ es)) (sym all.same) on.shows;
          left = subst (λ (k : ℕ). AreLeft k marks (after_turns (parties_of old) d all.turns))
              (ap (λ (c : ℕ). passed c on.made) (sym is) ∙ on.reaches) all.left;
          stands = turns-world (parties_of old) d all.turns
              ∙ ap (run (parties_of old) d.world) all.same
              ∙ ap (λ (w : World). run (parties_of old) w on.made) stands
              ∙ sym (link-on old new events on.made leads.parties)
              ∙ ap (λ (es : List Event). link_after new (events ++ es)) (sym all.same);
        }

-- ---- the picks, one after the other

pub front-step : (u v w : WorldValue) (picks : List Pick) (i : ℕ) (d pick : Pick)
    (marks marks' : Marks) (ys zs : List (List EndEffects)) → i < length picks
    → pick ≡ get_or picks i d → PicksFront u v (link_picks (take i picks)) marks ys
    → PicksOne v w pick marks marks' ys zs
    → PicksFront u w (link_picks (take (i + 1) picks)) marks' zs
front-step u v w picks i d pick marks marks' ys zs low is front one =
    subst (λ (picked : List LinkPick). PicksFront u w picked marks' zs)
    (sym (map-append link_pick (take i picks) (pick ∷ []))
    ∙ ap link_picks (ap (λ (p : Pick). take i picks ++ p ∷ []) is ∙ sym (take_more picks i d low)))
    (front-more u v w (link_picks (take i picks)) pick marks marks' ys zs front one)

pub picks-apart : (picks : List Pick) (i : ℕ) (d pick : Pick) → i < length picks
    → pick ≡ get_or picks i d → picks ≡ take i picks ++ pick ∷ drop (i + 1) picks
picks-apart picks i d pick low is =
    sym (take-append-drop i picks)
    ∙ ap (λ (ps : List Pick). take i picks ++ ps) (drop_more picks i d low
    ∙ ap (λ (p : Pick). p ∷ drop (i + 1) picks) (sym is))

pub all-taken : (picks : List Pick) (i : ℕ) → length picks ≤ i → take i picks ≡ picks
all-taken [] zero low = refl
all-taken [] (suc i) low = refl
all-taken (p ∷ picks) zero low = absurd (omega (arith, low))
all-taken (p ∷ picks) (suc i) low =
    ap (λ (ps : List Pick). p ∷ ps) (all-taken picks i (omega (arith, low)))
