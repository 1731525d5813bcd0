-- What a drain with picks did is what the definition says that it does.

use Rattle.std.proofs.Common.{◌≡◌, ℕ, ◌+◌, ◌-◌, ◌≤◌, ◌^◌, Bool, true, false, ◌||◌, List, [], ◌∷◌, ◌++◌, length, Option, None, Some, Result, IfOk, if◌then◌else◌, nat_le, refl, sym, ◌∙◌, ap, arith, subst}
use Rattle.std.proofs.lemmas.Bool.Decides.{nat_tests}
use Rattle.std.proofs.lemmas.List.{append-nil, length-append, length-map, map-append}
use Rattle.std.specs.List.{AllByRecursion, list_any}
use Rattle.std.specs.Option.{option_map}
use Rattle.edge_traits.specs.declared.status.Status.{Status}
use Rattle.edge_traits.specs.declared.status.Status.TheVariants as statuses
use Rattle.command_frame.specs.Lines.{TurnsAs, ends_run}
use Rattle.ltp_session.specs.Engine.{Party}
use Rattle.ltp_session.specs.World.{Event, World, clock, deliver, happens, submit}
use Rattle.ltp_drain.specs.Draining.{since}
use Rattle.ltp_drain.specs.Hopeful.{IsReached}
use Rattle.ltp_drain.specs.Left.{AreTimed}
use Rattle.ltp_picks.specs.Picks.{AreNext, Crossing, IsOver, Pick, Turn, after_pick, after_picks, after_turn, after_turns, as_turns, crosses_at, events_of, is_old, next_turn, old_copy, oldest_of, pick_turn, picked_turns}
use Rattle.ltp_picks.specs.PickedRuns.{run_events}
use Rattle.ltp_picks.proofs.CrossingLemmas.{clock-sent, delivered-sent}
use Rattle.ltp_picks.proofs.CrossingSteps.{IsNewTurn, oldest-turn, sets_to, takes_new}
use Rattle.ltp_world.specs.declared.effects.Drained.{Drained}
use Rattle.ltp_world.specs.declared.effects.EndEffects.{EndEffects}
use Rattle.ltp_world.specs.declared.picks.Pick.{Pick as CodePick}
use Rattle.ltp_world.specs.Drain.{InEveryRun, IsEarly, IsLate, done_in}
use Rattle.ltp_world.specs.Picks.{IsLateTurn, IsMadeUntilLate, PicksAll, PicksUntilLate, late_after, late_pick, link_picks}
use Rattle.ltp_world.specs.Shows.{link_after}
use Rattle.ltp_world.specs.Values.{WorldValue, parties_of}
use Rattle.ltp_world.proofs.DrainLemmas.{length-done, length-sent, link-on}
use Rattle.window_world.specs.Made.{IsBefore, IsOverBy}
use Rattle.window_world.specs.Values.{WindowValue}
use Rattle.link_run.specs.Link.{LinkCourse, LinkSetup, drained, drains_by_picks, if_kept, no_moment, picked_by, picks_late}
use Rattle.link_run.specs.Picks.{EndsTurns, IsOverTurn, is_past, turns_after}
use Rattle.link_run.specs.Shows.{StandsOn}
use Rattle.link_run.specs.WrittenLines.{count_steps, end_line, octets_steps, steps_text}
use Rattle.link_run.proofs.PicksMade.{Goes, goes-after, one-end, turns-made}
use Rattle.link_run.proofs.StepsLemmas.{steps-count}
use Rattle.link_run.proofs.TurnLemmas.{course-is, setup-is}

-- ---- the turns of picks keep what a drain keeps

new-goes : (parties : Party × Party) (d : Crossing) (t : Turn) → Goes parties d → IsNewTurn d t → Goes parties (after_turn parties d t)
new-goes parties d t goes (takes_new from takes) =
    goes-after parties d t goes.reached (λ e among. goes.placed e (takes.others e among))
    (subst (λ (event : Event). (happens parties d.world event).sent
    ≡ d.world.sent ++ since d.world (happens parties d.world event))
    (sym takes.event) (delivered-sent parties d.world takes.first.place))
new-goes parties d t goes (sets_to now none due is) =
    subst (λ (x : Turn). Goes parties (after_turn parties d x)) is
    (goes-after parties d (record { event = clock now; left = [] }) goes.reached (λ e among. absurd among) (clock-sent parties d.world now))

goes-pick : (parties : Party × Party) (d : Crossing) (pick : Pick) → Goes parties d → Goes parties (after_pick parties d (pick_turn d pick))
goes-pick parties d (oldest_of from) goes = by_turn (pick_turn d (oldest_of from)) refl
  where
    by_turn : (o : Option Turn) → pick_turn d (oldest_of from) ≡ o → Goes parties (after_pick parties d o)
    by_turn None is = goes
    by_turn (Some t) is = new-goes parties d t goes (oldest-turn d from t is)
goes-pick parties d (old_copy k) goes = by_test (is_old d k)
  where
    by_test : (b : Bool) → Goes parties (after_pick parties d (if b then Some (record { event = deliver k; left = d.new }) else None))
    by_test true = goes-after parties d (record { event = deliver k; left = d.new }) goes.reached goes.placed (delivered-sent parties d.world k)
    by_test false = goes

pub goes-picks : (parties : Party × Party) (d : Crossing) (picks : List Pick) → Goes parties d → Goes parties (after_picks parties d picks)
unfolding after_picks
goes-picks parties d [] goes = goes
goes-picks parties d (pick ∷ picks) goes = goes-picks parties (after_pick parties d (pick_turn d pick)) picks (goes-pick parties d pick goes)

pub goes-at : (parties : Party × Party) (w : World) (picks : List Pick) → IsReached parties w → Goes parties (after_picks parties (crosses_at w) picks)
goes-at parties w picks reached = goes-picks parties (crosses_at w) picks (record { reached = reached; placed = λ e among. absurd among })

-- ---- early and late

early-none : (events : List Event) → AllByRecursion IsEarly events → list_any (is_past no_moment) events ≡ false
early-none [] all = refl
early-none (submit end block red ∷ events) all = early-none events all.1
early-none (deliver k ∷ events) all = early-none events all.1
early-none (clock now ∷ events) all =
    let low : nat_le (2 ^ 62) now ≡ false = let early = all.0 in grind (arith, nat_tests, early) in
    rw low (early-none events all.1)

early-before : (events : List Event) → AllByRecursion IsEarly events → AllByRecursion (IsBefore no_moment) events
early-before [] all = tt
early-before (submit end block red ∷ events) all = (tt, early-before events all.1)
early-before (deliver k ∷ events) all = (tt, early-before events all.1)
early-before (clock now ∷ events) all = (all.0, early-before events all.1)

all-front : (P : Event → Type 0) (xs ys : List Event) → AllByRecursion P (xs ++ ys) → AllByRecursion P xs
all-front P [] ys all = tt
all-front P (x ∷ xs) ys all = (all.0, all-front P xs ys all.1)

all-rest : (P : Event → Type 0) (xs ys : List Event) → AllByRecursion P (xs ++ ys) → AllByRecursion P ys
all-rest P [] ys all = all
all-rest P (x ∷ xs) ys all = all-rest P xs ys all.1

events-append : (xs ys : List Turn) → events_of (xs ++ ys) ≡ events_of xs ++ events_of ys
events-append xs ys = map-append (λ (t : Turn). t.event) xs ys

is-late : (event : Event) → IsLate (Some event) → is_past no_moment event ≡ true
is-late (submit end block red) late = absurd late
is-late (deliver k) late = absurd late
is-late (clock now) late = grind (arith, nat_tests, late)

or-true : (b : Bool) → (b || true) ≡ true
or-true true = refl
or-true false = refl

-- a pick that would set the clock too late, and picks after it
late-any : (parties : Party × Party) (d : Crossing) (front : List Pick) (pick : Pick) (others : List Pick)
    → IsLateTurn (pick_turn (after_picks parties d front) pick)
    → list_any (is_past no_moment) (events_of (picked_turns parties d (front ++ pick ∷ others))) ≡ true
unfolding picked_turns after_picks
late-any parties d [] pick others late = by_turn (pick_turn d pick) late
  where
    by_turn : (o : Option Turn) → IsLateTurn o
        → list_any (is_past no_moment) (events_of (as_turns o ++ picked_turns parties (after_pick parties d o) others)) ≡ true
    by_turn None late = absurd late
    by_turn (Some t) late = rw (is-late t.event late) refl
late-any parties d (p ∷ front) pick others late =
    by_turn (pick_turn d p) (late-any parties (after_pick parties d (pick_turn d p)) front pick others late)
  where
    by_turn : (o : Option Turn) → list_any (is_past no_moment) (events_of (picked_turns parties (after_pick parties d o) (front ++ pick ∷ others))) ≡ true
        → list_any (is_past no_moment) (events_of (as_turns o ++ picked_turns parties (after_pick parties d o) (front ++ pick ∷ others))) ≡ true
    by_turn None rest = rest
    by_turn (Some t) rest = rw rest (or-true (is_past no_moment t.event))

over-none : (d : Crossing) → IsOver d → next_turn d.world d.new ≡ None
over-none d over =
    ap (next_turn d.world) over.none_new ∙ ap (λ (o : Option ℕ). option_map (λ now. record { event = clock now; left = [] }) o) over.no_timer

late-over : (o : Option Turn) → IsLateTurn o → IsOverTurn no_moment o
late-over None late = absurd late
late-over (Some t) late = by_event t.event late
  where
    by_event : (event : Event) → IsLate (Some event) → IsOverBy no_moment (Some event)
    by_event (submit end block red) late = absurd late
    by_event (deliver k) late = absurd late
    by_event (clock now) late = late

-- ---- by the events that were made

-- what tells of a drain
abbrev pub TellsPicked : (E : Type 0) → ℕ → ℕ → Drained → Result (Option Status) E → List ℕ → List ℕ → Type 0
TellsPicked E octets sent done result before now =
    count_steps done.effects ≤ sent
    → IfOk result (TurnsAs (λ x. x ≡ drained) (if_kept (octets + octets_steps done.effects)
    (steps_text (sent - count_steps done.effects) done.effects ++ end_line done.events) drained) before now)

module _ (v : WindowValue) (octets : ℕ) (s : LinkSetup) (c : LinkCourse) (stands : StandsOn v octets s c) (picks : List Pick) where
  abbrev parties : Party × Party
  parties = parties_of v.link

  abbrev world : World
  world = link_after v.link stands.events

  abbrev setup : LinkSetup
  setup = record { parties = parties_of v.link; windows = s.windows; plan = v.plan }

  abbrev course : LinkCourse
  course = record { world = link_after v.link stands.events; moment = v.moment; octets = octets }

  here : drains_by_picks setup course picks ≡ drains_by_picks s c picks
  here = ap (λ x. drains_by_picks x course picks) (setup-is v octets s c stands) ∙ ap (λ x. drains_by_picks s x picks) (course-is v octets s c stands)

  timed : AreTimed (parties_of v.link)
  timed = subst AreTimed stands.parties stands.timed

  rest-is : (rest : List Turn) → EndsTurns no_moment (parties_of v.link) (after_picks (parties_of v.link) (crosses_at (link_after v.link stands.events)) picks) rest
      → rest ≡ turns_after no_moment (parties_of v.link) (after_picks (parties_of v.link) (crosses_at (link_after v.link stands.events)) picks)
  rest-is rest ends =
      one-end no_moment parties (after_picks parties (crosses_at world) picks) rest (turns_after no_moment parties (after_picks parties (crosses_at world) picks)) ends
      (turns-made no_moment parties (after_picks parties (crosses_at world) picks) timed
      (goes-at parties world picks (record { events = stands.events; leads = refl })))

  -- where no pick is too late
  by_rest : (rest : List Turn) → rest ≡ turns_after no_moment (parties_of v.link) (after_picks (parties_of v.link) (crosses_at (link_after v.link stands.events)) picks)
      → picks_late setup course picks ≡ false
      → (o : Option Turn) → next_turn (after_turns (parties_of v.link) (after_picks (parties_of v.link) (crosses_at (link_after v.link stands.events)) picks) rest).world
      (after_turns (parties_of v.link) (after_picks (parties_of v.link) (crosses_at (link_after v.link stands.events)) picks) rest).new ≡ o
      → drains_by_picks setup course picks
      ≡ picked_by course (done_in (parties_of v.link) (link_after v.link stands.events) (run_events (parties_of v.link) (link_after v.link stands.events) picks rest)) o
  by_rest rest is early o next =
      subst (λ (ts : List Turn). next_turn (after_turns parties (after_picks parties (crosses_at world) picks) ts).world
      (after_turns parties (after_picks parties (crosses_at world) picks) ts).new ≡ o
      → drains_by_picks setup course picks ≡ picked_by course (done_in parties world (run_events parties world picks ts)) o) (sym is)
      (λ there. rw (early, there) refl) next

  late-not : (rest : List Turn) → AllByRecursion IsEarly (run_events (parties_of v.link) (link_after v.link stands.events) picks rest) → picks_late setup course picks ≡ false
  late-not rest early =
      early-none (events_of (picked_turns parties (crosses_at world) picks))
      (all-front IsEarly (events_of (picked_turns parties (crosses_at world) picks)) (events_of rest)
      (subst (AllByRecursion IsEarly) (events-append (picked_turns parties (crosses_at world) picks) rest) early))

  before-rest : (rest : List Turn) → AllByRecursion IsEarly (run_events (parties_of v.link) (link_after v.link stands.events) picks rest) → AllByRecursion (IsBefore no_moment) (events_of rest)
  before-rest rest early =
      early-before (events_of rest)
      (all-rest IsEarly (events_of (picked_turns parties (crosses_at world) picks)) (events_of rest)
      (subst (AllByRecursion IsEarly) (events-append (picked_turns parties (crosses_at world) picks) rest) early))

  module _ (v' : WorldValue) (code : List CodePick) (said : link_picks code ≡ picks) where
    module _ (done : Drained) (does : InEveryRun (PicksAll v.link v' code done) v.link v') where
      all : PicksAll v.link v' code done stands.events
      all = does.run stands.events stands.shows

      abbrev rest : List Turn
      rest = (does.run stands.events stands.shows).run.rest

      early : AllByRecursion IsEarly (run_events (parties_of v.link) (link_after v.link stands.events) picks (does.run stands.events stands.shows).run.rest)
      early = subst (λ ps. AllByRecursion IsEarly (run_events parties world ps rest)) said (does.run stands.events stands.shows).early

      none : next_turn (after_turns (parties_of v.link) (after_picks (parties_of v.link) (crosses_at (link_after v.link stands.events)) picks) (does.run stands.events stands.shows).run.rest).world
          (after_turns (parties_of v.link) (after_picks (parties_of v.link) (crosses_at (link_after v.link stands.events)) picks) (does.run stands.events stands.shows).run.rest).new ≡ None
      none = over-none (after_turns parties (after_picks parties (crosses_at world) picks) rest)
          (subst (λ ps. IsOver (after_turns parties (after_picks parties (crosses_at world) ps) rest)) said (does.run stands.events stands.shows).run.over)

      ends : EndsTurns no_moment (parties_of v.link) (after_picks (parties_of v.link) (crosses_at (link_after v.link stands.events)) picks) (does.run stands.events stands.shows).run.rest
      ends = record {
        next = subst (λ ps. AreNext parties (after_picks parties (crosses_at world) ps) rest) said (does.run stands.events stands.shows).run.goes_on;
        early = before-rest rest early;
        over = subst (IsOverTurn no_moment) (sym none) tt;
      }

      told : done.effects ≡ done_in (parties_of v.link) (link_after v.link stands.events) (run_events (parties_of v.link) (link_after v.link stands.events) picks (does.run stands.events stands.shows).run.rest)
      told = (does.run stands.events stands.shows).told ∙ ap (λ ps. done_in parties world (run_events parties world ps rest)) said

      events-are : done.events ≡ length done.effects
      events-are =
          sym (does.run stands.events stands.shows).run.count
          ∙ (sym (length-append (picked_turns parties (crosses_at world) (link_picks code)) rest)
          ∙ (sym (length-map (picked_turns parties (crosses_at world) (link_picks code) ++ rest) (λ (t : Turn). t.event))
          ∙ (sym (length-done parties world (run_events parties world (link_picks code) rest))
          ∙ ap (λ es. length es) (sym (does.run stands.events stands.shows).told))))

      counts : length v'.sent ≡ length (link_after v.link stands.events).sent + count_steps done.effects
      counts =
          length-sent v' (link_after v' (stands.events ++ run_events parties world (link_picks code) rest)) (does.run stands.events stands.shows).shows.link
          ∙ (ap (λ (l : World). length l.sent) (link-on v.link v' stands.events (run_events parties world (link_picks code) rest) does.parties)
          ∙ (steps-count parties world (run_events parties world (link_picks code) rest)
          ∙ ap (λ es. length world.sent + count_steps es) (sym (does.run stands.events stands.shows).told)))

      turn-is : drains_by_picks setup course picks ≡ if_kept (octets + octets_steps done.effects) (steps_text (length (link_after v.link stands.events).sent) done.effects ++ end_line done.events) drained
      turn-is =
          by_rest rest (rest-is rest ends) (late-not rest early) None none
          ∙ (ap (λ es. picked_by course es None) (sym told)
          ∙ ap (λ n. if_kept (octets + octets_steps done.effects) (steps_text (length world.sent) done.effects ++ end_line n) drained) (sym events-are))

      pub picked_turn : (E : Type 0) (result : Result (Option Status) E) (before now : List ℕ) → TellsPicked E octets (length v'.sent) done result before now
          → IfOk result (TurnsAs (λ x. x ≡ drained) (drains_by_picks s c picks) before now)
      picked_turn E result before now tells =
          let few : count_steps done.effects ≤ length v'.sent = let is = counts in omega (arith, is) in
          let left : length v'.sent - count_steps done.effects ≡ length (link_after v.link stands.events).sent = let is = counts in omega (arith, is) in
          subst (λ turn. IfOk result (TurnsAs (λ x. x ≡ drained) turn before now)) (sym turn-is ∙ here)
          (subst (λ n. IfOk result (TurnsAs (λ x. x ≡ drained) (if_kept (octets + octets_steps done.effects) (steps_text n done.effects ++ end_line done.events) drained) before now)) left (tells few))

    -- ---- too late

    limit-by : (o : Option Turn) → IsLateTurn o → (steps : List (List EndEffects)) → picked_by course steps o ≡ ends_run [] statuses.Limit
    limit-by None late steps = absurd late
    limit-by (Some t) late steps = refl

    late-is : (made : List Event) → AllByRecursion IsEarly made → IsMadeUntilLate (parties_of v.link) (link_after v.link stands.events) picks made
        → drains_by_picks setup course picks ≡ ends_run [] statuses.Limit
    late-is made early (late_pick front pick others are made_is late) =
        let is : picks_late setup course picks ≡ true = ap (λ ps. picks_late setup course ps) are ∙ late-any parties (crosses_at world) front pick others late in
        rw is refl
    late-is made early (late_after rest d next made_is d_is late) =
        let calm : AllByRecursion IsEarly (run_events parties world picks rest) = subst (AllByRecursion IsEarly) made_is early in
        let last : IsLateTurn (next_turn (after_turns parties (after_picks parties (crosses_at world) picks) rest).world
        (after_turns parties (after_picks parties (crosses_at world) picks) rest).new) = subst (λ (x : Crossing). IsLateTurn (next_turn x.world x.new)) d_is late in
        by_rest rest (rest-is rest (record { next = next; early = before-rest rest calm; over = late-over _ last })) (late-not rest calm)
        (next_turn (after_turns parties (after_picks parties (crosses_at world) picks) rest).world (after_turns parties (after_picks parties (crosses_at world) picks) rest).new) refl
        ∙ limit-by _ last _

    pub late_turn : (before : List ℕ) → InEveryRun (PicksUntilLate v.link v' code) v.link v'
        → TurnsAs (λ x. x ≡ drained) (drains_by_picks s c picks) before before (Some statuses.Limit)
    late_turn before does =
        subst (λ turn. TurnsAs (λ x. x ≡ drained) turn before before (Some statuses.Limit))
        (sym (late-is (does.run stands.events stands.shows).made (does.run stands.events stands.shows).early
        (subst (λ ps. IsMadeUntilLate parties world ps (does.run stands.events stands.shows).made) said (does.run stands.events stands.shows).until)) ∙ here)
        (sym (append-nil before), refl)
