-- A drain with picks from a hopeful world with room: its events, its end, and that there is one.

use Rattle.std.proofs.Common.{◌≡◌, ℕ, zero, suc, ◌+◌, ◌≤◌, false, List, [], ◌∷◌, ◌++◌, length}
use Rattle.std.proofs.Common.{Option, None, Some, ◌⊎◌, inl, inr, refl, ◌∙◌, arith, subst}
use Rattle.std.specs.Option.{option_map}
use Rattle.ltp_segment.specs.declared.session.Note.TheVariants as notes
use Rattle.ltp_session.specs.Engine.{Party}
use Rattle.ltp_session.specs.Receiver.{Receiving, is_cancelling}
use Rattle.ltp_session.specs.World.{ArePeers, End, Event, Sent, World, at_end, clock, other}
use Rattle.ltp_laws.specs.Facts.{SessionFacts}
use Rattle.ltp_laws.specs.View.{said, view}
use Rattle.ltp_drain.specs.Clean.{link_deadline}
use Rattle.ltp_drain.specs.Completion.{IsComplete, IsReady}
use Rattle.ltp_drain.specs.Effects.{IsHandedUp, IsNoted, effects_at, effects_in}
use Rattle.ltp_drain.specs.Hopeful.{AreAlike, IsHanded, IsKeptSender, cost}
use Rattle.ltp_drain.specs.Standing.{AllAdvance, DrainHolds, setting, sum_of}
use Rattle.ltp_drain.proofs.CleanSteps.{idle-link, idle-senders}
use Rattle.ltp_drain.proofs.CompletionLemmas.{first_rank, starts, starts-low, advances-on}
use Rattle.ltp_drain.proofs.DrainFrame.{Begun, is-begun, never_begun, was_begun}
use Rattle.ltp_drain.proofs.DrainRun.{all-still}
use Rattle.ltp_picks.specs.Picks.{AreNext, Crossing, IsOver, Pick, Placed, Turn, after_pick}
use Rattle.ltp_picks.specs.Picks.{after_picks, after_turn, after_turns, as_turns}
use Rattle.ltp_picks.specs.Picks.{crosses_at, events_of, next_turn, old_copy, oldest_of}
use Rattle.ltp_picks.specs.Picks.{oldest_turn, or_clock, pick_turn, picked_turns}
use Rattle.ltp_picks.specs.PickedRuns.{HasPickedRun, PickedRun, PicksNew, run_events}
use Rattle.ltp_picks.proofs.CrossingLemmas.{sent_of}
use Rattle.ltp_picks.proofs.CrossingSteps.{Crosses, CrossesOn, next-turn, oldest-turn}
use Rattle.ltp_picks.proofs.CrossingSteps.{turn-goes}

-- ---- turns, one after the other

-- from one place of a drain turns lead to another
pub record RunsTo (parties : Party × Party) (d : Crossing) (rank : End → ℕ → ℕ)
    (turns : List Turn) (d' : Crossing) : Type 0 where
  pub rank' : End → ℕ → ℕ
  pub crosses : Crosses parties d' rank'
  pub bound : length turns + sum_of d'.world rank' ≤ sum_of d.world rank
  pub advances :
      AllAdvance parties d.world d'.world (effects_in parties d.world (events_of turns))
  pub next : (o : End) → (at_end d'.world.engines o).next ≡ (at_end d.world.engines o).next

no-turns : (parties : Party × Party) (d : Crossing) (rank : End → ℕ → ℕ)
    → Crosses parties d rank → RunsTo parties d rank [] d
unfolding effects_in
no-turns parties d rank crosses = record {
  rank' = rank;
  crosses = crosses;
  bound = omega arith;
  advances = all-still parties d.world [];
  next = λ o. refl;
}

one-turn : (parties : Party × Party) (d : Crossing) (rank : End → ℕ → ℕ) (t : Turn)
    (turns : List Turn) (d' : Crossing) (on : CrossesOn parties d rank t)
    → RunsTo parties (after_turn parties d t) on.rank' turns d'
    → RunsTo parties d rank (t ∷ turns) d'
unfolding effects_in
one-turn parties d rank t turns d' on rest = record {
  rank' = rest.rank';
  crosses = rest.crosses;
  bound = omega (arith, rest.bound, on.falls);
  advances = advances-on parties d.world (after_turn parties d t).world d'.world
      (effects_at parties d.world t.event)
      (effects_in parties (after_turn parties d t).world (events_of turns))
      on.advances rest.advances;
  next = λ o. rest.next o ∙ on.next o;
}

-- ---- after the picks, and the picks before

rest-runs : (parties : Party × Party) → ArePeers parties → AreAlike parties
    → (turns : List Turn) (d : Crossing) (rank : End → ℕ → ℕ) → AreNext parties d turns
    → Crosses parties d rank
    → RunsTo parties d rank turns (after_turns parties d turns)
unfolding after_turns
rest-runs parties peers alike [] d rank are crosses = no-turns parties d rank crosses
rest-runs parties peers alike (t ∷ turns) d rank are crosses =
    let on = turn-goes parties d rank t peers alike crosses (next-turn d t are.0) in
    one-turn parties d rank t turns (after_turns parties (after_turn parties d t) turns) on
    (rest-runs parties peers alike turns (after_turn parties d t) on.rank' are.1 on.crosses)

picks-run : (parties : Party × Party) → ArePeers parties → AreAlike parties
    → (picks : List Pick) (rest : List Turn) (d : Crossing) (rank : End → ℕ → ℕ)
    → PicksNew picks → AreNext parties (after_picks parties d picks) rest
    → Crosses parties d rank
    → RunsTo parties d rank (picked_turns parties d picks ++ rest)
    (after_turns parties (after_picks parties d picks) rest)
unfolding picked_turns after_picks
picks-run parties peers alike [] rest d rank new are crosses =
    rest-runs parties peers alike rest d rank are crosses
picks-run parties peers alike (old_copy k ∷ picks) rest d rank new are crosses = absurd new
picks-run parties peers alike (oldest_of from ∷ picks) rest d rank new are crosses =
    by_turn (pick_turn d (oldest_of from)) refl are
    (λ d' rank' are' still. picks-run parties peers alike picks rest d' rank' new are' still)
  where
    by_turn : (x : Option Turn) → or_clock d.world d.new (oldest_turn from d.new) ≡ x
        → AreNext parties (after_picks parties (after_pick parties d x) picks) rest
        → ((d' : Crossing) (rank' : End → ℕ → ℕ)
        → AreNext parties (after_picks parties d' picks) rest → Crosses parties d' rank'
        → RunsTo parties d' rank' (picked_turns parties d' picks ++ rest)
        (after_turns parties (after_picks parties d' picks) rest))
        → RunsTo parties d rank
        ((as_turns x ++ picked_turns parties (after_pick parties d x) picks) ++ rest)
        (after_turns parties (after_picks parties (after_pick parties d x) picks) rest)
    by_turn None none are further = further d rank are crosses
    by_turn (Some t) some are further =
        let on = turn-goes parties d rank t peers alike crosses (oldest-turn d from t some) in
        one-turn parties d rank t (picked_turns parties (after_turn parties d t) picks ++ rest)
        (after_turns parties (after_picks parties (after_turn parties d t) picks) rest) on
        (further (after_turn parties d t) on.rank' are on.crosses)

-- ---- from a world that is ready

starts-crossing : (parties : Party × Party) (w : World) → IsReady parties w
    → Crosses parties (crosses_at w) (first_rank parties w)
starts-crossing parties w ready = record {
  holds = starts parties w ready;
  room = ready.room;
  reached = ready.reached;
  placed = λ e among. absurd among;
}

run-goes : (parties : Party × Party) (w : World) (picks : List Pick) (rest : List Turn)
    → IsReady parties w → PicksNew picks
    → AreNext parties (after_picks parties (crosses_at w) picks) rest
    → RunsTo parties (crosses_at w) (first_rank parties w)
    (picked_turns parties (crosses_at w) picks ++ rest)
    (after_turns parties (after_picks parties (crosses_at w) picks) rest)
run-goes parties w picks rest ready new are =
    picks-run parties ready.peers ready.alike picks rest (crosses_at w) (first_rank parties w)
    new are (starts-crossing parties w ready)

pub length-both : (xs ys : List Turn) → length (xs ++ ys) ≡ length xs + length ys
length-both [] ys = omega arith
length-both (x ∷ xs) ys = omega (arith, length-both xs ys)

few-turns : (parties : Party × Party) (w : World) (picks : List Pick) (rest : List Turn)
    → IsReady parties w → PicksNew picks
    → AreNext parties (after_picks parties (crosses_at w) picks) rest
    → length (picked_turns parties (crosses_at w) picks) + length rest
    ≤ cost parties w (after_turns parties (after_picks parties (crosses_at w) picks) rest).world
few-turns parties w picks rest ready new are =
    let on = run-goes parties w picks rest ready new are in
    omega (
      arith,
      length-both (picked_turns parties (crosses_at w) picks) rest,
      on.bound,
      starts-low parties w
          (after_turns parties (after_picks parties (crosses_at w) picks) rest).world on.next,
    )

pub crossing-few : (parties : Party × Party) (w : World) (picks : List Pick) (n : ℕ) (v : World)
    → IsReady parties w → PicksNew picks → PickedRun parties w picks n v → n ≤ cost parties w v
crossing-few parties w picks n v ready new drain =
    subst (λ (v : World). n ≤ cost parties w v) drain.leads
    (omega (arith, drain.count, few-turns parties w picks drain.rest ready new drain.goes_on))

-- ---- its end

-- where no timer runs, what becomes of sessions is what is wanted
pub over-completes : (parties : Party × Party) (w v : World) (new : List Sent)
    (rank : End → ℕ → ℕ) (events : List Event)
    → DrainHolds SessionFacts parties (record { world = v; new = new }) rank
    → link_deadline v ≡ None → AllAdvance parties w v (effects_in parties w events)
    → IsComplete parties w events v
over-completes parties w v new rank events holds none advances = record {
  sent = λ o n is_open. by_sent o n ((advances o n).sender is_open);
  handed = λ o n is_open. by_handed o n ((advances o n).sender is_open);
  no_sender = no_sender;
  no_cancel = no_cancel;
}
  where
    Handed : End → ℕ → Type 0
    Handed o n = IsHanded (view parties w o n).receiver
        ⊎ IsHandedUp (effects_in parties w events) (other o) n

    no_sender : (o : End) (n : ℕ) → (view parties v o n).sender ≡ None
    no_sender o n = idle-senders (at_end v.engines o) n (idle-link v none o)

    never : (o : End) (n : ℕ) → IsKeptSender (view parties v o n).sender → ⊥
    never o n is_open = subst IsKeptSender (no_sender o n) is_open

    by_sent : (o : End) (n : ℕ) → IsKeptSender (view parties v o n).sender
        ⊎ (IsNoted (effects_in parties w events) o (notes.Sent n) × Handed o n)
        → IsNoted (effects_in parties w events) o (notes.Sent n)
    by_sent o n (inl still) = absurd (never o n still)
    by_sent o n (inr done) = done.0

    by_handed : (o : End) (n : ℕ) → IsKeptSender (view parties v o n).sender
        ⊎ (IsNoted (effects_in parties w events) o (notes.Sent n) × Handed o n) → Handed o n
    by_handed o n (inl still) = absurd (never o n still)
    by_handed o n (inr done) = done.1

    no_cancel : (o : End) (n : ℕ) (r : Receiving) → (view parties v o n).receiver ≡ Some r
        → is_cancelling r.phase ≡ false
    no_cancel o n r is = by_begun (is-begun SessionFacts (setting parties o n)
        (view parties v o n) _ _ (rank o n) (holds.session o n))
      where
        by_begun : Begun SessionFacts (setting parties o n) (view parties v o n)
            (said o (at_end parties o).own n new) (said (other o) (at_end parties o).own n new)
            (rank o n) → is_cancelling r.phase ≡ false
        by_begun (was_begun used st) = st.drains.calm.receiving r is
        by_begun (never_begun unused idle) = absurd
            (let none : (view parties v o n).receiver ≡ None = idle.unused.receiver in cc)

pub crossing-completes : (parties : Party × Party) (w : World) (picks : List Pick) (n : ℕ)
    (v : World) → IsReady parties w → PicksNew picks → (drain : PickedRun parties w picks n v)
    → IsComplete parties w (run_events parties w picks drain.rest) v
crossing-completes parties w picks n v ready new drain =
    let on = run-goes parties w picks drain.rest ready new drain.goes_on in
    subst (λ (v : World). IsComplete parties w (run_events parties w picks drain.rest) v)
    drain.leads
    (over-completes parties w
    (after_turns parties (after_picks parties (crosses_at w) picks) drain.rest).world
    (sent_of (after_turns parties (after_picks parties (crosses_at w) picks) drain.rest).new)
    on.rank' (run_events parties w picks drain.rest) on.crosses.holds drain.over.no_timer
    on.advances)

-- ---- there is such a drain

record EndsWith (parties : Party × Party) (d : Crossing) : Type 0 where
  turns : List Turn
  are : AreNext parties d turns
  over : IsOver (after_turns parties d turns)

next-none : (w : World) (new : List Placed) → next_turn w new ≡ None
    → (new ≡ []) × (link_deadline w ≡ None)
next-none w (e ∷ es) none = absurd (cc)
next-none w [] none = (refl, by_deadline (link_deadline w) refl none)
  where
    turn_at : ℕ → Turn
    turn_at now = record { event = clock now; left = [] }

    by_deadline : (x : Option ℕ) → link_deadline w ≡ x → option_map turn_at x ≡ None
        → link_deadline w ≡ None
    by_deadline None is none = is
    by_deadline (Some now) is none = absurd (cc)

ends-in : (parties : Party × Party) → ArePeers parties → AreAlike parties → (fuel : ℕ)
    (d : Crossing) (rank : End → ℕ → ℕ) → Crosses parties d rank
    → sum_of d.world rank ≤ fuel → EndsWith parties d
unfolding after_turns
ends-in parties peers alike zero d rank crosses low = by_turn (next_turn d.world d.new) refl
  where
    by_turn : (x : Option Turn) → next_turn d.world d.new ≡ x → EndsWith parties d
    by_turn None none =
        let both = next-none d.world d.new none in
        record { turns = []; are = tt; over = record { none_new = both.0; no_timer = both.1 } }
    by_turn (Some t) is = absurd (omega (
      arith,
      low,
      (turn-goes parties d rank t peers alike crosses (next-turn d t is)).falls,
    ))
ends-in parties peers alike (suc fuel) d rank crosses low =
    by_turn (next_turn d.world d.new) refl
    (λ d' rank' still less. ends-in parties peers alike fuel d' rank' still less)
  where
    by_turn : (x : Option Turn) → next_turn d.world d.new ≡ x
        → ((d' : Crossing) (rank' : End → ℕ → ℕ) → Crosses parties d' rank'
        → sum_of d'.world rank' ≤ fuel → EndsWith parties d') → EndsWith parties d
    by_turn None none further =
        let both = next-none d.world d.new none in
        record { turns = []; are = tt; over = record { none_new = both.0; no_timer = both.1 } }
    by_turn (Some t) is further =
        let on = turn-goes parties d rank t peers alike crosses (next-turn d t is) in
        let rest = further (after_turn parties d t) on.rank' on.crosses
        (omega (arith, low, on.falls)) in
        record { turns = t ∷ rest.turns; are = (is, rest.are); over = rest.over }

picks-end : (parties : Party × Party) → ArePeers parties → AreAlike parties
    → (picks : List Pick) (d : Crossing) (rank : End → ℕ → ℕ) → PicksNew picks
    → Crosses parties d rank → EndsWith parties (after_picks parties d picks)
unfolding after_picks
picks-end parties peers alike [] d rank new crosses =
    ends-in parties peers alike (sum_of d.world rank) d rank crosses (omega arith)
picks-end parties peers alike (old_copy k ∷ picks) d rank new crosses = absurd new
picks-end parties peers alike (oldest_of from ∷ picks) d rank new crosses =
    by_turn (pick_turn d (oldest_of from)) refl
    (λ d' rank' still. picks-end parties peers alike picks d' rank' new still)
  where
    by_turn : (x : Option Turn) → or_clock d.world d.new (oldest_turn from d.new) ≡ x
        → ((d' : Crossing) (rank' : End → ℕ → ℕ) → Crosses parties d' rank'
        → EndsWith parties (after_picks parties d' picks))
        → EndsWith parties (after_picks parties (after_pick parties d x) picks)
    by_turn None none further = further d rank crosses
    by_turn (Some t) some further =
        let on = turn-goes parties d rank t peers alike crosses (oldest-turn d from t some) in
        further (after_turn parties d t) on.rank' on.crosses

pub crossing-ends : (parties : Party × Party) (w : World) (picks : List Pick)
    → IsReady parties w → PicksNew picks → HasPickedRun parties w picks
crossing-ends parties w picks ready new =
    let e = picks-end parties ready.peers ready.alike picks (crosses_at w)
    (first_rank parties w) new (starts-crossing parties w ready) in
    record {
      n = length (picked_turns parties (crosses_at w) picks) + length e.turns;
      v = (after_turns parties (after_picks parties (crosses_at w) picks) e.turns).world;
      run = record {
        rest = e.turns;
        goes_on = e.are;
        count = refl;
        over = e.over;
        leads = refl;
      };
      bound = few-turns parties w picks e.turns ready new e.are;
    }
