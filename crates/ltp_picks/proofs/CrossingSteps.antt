-- A turn in which what is delivered is new: the ranks fall, and what becomes of open senders.

use Rattle.std.proofs.Common.{◌≡◌, ℕ, ◌<◌, false, List, [], ◌∷◌, ◌++◌}
use Rattle.std.proofs.Common.{length, Option, None, Some, refl, sym, ◌∙◌, ap}
use Rattle.std.proofs.Common.{arith, subst, nat_lt}
use Rattle.std.proofs.lemmas.Bool.Decides.{nat_tests}
use Rattle.std.specs.Option.{option_map}
use Rattle.ltp_session.specs.Engine.{Party}
use Rattle.ltp_session.specs.World.{ArePeers, End, Event, Sent, World, arrival, at_end, clock}
use Rattle.ltp_session.specs.World.{deliver, delivered, happens, other}
use Rattle.ltp_laws.specs.Facts.{SessionFacts}
use Rattle.ltp_laws.specs.View.{IsIn}
use Rattle.ltp_laws.proofs.FrameLemmas.{same_self}
use Rattle.ltp_drain.specs.Clean.{clean_event, link_deadline}
use Rattle.ltp_drain.specs.Draining.{Oldest, oldest, since}
use Rattle.ltp_drain.specs.Effects.{EndEffects, deliver_effects, effects_at}
use Rattle.ltp_drain.specs.Hopeful.{AreAlike, IsReached, Room}
use Rattle.ltp_drain.specs.Standing.{AllAdvance, DrainHolds, Next, sum_of}
use Rattle.ltp_drain.proofs.CleanSteps.{GoesOn, IsGoing, clean-goes, drop-end, reached-more}
use Rattle.ltp_drain.proofs.DrainLists.{same_end-true}
use Rattle.ltp_drain.proofs.DrainRun.{arrival-next, delivery-advances, delivery-next, other_other}
use Rattle.ltp_drain.proofs.RoomRuns.{delivery-room, room-roomy}
use Rattle.ltp_drain.proofs.StartLemmas.{ample-at, session-gives}
use Rattle.ltp_picks.specs.Picks.{Crossing, Placed, Turn, after_turn, clock_turn, next_turn}
use Rattle.ltp_picks.specs.Picks.{oldest_turn, or_clock}
use Rattle.ltp_picks.proofs.CrossingLemmas.{ArePlaced, Takes, clock-sent, delivered-sent}
use Rattle.ltp_picks.proofs.CrossingLemmas.{draining_of, oldest-takes, placed-after, sent_of}
use Rattle.ltp_picks.proofs.CrossingLemmas.{sent_of-append, sent_of-placed}

-- ---- what a turn is

-- an end's oldest new segment is delivered; or nothing is new, and the clock is set
pub data IsNewTurn (d : Crossing) (t : Turn) : Type 0 where
  takes_new : (from : End) → Takes from d.new t → IsNewTurn d t
  sets_to : (now : ℕ) → d.new ≡ [] → link_deadline d.world ≡ Some now
      → record { event = clock now; left = [] } ≡ t → IsNewTurn d t

clock-turn : (d : Crossing) (new : List Placed) (t : Turn) → d.new ≡ new
    → clock_turn d.world new ≡ Some t → IsNewTurn d t
clock-turn d (e ∷ es) t is turn = absurd (cc)
clock-turn d [] t is turn = by_deadline (link_deadline d.world) refl turn
  where
    by_deadline : (x : Option ℕ) → link_deadline d.world ≡ x
        → option_map (λ now. record { event = clock now; left = [] }) x ≡ Some t
        → IsNewTurn d t
    by_deadline None none turn = absurd (cc)
    by_deadline (Some now) some turn = sets_to now is some (cc)

pub oldest-turn : (d : Crossing) (from : End) (t : Turn)
    → or_clock d.world d.new (oldest_turn from d.new) ≡ Some t → IsNewTurn d t
oldest-turn d from t turn = by_oldest (oldest_turn from d.new) refl turn
  where
    by_oldest : (x : Option Turn) → oldest_turn from d.new ≡ x
        → or_clock d.world d.new x ≡ Some t → IsNewTurn d t
    by_oldest None none turn = clock-turn d d.new t refl turn
    by_oldest (Some x) some turn = takes_new from (oldest-takes from d.new t (some ∙ turn))

first-turn : (e : Placed) (es : List Placed) → oldest_turn e.sent.from (e ∷ es)
    ≡ Some (record { event = deliver e.place; left = es })
unfolding oldest_turn
first-turn e es = rw (same_self e.sent.from) refl

pub next-turn : (d : Crossing) (t : Turn) → next_turn d.world d.new ≡ Some t → IsNewTurn d t
next-turn d t turn = by_new d.new refl turn
  where
    by_new : (new : List Placed) → d.new ≡ new → next_turn d.world new ≡ Some t → IsNewTurn d t
    by_new [] is turn = clock-turn d [] t is turn
    by_new (e ∷ es) is turn = takes_new e.sent.from
        (subst (λ (new : List Placed). Takes e.sent.from new t) (sym is)
        (oldest-takes e.sent.from (e ∷ es) t (first-turn e es ∙ turn)))

-- ---- what a drain keeps from turn to turn

pub record Crosses (parties : Party × Party) (d : Crossing) (rank : End → ℕ → ℕ) : Type 0 where
  pub holds : DrainHolds SessionFacts parties (draining_of d) rank
  pub room : Room d.world
  pub reached : IsReached parties d.world
  pub placed : ArePlaced d.world.sent d.new

pub record CrossesOn (parties : Party × Party) (d : Crossing) (rank : End → ℕ → ℕ) (t : Turn)
    : Type 0 where
  pub rank' : End → ℕ → ℕ
  pub crosses : Crosses parties (after_turn parties d t) rank'
  pub falls : sum_of (after_turn parties d t).world rank' < sum_of d.world rank
  pub advances :
      AllAdvance parties d.world (after_turn parties d t).world
      (effects_at parties d.world t.event)
  pub next :
      (o : End) → (at_end (after_turn parties d t).world.engines o).next
      ≡ (at_end d.world.engines o).next

-- what is new after a turn
pub new-after : (parties : Party × Party) (d : Crossing) (t : Turn)
    → sent_of (after_turn parties d t).new
    ≡ sent_of t.left ++ since d.world (happens parties d.world t.event)
new-after parties d t = sent_of-append t.left _
    ∙ ap (λ (ds : List Sent). sent_of t.left ++ ds)
    (sent_of-placed (length d.world.sent) (since d.world (happens parties d.world t.event)))

-- ---- a delivery

pub record TurnGoes (parties : Party × Party) (d : Crossing) (rank : End → ℕ → ℕ) (w' : World)
    (left : List Placed) (es : List EndEffects) : Type 0 where
  pub rank' : End → ℕ → ℕ
  pub holds :
      DrainHolds SessionFacts parties
      (record { world = w'; new = sent_of left ++ since d.world w' }) rank'
  pub room : Room w'
  pub falls : sum_of w' rank' < sum_of d.world rank
  pub advances : AllAdvance parties d.world w' es
  pub next : (o : End) → (at_end w'.engines o).next ≡ (at_end d.world.engines o).next

delivery-goes : (parties : Party × Party) (d : Crossing) (rank : End → ℕ → ℕ) (from : End)
    (x : Sent) (left : List Placed) → ArePeers parties → AreAlike parties → Crosses parties d rank
    → oldest from (sent_of d.new) ≡ Some (record { first = x; others = sent_of left })
    → x.from ≡ from
    → TurnGoes parties d rank (delivered parties d.world (Some x)) left
    (deliver_effects parties d.world (Some x))
delivery-goes parties d rank from x left peers alike crosses is mine = record {
  rank' = next.rank';
  holds = next.holds;
  room = delivery-room SessionFacts parties (draining_of d) rank me o peers
      (ample-at parties alike) crosses.holds crosses.room found;
  falls = next.falls;
  advances = delivery-advances SessionFacts session-gives parties (draining_of d) rank me o peers
      crosses.holds found;
  next = arrival-next parties d.world me x.segment;
}
  where
    me : End
    me = other x.from

    o : Oldest
    o = record { first = x; others = sent_of left }

    found : oldest (other (other x.from)) (sent_of d.new)
        ≡ Some (record { first = x; others = sent_of left })
    found = subst (λ (e : End). oldest e (sent_of d.new)
        ≡ Some (record { first = x; others = sent_of left }))
        (sym (other_other x.from ∙ mine)) is

    next : Next SessionFacts parties (draining_of d) (record {
      world = arrival parties d.world (other x.from) x.segment;
      new = sent_of left ++ since d.world (arrival parties d.world (other x.from) x.segment);
    }) rank
    next = (delivery-next SessionFacts session-gives parties (draining_of d) rank me o peers
        crosses.holds (room-roomy parties d.world (ample-at parties alike) crosses.room)
        found).next

-- ---- the clock

clock-goes : (parties : Party × Party) (d : Crossing) (rank : End → ℕ → ℕ) (now : ℕ)
    → ArePeers parties → AreAlike parties → Crosses parties d rank → d.new ≡ []
    → link_deadline d.world ≡ Some now
    → TurnGoes parties d rank (happens parties d.world (clock now)) []
    (effects_at parties d.world (clock now))
clock-goes parties d rank now peers alike crosses none is = record {
  rank' = on.rank';
  holds = on.holds;
  room = on.room;
  falls = on.falls;
  advances = on.advances;
  next = on.next;
}
  where
    w : World
    w = d.world

    going : IsGoing parties d.world (length d.world.sent) rank
    going = record {
      holds = subst (λ (new : List Sent). DrainHolds SessionFacts parties
          (record { world = d.world; new = new }) rank)
          (ap sent_of none ∙ sym (drop-end d.world.sent (length d.world.sent) (omega arith)))
          crosses.holds;
      room = crosses.room;
      within = omega arith;
      reached = crosses.reached;
    }

    clean : clean_event d.world (length d.world.sent) ≡ Some (clock now)
    clean = rw (not-below (length d.world.sent), is) refl
      where
        not-below : (k : ℕ) → nat_lt k k ≡ false
        not-below k = grind (arith, nat_tests)

    on : GoesOn parties d.world rank (happens parties d.world (clock now)) (length d.world.sent)
        (effects_at parties d.world (clock now))
    on = clean-goes parties d.world (length d.world.sent) rank (clock now) peers alike going clean

-- ---- a turn

goes-on : (parties : Party × Party) (d : Crossing) (rank : End → ℕ → ℕ) (t : Turn)
    → Crosses parties d rank → ((e : Placed) → IsIn e t.left → IsIn e d.new)
    → (happens parties d.world t.event).sent
    ≡ d.world.sent ++ since d.world (happens parties d.world t.event)
    → TurnGoes parties d rank (happens parties d.world t.event) t.left
    (effects_at parties d.world t.event)
    → CrossesOn parties d rank t
goes-on parties d rank t crosses others adds goes = record {
  rank' = goes.rank';
  crosses = record {
    holds = subst (λ (new : List Sent). DrainHolds SessionFacts parties
        (record { world = happens parties d.world t.event; new = new }) goes.rank')
        (sym (new-after parties d t)) goes.holds;
    room = goes.room;
    reached = reached-more parties d.world t.event crosses.reached;
    placed = subst (λ (sent : List Sent). ArePlaced sent (after_turn parties d t).new) (sym adds)
        (placed-after d.world.sent (since d.world (happens parties d.world t.event)) t.left
        (λ e among. crosses.placed e (others e among)));
  };
  falls = goes.falls;
  advances = goes.advances;
  next = goes.next;
}

pub turn-goes : (parties : Party × Party) (d : Crossing) (rank : End → ℕ → ℕ) (t : Turn)
    → ArePeers parties → AreAlike parties → Crosses parties d rank → IsNewTurn d t
    → CrossesOn parties d rank t
turn-goes parties d rank t peers alike crosses (takes_new from takes) =
    goes-on parties d rank t crosses takes.others
    (subst (λ (event : Event). (happens parties d.world event).sent
    ≡ d.world.sent ++ since d.world (happens parties d.world event)) (sym takes.event)
    (delivered-sent parties d.world takes.first.place))
    (subst (λ (event : Event). TurnGoes parties d rank (happens parties d.world event) t.left
    (effects_at parties d.world event)) (sym takes.event)
    (subst (λ (x : Option Sent). TurnGoes parties d rank (delivered parties d.world x) t.left
    (deliver_effects parties d.world x)) (sym (crosses.placed takes.first takes.among))
    (delivery-goes parties d rank from takes.first.sent t.left peers alike crosses takes.is
    (same_end-true takes.first.sent.from from takes.mine))))
turn-goes parties d rank t peers alike crosses (sets_to now none is turn) =
    subst (CrossesOn parties d rank) turn
    (goes-on parties d rank (record { event = clock now; left = [] }) crosses
    (λ e among. absurd among) (clock-sent parties d.world now)
    (clock-goes parties d rank now peers alike crosses none is))
