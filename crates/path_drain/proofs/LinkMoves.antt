-- What happens on a link of a path that drains: the ranks there fall, and whatever is begun costs
-- what it takes.

use Rattle.std.proofs.Common.{◌^◌, ◌≡◌, ℕ, suc, ◌+◌, ◌<◌, ◌≤◌, Bool, true, false, List}
use Rattle.std.proofs.Common.{[], ◌∷◌, ◌++◌, length, drop, Option, None, Some, refl}
use Rattle.std.proofs.Common.{sym, ◌∙◌, ap, arith, subst, nat_lt, if◌then◌else◌}
use Rattle.std.proofs.lemmas.Bool.{lt-ltb}
use Rattle.std.proofs.lemmas.Bool.Decides.{nat_tests}
use Rattle.std.specs.List.{slice_get}
use Rattle.ltp_session.specs.Engine.{Party}
use Rattle.ltp_session.specs.World.{ArePeers, End, Event, Sent, World, at_end, clock}
use Rattle.ltp_session.specs.World.{deliver, delivered, first_end, happens, other, second_end}
use Rattle.ltp_session.specs.World.{ticks}
use Rattle.ltp_laws.specs.Facts.{SessionFacts}
use Rattle.ltp_drain.specs.Clean.{clean_event, link_deadline, passed_after}
use Rattle.ltp_drain.specs.Effects.{effects_at}
use Rattle.ltp_drain.specs.Hopeful.{AreAlike, IsReached, cost, session_cost, sum_below}
use Rattle.ltp_drain.specs.Standing.{AllAdvance, DrainHolds, TickedTo, sum_of}
use Rattle.ltp_drain.proofs.CleanSteps.{IsGoing, clean-goes, drop-end, reached-more}
use Rattle.ltp_drain.proofs.CleanSteps.{since-arrival}
use Rattle.ltp_drain.proofs.DrainLists.{sum-below}
use Rattle.ltp_drain.proofs.DrainRun.{all-still, arrival-next, sent-ticked, since-ticks}
use Rattle.ltp_drain.proofs.DrainRun.{tick-advances, tick-holds, ticked-new, ticked-next}
use Rattle.ltp_drain.proofs.DrainRun.{ticked-world, ticks-are}
use Rattle.ltp_drain.proofs.RankSteps.{Grows, cost-grows, ticked-grows}
use Rattle.ltp_drain.proofs.RoomRuns.{tick-room}
use Rattle.ltp_drain.proofs.StartLemmas.{session-gives}

-- ---- what is kept

-- Events of a drain that began in w0 lead on a link from w to w', where c' segments are delivered
-- or lost. Each of k of them lowers the ranks; and what is begun costs what it raises them by.
pub record Moves (parties : Party × Party) (w0 w : World) (rank : End → ℕ → ℕ) (k : ℕ)
    (w' : World) (c' : ℕ) : Type 0 where
  pub rank' : End → ℕ → ℕ
  pub going : IsGoing parties w' c' rank'
  pub next : (o : End) → (at_end w.engines o).next ≤ (at_end w'.engines o).next
  pub bound : k + sum_of w' rank' + cost parties w0 w ≤ sum_of w rank + cost parties w0 w'
  -- where nothing is begun
  pub falls : ((o : End) → (at_end w'.engines o).next ≡ (at_end w.engines o).next)
      → k + sum_of w' rank' ≤ sum_of w rank
  pub numbers : ((o : End) → (at_end w.engines o).next ≤ 2 ^ 32) → (o : End)
      → (at_end w'.engines o).next ≤ 2 ^ 32

pub moves-none : (parties : Party × Party) (w0 w : World) (c : ℕ) (rank : End → ℕ → ℕ)
    → IsGoing parties w c rank → Moves parties w0 w rank 0 w c
moves-none parties w0 w c rank going = record {
  rank' = rank;
  going = going;
  next = λ o. omega arith;
  bound = omega arith;
  falls = λ same. omega arith;
  numbers = λ low. low;
}

pub moves-then : (parties : Party × Party) (w0 w v x : World) (rank : End → ℕ → ℕ)
    (k c m e : ℕ) → (first : Moves parties w0 w rank k v c)
    → Moves parties w0 v first.rank' m x e → Moves parties w0 w rank (k + m) x e
moves-then parties w0 w v x rank k c m e first later = record {
  rank' = later.rank';
  going = later.going;
  next = λ o. omega (arith, first.next o, later.next o);
  bound = omega (arith, first.bound, later.bound);
  falls = λ same. omega (
    arith,
    first.falls (λ o. omega (arith, first.next o, later.next o, same o)),
    later.falls (λ o. omega (arith, first.next o, later.next o, same o)),
  );
  numbers = λ low. later.numbers (first.numbers low);
}

-- ---- sums at an end

abbrev pub ranks_at : World → (End → ℕ → ℕ) → End → ℕ
ranks_at w rank o = sum_below (at_end w.engines o).next (rank o)

abbrev pub costs_at : Party × Party → World → World → End → ℕ
costs_at parties w0 w o = sum_below (at_end w.engines o).next (session_cost parties w0 w o)

-- the sums of both ends, in any order
two-ends : (me : End) (f : End → ℕ) → f first_end + f second_end ≡ f me + f (other me)
two-ends first_end f = refl
two-ends second_end f = omega arith

-- the ranks of an end's sessions rise by no more than their costs
abbrev pub EndMoves : Party × Party → World → World → (End → ℕ → ℕ) → World → (End → ℕ → ℕ) → End
    → Type 0
EndMoves parties w0 w rank w' rank' o =
    ranks_at w' rank' o + costs_at parties w0 w o ≤ ranks_at w rank o + costs_at parties w0 w' o

pub both-move : (parties : Party × Party) (w0 w w' : World) (rank rank' : End → ℕ → ℕ) (me : End)
    → EndMoves parties w0 w rank w' rank' me → EndMoves parties w0 w rank w' rank' (other me)
    → sum_of w' rank' + cost parties w0 w ≤ sum_of w rank + cost parties w0 w'
unfolding cost
both-move parties w0 w w' rank rank' me here there = omega (
  arith,
  here,
  there,
  two-ends me (ranks_at w' rank'),
  two-ends me (ranks_at w rank),
  two-ends me (costs_at parties w0 w),
  two-ends me (costs_at parties w0 w'),
)

-- nothing is begun at an end
costs-same : (parties : Party × Party) (w0 w w' : World) (o : End) → Grows w w'
    → (at_end w'.engines o).next ≡ (at_end w.engines o).next
    → costs_at parties w0 w o ≤ costs_at parties w0 w' o
costs-same parties w0 w w' o grows same =
    subst (λ (k : ℕ). costs_at parties w0 w o ≤ sum_below k (session_cost parties w0 w' o))
    (sym same)
    (sum-below (at_end w.engines o).next (session_cost parties w0 w o)
    (session_cost parties w0 w' o) (λ n low. cost-grows parties w0 w w' o n grows))

pub end-same : (parties : Party × Party) (w0 w w' : World) (rank rank' : End → ℕ → ℕ) (o : End)
    → Grows w w' → (at_end w'.engines o).next ≡ (at_end w.engines o).next
    → ((n : ℕ) → n < (at_end w.engines o).next → rank' o n ≤ rank o n)
    → EndMoves parties w0 w rank w' rank' o
end-same parties w0 w w' rank rank' o grows same low =
    omega (arith, ranks, costs-same parties w0 w w' o grows same)
  where
    ranks : ranks_at w' rank' o ≤ ranks_at w rank o
    ranks = subst (λ (k : ℕ). sum_below k (rank' o) ≤ ranks_at w rank o) (sym same)
        (sum-below (at_end w.engines o).next (rank' o) (rank o) low)

-- one session is begun at it
pub end-more : (parties : Party × Party) (w0 w w' : World) (rank rank' : End → ℕ → ℕ) (o : End)
    → Grows w w' → (at_end w'.engines o).next ≡ suc (at_end w.engines o).next
    → ((n : ℕ) → n < (at_end w.engines o).next → rank' o n ≤ rank o n)
    → rank' o (at_end w.engines o).next ≤ session_cost parties w0 w' o (at_end w.engines o).next
    → EndMoves parties w0 w rank w' rank' o
unfolding sum_below
end-more parties w0 w w' rank rank' o grows more low begun =
    subst (λ (k : ℕ). sum_below k (rank' o) + costs_at parties w0 w o ≤ ranks_at w rank o
    + sum_below k (session_cost parties w0 w' o)) (sym more) (omega (
      arith,
      begun,
      sum-below (at_end w.engines o).next (rank' o) (rank o) low,
      sum-below (at_end w.engines o).next (session_cost parties w0 w o)
          (session_cost parties w0 w' o) (λ n low. cost-grows parties w0 w w' o n grows),
    ))

-- ---- the list of segments, and the numbers, grow

append_nil : (xs : List Sent) → xs ++ [] ≡ xs
append_nil [] = refl
append_nil (x ∷ xs) = ap (λ (ys : List Sent). x ∷ ys) (append_nil xs)

pub grows-self : (w : World) → Grows w w
grows-self w = record {
  sent = sym (ap (λ (ds : List Sent). w.sent ++ ds)
      (drop-end w.sent (length w.sent) (omega arith)) ∙ append_nil w.sent);
  next = λ o. omega arith;
}

delivered-grows : (parties : Party × Party) (w : World) (d : Option Sent)
    → Grows w (delivered parties w d)
delivered-grows parties w None = grows-self w
delivered-grows parties w (Some d) = record {
  sent = since-arrival parties w (other d.from) d.segment;
  next = λ o. omega (arith, arrival-next parties w (other d.from) d.segment o);
}

clock-grows : (parties : Party × Party) (w : World) (now : ℕ)
    → Grows w (happens parties w (clock now))
clock-grows parties w now = by_test (nat_lt now w.now)
  where
    by_test : (b : Bool) → Grows w
        (if b then w else ticks parties now second_end (ticks parties now first_end w))
    by_test true = grows-self w
    by_test false = ticked-grows parties w now

-- ---- a delivery, and a clock that is due

costs-both : (parties : Party × Party) (w0 w w' : World) → Grows w w'
    → ((o : End) → (at_end w'.engines o).next ≡ (at_end w.engines o).next)
    → cost parties w0 w ≤ cost parties w0 w'
unfolding cost
costs-both parties w0 w w' grows same = omega (
  arith,
  costs-same parties w0 w w' first_end grows (same first_end),
  costs-same parties w0 w w' second_end grows (same second_end),
)

clean-moves : (parties : Party × Party) (w0 w : World) (c : ℕ) (rank : End → ℕ → ℕ)
    (event : Event) → ArePeers parties → AreAlike parties → IsGoing parties w c rank
    → clean_event w c ≡ Some event → Grows w (happens parties w event)
    → Moves parties w0 w rank 1 (happens parties w event) (passed_after c event)
clean-moves parties w0 w c rank event peers alike going clean grows =
    let on = clean-goes parties w c rank event peers alike going clean in
    record {
      rank' = on.rank';
      going = record {
        holds = on.holds;
        room = on.room;
        within = on.within;
        reached = reached-more parties w event going.reached;
      };
      next = λ o. omega (arith, on.next o);
      bound = omega (
        arith,
        on.falls,
        costs-both parties w0 w (happens parties w event) grows on.next,
      );
      falls = λ same. omega (arith, on.falls);
      numbers = λ low o. omega (arith, low o, on.next o);
    }

delivers-next : (w : World) (c : ℕ) → c < length w.sent → clean_event w c ≡ Some (deliver c)
delivers-next w c low =
    let yes : nat_lt c (length w.sent) ≡ true = lt-ltb c (length w.sent) low in rw yes refl

pub delivery-moves : (parties : Party × Party) (w0 w : World) (c : ℕ) (rank : End → ℕ → ℕ)
    → ArePeers parties → AreAlike parties → IsGoing parties w c rank → c < length w.sent
    → Moves parties w0 w rank 1 (happens parties w (deliver c)) (c + 1)
delivery-moves parties w0 w c rank peers alike going low =
    clean-moves parties w0 w c rank (deliver c) peers alike going (delivers-next w c low)
    (delivered-grows parties w (slice_get w.sent c))

pub delivery-advances-all : (parties : Party × Party) (w : World) (c : ℕ) (rank : End → ℕ → ℕ)
    → ArePeers parties → AreAlike parties → IsGoing parties w c rank → c < length w.sent
    → AllAdvance parties w (happens parties w (deliver c)) (effects_at parties w (deliver c))
delivery-advances-all parties w c rank peers alike going low =
    (clean-goes parties w c rank (deliver c) peers alike going (delivers-next w c low)).advances

pub due-moves : (parties : Party × Party) (w0 w : World) (c : ℕ) (rank : End → ℕ → ℕ) (now : ℕ)
    → ArePeers parties → AreAlike parties → IsGoing parties w c rank → length w.sent ≤ c
    → link_deadline w ≡ Some now
    → Moves parties w0 w rank 1 (happens parties w (clock now)) c
due-moves parties w0 w c rank now peers alike going over is =
    clean-moves parties w0 w c rank (clock now) peers alike going clean
    (clock-grows parties w now)
  where
    not-lt : (a b : ℕ) → b ≤ a → nat_lt a b ≡ false
    not-lt a b low = grind (arith, nat_tests)

    clean : clean_event w c ≡ Some (clock now)
    clean =
        let no : nat_lt c (length w.sent) ≡ false = not-lt c (length w.sent) over in
        rw (no, is) refl

-- ---- a clock where nothing is new

ticked-moves : (parties : Party × Party) (w0 w : World) (c : ℕ) (rank : End → ℕ → ℕ) (now : ℕ)
    → ArePeers parties → IsGoing parties w c rank → length w.sent ≤ c
    → IsReached parties (ticked-world parties w now)
    → Moves parties w0 w rank 0 (ticked-world parties w now) c
ticked-moves parties w0 w c rank now peers going over reached = record {
  rank' = t.rank';
  going = record {
    holds = subst (λ new. DrainHolds SessionFacts parties
        (record { world = ticked-world parties w now; new = new }) t.rank') (sym new-is) t.holds;
    room = tick-room SessionFacts parties (record { world = w; new = [] }) rank now peers holds
        going.room;
    within = omega (
      arith,
      going.within,
      over,
      ap length (sent-ticked parties w now),
      length-more w.sent (ticked-new parties w now),
    );
    reached = reached;
  };
  next = λ o. omega (arith, ticked-next parties w now o);
  bound = omega (
    arith,
    both-move parties w0 w (ticked-world parties w now) rank t.rank' first_end (at first_end)
        (at second_end),
  );
  falls = λ same. omega (arith, lower);
  numbers = λ low o. omega (arith, low o, ticked-next parties w now o);
}
  where
    holds : DrainHolds SessionFacts parties (record { world = w; new = [] }) rank
    holds = subst (λ new. DrainHolds SessionFacts parties (record { world = w; new = new }) rank)
        (drop-end w.sent c over) going.holds

    t : TickedTo SessionFacts parties
        (record { world = ticked-world parties w now; new = ticked-new parties w now }) rank
    t = tick-holds SessionFacts session-gives parties (record { world = w; new = [] }) rank now
        peers holds refl

    length-more : (xs ys : List Sent) → length xs ≤ length (xs ++ ys)
    length-more [] ys = omega arith
    length-more (x ∷ xs) ys = omega (arith, length-more xs ys)

    same : c ≡ length w.sent
    same = omega (arith, going.within, over)

    new-is : drop c (ticked-world parties w now).sent ≡ ticked-new parties w now
    new-is = ap (λ (k : ℕ). drop k (ticked-world parties w now).sent) same
        ∙ since-ticks parties w now

    grows : Grows w (ticked-world parties w now)
    grows = subst (Grows w) (ticks-are parties w now) (ticked-grows parties w now)

    ranks : (o : End) → ranks_at (ticked-world parties w now) t.rank' o ≤ ranks_at w rank o
    ranks o = subst (λ (k : ℕ). sum_below k (t.rank' o) ≤ ranks_at w rank o)
        (sym (ticked-next parties w now o))
        (sum-below (at_end w.engines o).next (t.rank' o) (rank o)
        (λ n low. omega (arith, t.less o n)))

    lower : sum_of (ticked-world parties w now) t.rank' ≤ sum_of w rank
    lower = omega (arith, ranks first_end, ranks second_end)

    at : (o : End) → EndMoves parties w0 w rank (ticked-world parties w now) t.rank' o
    at o = end-same parties w0 w (ticked-world parties w now) rank t.rank' o grows
        (ticked-next parties w now o) (λ n low. omega (arith, t.less o n))

pub quiet-moves : (parties : Party × Party) (w0 w : World) (c : ℕ) (rank : End → ℕ → ℕ) (now : ℕ)
    → ArePeers parties → IsGoing parties w c rank → length w.sent ≤ c
    → Moves parties w0 w rank 0 (happens parties w (clock now)) c
quiet-moves parties w0 w c rank now peers going over =
    by_test (nat_lt now w.now) (reached-more parties w (clock now) going.reached)
  where
    by_test : (b : Bool) → IsReached parties
        (if b then w else ticks parties now second_end (ticks parties now first_end w))
        → Moves parties w0 w rank 0
        (if b then w else ticks parties now second_end (ticks parties now first_end w)) c
    by_test true reached = moves-none parties w0 w c rank going
    by_test false reached =
        subst (λ (w' : World). Moves parties w0 w rank 0 w' c) (sym (ticks-are parties w now))
        (ticked-moves parties w0 w c rank now peers going over
        (subst (IsReached parties) (ticks-are parties w now) reached))

pub clock-advances-all : (parties : Party × Party) (w : World) (c : ℕ) (rank : End → ℕ → ℕ)
    (now : ℕ) → ArePeers parties → IsGoing parties w c rank → length w.sent ≤ c
    → AllAdvance parties w (happens parties w (clock now)) []
clock-advances-all parties w c rank now peers going over = by_test (nat_lt now w.now)
  where
    holds : DrainHolds SessionFacts parties (record { world = w; new = [] }) rank
    holds = subst (λ new. DrainHolds SessionFacts parties (record { world = w; new = new }) rank)
        (drop-end w.sent c over) going.holds

    by_test : (b : Bool) → AllAdvance parties w
        (if b then w else ticks parties now second_end (ticks parties now first_end w)) []
    by_test true = all-still parties w []
    by_test false = subst (λ (w' : World). AllAdvance parties w w' [])
        (sym (ticks-are parties w now))
        (tick-advances SessionFacts session-gives parties (record { world = w; new = [] }) rank
        now [] peers holds refl)
