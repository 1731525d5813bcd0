-- A turn of a drain with old copies: the ranks, and three for each old copy to come, are less.

use Rattle.std.proofs.Common.{◌≡◌, ℕ, ◌+◌, ◌*◌, ◌<◌, ◌≤◌, Bool, true, false, List, [], ◌++◌, Option}
use Rattle.std.proofs.Common.{Some, ◌⊎◌, inl, inr, refl, sym, ◌∙◌, ap, arith, subst, nat_lt}
use Rattle.std.proofs.Common.{if◌then◌else◌}
use Rattle.std.proofs.lemmas.Bool.Decides.{nat_tests}
use Rattle.std.specs.List.{slice_get}
use Rattle.ltp_segment.specs.Values.{ContentValue}
use Rattle.ltp_session.specs.Engine.{Party}
use Rattle.ltp_session.specs.World.{ArePeers, End, Event, Sent, World, arrival, at_end, clock}
use Rattle.ltp_session.specs.World.{deliver, delivered, first_end, happens, other, second_end}
use Rattle.ltp_session.specs.World.{ticks}
use Rattle.ltp_laws.specs.Facts.{SessionFacts}
use Rattle.ltp_laws.specs.Runs.{HoldsIn}
use Rattle.ltp_laws.specs.View.{IsIn, is_of, said, view}
use Rattle.ltp_laws.proofs.SegmentLemmas.{segments_have_sessions}
use Rattle.ltp_drain.specs.Clean.{link_deadline}
use Rattle.ltp_drain.specs.Draining.{since}
use Rattle.ltp_drain.specs.Effects.{EndEffects, deliver_effects, effects_at}
use Rattle.ltp_drain.specs.Hopeful.{AreAlike, IsReached}
use Rattle.ltp_drain.specs.Standing.{AllAdvance, DrainHolds, Next, sum_of}
use Rattle.ltp_drain.proofs.CleanSteps.{IsNext, next-is, reached-more, since-arrival}
use Rattle.ltp_drain.proofs.DrainRun.{arrival-next, due-fires, since-ticks, tick-advances}
use Rattle.ltp_drain.proofs.DrainRun.{tick-next, ticked-new, ticked-next, ticked-world, ticks-are}
use Rattle.ltp_drain.proofs.StartLemmas.{session-gives}
use Rattle.ltp_picks.specs.Asking.{IsOldOf}
use Rattle.ltp_picks.specs.PickedRuns.{NoneTurnedAway}
use Rattle.ltp_picks.specs.Picks.{Crossing, Placed, Turn}
use Rattle.ltp_picks.proofs.ArrivalFrame.{HasPlaces, heard_effects}
use Rattle.ltp_picks.proofs.CopyArrivals.{Shortens, by-parts, crossed, crossed-new}
use Rattle.ltp_picks.proofs.CopyArrivals.{new-shortens, old-before, old-shortens}
use Rattle.ltp_picks.proofs.CopyComes.{Carries, session-after}
use Rattle.ltp_picks.proofs.CopyLinks.{Keeping}
use Rattle.ltp_picks.proofs.CopySpread.{CopySpreads, Moves, all-move, spreads}
use Rattle.ltp_picks.proofs.CopyTicks.{idle-holds, ticked-keeps}
use Rattle.ltp_picks.proofs.CrossingLemmas.{ArePlaced, clock-sent, placed-after, sent_of}
use Rattle.ltp_picks.proofs.CrossingSteps.{IsNewTurn, sets_to, takes_new}

-- ---- what a turn leaves

pub record CarriesOn (parties : Party × Party) (k k' : ℕ) (d : Crossing) (rank : End → ℕ → ℕ)
    (w' : World) (left : List Placed) (es : List EndEffects) : Type 0 where
  pub rank' : End → ℕ → ℕ
  pub carries : Carries parties k' (crossed d left w') rank'
  pub less : sum_of w' rank' + 3 * k' < sum_of d.world rank + 3 * k
  pub advances : AllAdvance parties d.world w' es
  pub next : (o : End) → (at_end w'.engines o).next ≡ (at_end d.world.engines o).next

-- ---- a delivery

-- a segment that was ever sent
record IsSent (parties : Party × Party) (w : World) (x : Sent) : Type 0 where
  of : End
  own : x.segment.originator ≡ (at_end parties of).own

is-sent : (parties : Party × Party) (w : World) (place : ℕ) (x : Sent) → ArePeers parties
    → IsReached parties w → slice_get w.sent place ≡ Some x → IsSent parties w x
is-sent parties w place x peers reached got =
    let has = segments_have_sessions parties reached.events peers place x
    (subst (λ (w : World). slice_get w.sent place ≡ Some x) (sym reached.leads) got) in
    record { of = has.of; own = has.originator }

end-either : (a b : End) → (a ≡ b) ⊎ (a ≡ other b)
end-either first_end first_end = inl refl
end-either second_end second_end = inl refl
end-either first_end second_end = inr refl
end-either second_end first_end = inr refl

delivery-carries : (parties : Party × Party) (k k' : ℕ) (d : Crossing) (rank : End → ℕ → ℕ)
    (place : ℕ) (x : Sent) (left : List Placed) → ArePeers parties → Carries parties k d rank
    → Shortens k k' d place x left → k' ≤ k
    → IsReached parties (delivered parties d.world (Some x))
    → NoneTurnedAway (deliver_effects parties d.world (Some x))
    → CarriesOn parties k k' d rank (delivered parties d.world (Some x)) left
    (deliver_effects parties d.world (Some x))
delivery-carries parties k k' d rank place x left peers carries short fewer reached spared = record {
  rank' = spread.rank';
  carries = record {
    keeps = λ o n. subst (λ (new : List Sent). Keeping parties k'
        (IsOldOf (crossed d left w') o (at_end parties o).own n) new (spread.rank' o n) o n
        (view parties (arrival parties d.world (other x.from) x.segment) o n))
        (sym (crossed-new d left w')) (spread.keeps o n);
    formed = record { senders = moved.senders; receivers = moved.receivers; next = moved.next };
    reached = reached;
    placed = subst (λ (sent : List Sent). ArePlaced sent (crossed d left w').new) (sym adds)
        (placed-after d.world.sent (since d.world w') left
        (λ e among. carries.placed e (short.others e among)));
  };
  less = spread.less;
  advances = spread.advances;
  next = arrival-next parties d.world me x.segment;
}
  where
    me : End
    me = other x.from

    w' : World
    w' = arrival parties d.world (other x.from) x.segment

    es : List EndEffects
    es = heard_effects (other x.from) (at_end parties (other x.from))
        (at_end d.world.engines (other x.from)) x.segment d.world.now

    adds : (arrival parties d.world (other x.from) x.segment).sent ≡ d.world.sent ++ since d.world
        (arrival parties d.world (other x.from) x.segment)
    adds = since-arrival parties d.world (other x.from) x.segment

    places : HasPlaces (heard_effects (other x.from) (at_end parties (other x.from))
        (at_end d.world.engines (other x.from)) x.segment d.world.now) (other x.from)
    places = record {
      kept = λ m. spared.evicted (other x.from) m;
      known = λ m. spared.full (other x.from) m;
    }

    sent : IsSent parties d.world x
    sent = is-sent parties d.world place x peers carries.reached short.got

    own-at : (o : End) → sent.of ≡ o → x.segment.originator ≡ (at_end parties o).own
    own-at o is = sent.own ∙ ap (λ (e : End). (at_end parties e).own) is

    known : (x.segment.originator ≡ (at_end parties (other x.from)).own)
        ⊎ (x.segment.originator ≡ (at_end parties (other (other x.from))).own)
    known = by_end (end-either sent.of me)
      where
        by_end : (sent.of ≡ other x.from) ⊎ (sent.of ≡ other (other x.from))
            → (x.segment.originator ≡ (at_end parties (other x.from)).own)
            ⊎ (x.segment.originator ≡ (at_end parties (other (other x.from))).own)
        by_end (inl is) = inl (own-at (other x.from) is)
        by_end (inr is) = inr (own-at (other (other x.from)) is)

    moved : HoldsIn (Moves parties d.world (other x.from) x.segment
        (heard_effects (other x.from) (at_end parties (other x.from))
        (at_end d.world.engines (other x.from)) x.segment d.world.now)) parties
        (arrival parties d.world (other x.from) x.segment)
    moved = all-move parties d.world me x.segment peers carries.formed known places

    -- what isn't of the session isn't it
    not-it : (o : End) (n : ℕ) → (o ≡ sent.of → x.segment.session ≡ n → ⊥) → (who : End)
        → is_of who (at_end parties o).own n x ≡ true → ⊥
    not-it o n apart who is =
        let by = by-parts who (at_end parties o).own n x is in
        apart (own-is o (sym by.originator ∙ sent.own)) by.session
      where
        own-is : (o : End) → (at_end parties o).own ≡ (at_end parties sent.of).own → o ≡ sent.of
        own-is o same = by_ends o sent.of same
          where
            by_ends : (a b : End) → (at_end parties a).own ≡ (at_end parties b).own → a ≡ b
            by_ends first_end first_end same = refl
            by_ends second_end second_end same = refl
            by_ends first_end second_end same = absurd (peers.differ same)
            by_ends second_end first_end same = absurd (peers.differ (sym same))

    still : (o : End) (n : ℕ) → (o ≡ sent.of → x.segment.session ≡ n → ⊥) → (who : End)
        → said who (at_end parties o).own n (sent_of d.new)
        ≡ said who (at_end parties o).own n (sent_of left)
    still o n apart who = by_test (is_of who (at_end parties o).own n x) refl
      where
        by_test : (b : Bool) → is_of who (at_end parties o).own n x ≡ b
            → said who (at_end parties o).own n (sent_of d.new)
            ≡ said who (at_end parties o).own n (sent_of left)
        by_test true is = absurd (not-it o n apart who is)
        by_test false is = short.away who (at_end parties o).own n is

    older : (o : End) (n : ℕ) → (o ≡ sent.of → x.segment.session ≡ n → ⊥) → (c : ContentValue)
        → IsOldOf (crossed d left (arrival parties d.world (other x.from) x.segment)) o
        (at_end parties o).own n c → IsOldOf d o (at_end parties o).own n c
    older o n apart c was = by_place (old-before k k' d place x left w' adds short o
        (at_end parties o).own n c was)
      where
        by_place : IsOldOf d o (at_end parties o).own n c ⊎ ((c ≡ x.segment.content)
            × (is_of o (at_end parties o).own n x ≡ true)) → IsOldOf d o (at_end parties o).own n c
        by_place (inl old) = old
        by_place (inr now) = absurd (not-it o n apart o now.1)

    spread : CopySpreads parties k k'
        (λ o n. IsOldOf (crossed d left (arrival parties d.world (other x.from) x.segment)) o
        (at_end parties o).own n) d.world (arrival parties d.world (other x.from) x.segment)
        (heard_effects (other x.from) (at_end parties (other x.from))
        (at_end d.world.engines (other x.from)) x.segment d.world.now)
        (sent_of left ++ since d.world (arrival parties d.world (other x.from) x.segment)) rank
    spread = spreads parties d.world me x.segment k k'
        (λ o n. IsOldOf d o (at_end parties o).own n)
        (λ o n. IsOldOf (crossed d left w') o (at_end parties o).own n) (sent_of d.new)
        (sent_of left) rank sent.of peers sent.own fewer carries.keeps still older moved.session
        (session-after parties k k' d rank place x left sent.of peers carries short places sent.own
        (moved.session sent.of x.segment.session))

-- the segment at a place comes
came-carries : (parties : Party × Party) (k k' : ℕ) (d : Crossing) (rank : End → ℕ → ℕ)
    (place : ℕ) (x : Sent) (left : List Placed) → ArePeers parties → Carries parties k d rank
    → Shortens k k' d place x left → k' ≤ k
    → NoneTurnedAway (effects_at parties d.world (deliver place))
    → CarriesOn parties k k' d rank (happens parties d.world (deliver place)) left
    (effects_at parties d.world (deliver place))
came-carries parties k k' d rank place x left peers carries short fewer =
    subst (λ (o : Option Sent). NoneTurnedAway (deliver_effects parties d.world o)
    → CarriesOn parties k k' d rank (delivered parties d.world o) left
    (deliver_effects parties d.world o)) (sym short.got)
    (delivery-carries parties k k' d rank place x left peers carries short fewer
    (subst (λ (o : Option Sent). IsReached parties (delivered parties d.world o)) short.got
    (reached-more parties d.world (deliver place) carries.reached)))

-- ---- the clock

clock-carries : (parties : Party × Party) (k : ℕ) (d : Crossing) (rank : End → ℕ → ℕ) (now : ℕ)
    (es : List EndEffects) → ArePeers parties → AreAlike parties → Carries parties k d rank
    → d.new ≡ [] → link_deadline d.world ≡ Some now
    → CarriesOn parties k k d rank (happens parties d.world (clock now)) [] es
clock-carries parties k d rank now es peers alike carries none due =
    subst (λ (b : Bool). CarriesOn parties k k d rank
    (if b then d.world else ticks parties now second_end (ticks parties now first_end d.world)) []
    es) (sym (not-lt now d.world.now next_is.low))
    (subst (λ (w' : World). CarriesOn parties k k d rank w' [] es)
    (sym (ticks-are parties d.world now)) (record {
      rank' = next.rank';
      carries = record {
        keeps = λ o n. subst (λ (new : List Sent). Keeping parties k
            (IsOldOf (crossed d [] w') o (at_end parties o).own n) new (next.rank' o n) o n
            (view parties (ticked-world parties d.world now) o n))
            (sym (crossed-new d [] w' ∙ since-ticks parties d.world now))
            (ticked-keeps parties d.world now k
            (IsOldOf (crossed d [] w') o (at_end parties o).own n) rank o n peers carries.formed
            holds next (carries.keeps o n).slack);
        formed = record {
          senders = next.holds.senders;
          receivers = next.holds.receivers;
          next = next.holds.next;
        };
        reached = subst (IsReached parties) is-ticked
            (reached-more parties d.world (clock now) carries.reached);
        placed = subst (λ (sent : List Sent). ArePlaced sent (crossed d [] w').new) (sym adds)
            (placed-after d.world.sent (since d.world w') [] (λ e among. absurd among));
      };
      less = omega (arith, next.falls);
      advances = tick-advances SessionFacts session-gives parties
          (record { world = d.world; new = [] }) rank now es peers holds refl;
      next = ticked-next parties d.world now;
    }))
  where
    w' : World
    w' = ticked-world parties d.world now

    not-lt : (a b : ℕ) → b ≤ a → nat_lt a b ≡ false
    not-lt a b low = grind (arith, nat_tests)

    holds : DrainHolds SessionFacts parties (record { world = d.world; new = [] }) rank
    holds = idle-holds parties d.world k (λ o n. IsOldOf d o (at_end parties o).own n) rank
        carries.formed
        (λ o n. subst (λ (new : List Placed). Keeping parties k
        (IsOldOf d o (at_end parties o).own n) (sent_of new) (rank o n) o n
        (view parties d.world o n)) none (carries.keeps o n))

    next_is : IsNext parties d.world now
    next_is = next-is parties d.world rank now peers alike holds carries.reached due

    next : Next SessionFacts parties (record { world = d.world; new = [] }) (record {
      world = ticked-world parties d.world now;
      new = ticked-new parties d.world now;
    }) rank
    next = tick-next SessionFacts session-gives parties (record { world = d.world; new = [] }) rank
        now peers holds refl
        (due-fires SessionFacts session-gives parties (record { world = d.world; new = [] }) rank now
        peers holds refl next_is.o next_is.n next_is.due)

    is-ticked : happens parties d.world (clock now) ≡ ticked-world parties d.world now
    is-ticked = by_test (nat_lt now d.world.now) (not-lt now d.world.now next_is.low)
      where
        by_test : (b : Bool) → b ≡ false
            → (if b then d.world else ticks parties now second_end
            (ticks parties now first_end d.world)) ≡ ticked-world parties d.world now
        by_test true is = absurd (cc)
        by_test false is = ticks-are parties d.world now

    adds : (ticked-world parties d.world now).sent
        ≡ d.world.sent ++ since d.world (ticked-world parties d.world now)
    adds = subst (λ (w : World). w.sent ≡ d.world.sent ++ since d.world w) is-ticked
        (clock-sent parties d.world now)

-- ---- a turn

pub turn-carries : (parties : Party × Party) (k : ℕ) (d : Crossing) (rank : End → ℕ → ℕ) (t : Turn)
    → ArePeers parties → AreAlike parties → Carries parties k d rank → IsNewTurn d t
    → NoneTurnedAway (effects_at parties d.world t.event)
    → CarriesOn parties k k d rank (happens parties d.world t.event) t.left
    (effects_at parties d.world t.event)
turn-carries parties k d rank t peers alike carries (takes_new from takes) =
    subst (λ (event : Event). NoneTurnedAway (effects_at parties d.world event)
    → CarriesOn parties k k d rank (happens parties d.world event) t.left
    (effects_at parties d.world event)) (sym takes.event)
    (came-carries parties k k d rank takes.first.place takes.first.sent t.left peers carries
    (new-shortens k d from t takes (carries.placed takes.first takes.among)) (omega arith))
turn-carries parties k d rank t peers alike carries (sets_to now none is turn) = λ spared.
    subst (λ (t : Turn). CarriesOn parties k k d rank (happens parties d.world t.event) t.left
    (effects_at parties d.world t.event)) turn
    (clock-carries parties k d rank now (effects_at parties d.world (clock now)) peers alike carries
    none is)

-- an old segment comes once more
pub copy-carries : (parties : Party × Party) (k : ℕ) (d : Crossing) (rank : End → ℕ → ℕ) (place : ℕ)
    (x : Sent) → ArePeers parties → Carries parties (k + 1) d rank
    → slice_get d.world.sent place ≡ Some x
    → ((e : Placed) → IsIn e d.new → e.place ≡ place → ⊥)
    → NoneTurnedAway (effects_at parties d.world (deliver place))
    → CarriesOn parties (k + 1) k d rank (happens parties d.world (deliver place)) d.new
    (effects_at parties d.world (deliver place))
copy-carries parties k d rank place x peers carries got old =
    came-carries parties (k + 1) k d rank place x d.new peers carries
    (old-shortens k d place x got old) (omega arith)
