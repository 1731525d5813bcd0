-- Every drain of a path ends: its events are clean and early, and lead to where it is over.

use Rattle.std.proofs.Common.{◌≡◌, ℕ, zero, suc, ◌+◌, ◌-◌, ◌<◌, Bool, true, false, List, []}
use Rattle.std.proofs.Common.{◌∷◌, ◌++◌, Option, None, Some, refl, sym, ◌∙◌, ap, arith, subst}
use Rattle.std.proofs.Common.{nat_lt, if◌then◌else◌}
use Rattle.std.proofs.lemmas.Bool.{ltb-true, ltb-false}
use Rattle.std.proofs.lemmas.Bool.Decides.{nat_tests}
use Rattle.std.specs.List.{slice_get}
use Rattle.ltp_session.specs.Engine.{Party}
use Rattle.ltp_session.specs.World.{Event, World, happens, run, starts_world}
use Rattle.ltp_drain.specs.Hopeful.{IsReached}
use Rattle.path_drain.specs.Clean.{path_clean_event, path_passed_after}
use Rattle.path_laws.specs.Links.{events_at, link_at, link_parties}
use Rattle.path_laws.specs.Path.{Path, PathEvent, PathSetup, SentFrom, all_tick}
use Rattle.path_laws.specs.Path.{clock_shows, comes_to, delivers, delivers_if, nothing_done, path_run}
use Rattle.path_laws.specs.Path.{path_step, sends, starts_path, then_does}
use Rattle.path_laws.specs.Places.{Stand, across, at_gate, at_node, stand_of}
use Rattle.path_laws.proofs.RunLemmas.{step-chunk}
use Rattle.path_drain.specs.Drained.{DrainsAreMade, EndsBy, Onward, drain_events, event_then}
use Rattle.path_drain.specs.Drained.{events_within, next_and_on}
use Rattle.path_drain.specs.Left.{IsBefore, IsOverBy, IsTimed, path_left}
use Rattle.path_drain.proofs.PathWears.{AreReached, runs-reach, wears}

-- ---- what stays

run-both : (parties : Party × Party) (w : World) (xs ys : List Event)
    → run parties w (xs ++ ys) ≡ run parties (run parties w xs) ys
run-both parties w [] ys = refl
run-both parties w (x ∷ xs) ys = run-both parties (happens parties w x) xs ys

step-reached : (s : PathSetup) (w : Path) (event : PathEvent) → AreReached s w
    → AreReached s (path_step s w event).path
step-reached s w event reached = record {
  links = λ face. (let was : IsReached (link_parties s face) (link_at face w) = reached.links face in
      record {
        events = was.events ++ events_at face s w event;
        leads = run-both (link_parties s face) (starts_world (link_parties s face)) was.events
            (events_at face s w event)
            ∙ (ap (λ l. run (link_parties s face) l (events_at face s w event)) was.leads
            ∙ sym (step-chunk face s w event).runs);
      });
}

pub come-now : (s : PathSetup) (w : Path) (stand : Stand) (d : SentFrom)
    → ((comes_to s w stand d.segment).path).now ≡ w.now
come-now s w (at_node end) d = refl
come-now s w (at_gate face) d = refl

pub deliver-now : (s : PathSetup) (w : Path) (k : ℕ) → ((path_step s w (delivers k)).path).now ≡ w.now
unfolding path_step
deliver-now s w k = by_got (slice_get w.sent k)
  where
    by_got : (got : Option SentFrom) → ((delivers_if s w got).path).now ≡ w.now
    by_got None = refl
    by_got (Some d) = come-now s w (stand_of (across d.from)) d

pub clock-now : (s : PathSetup) (w : Path) (now : ℕ) → w.now < now
    → ((path_step s w (clock_shows now)).path).now ≡ now
unfolding path_step then_does
clock-now s w now later = by_test (nat_lt now w.now) (not-before now w.now later)
  where
    not-before : (a b : ℕ) → b < a → nat_lt a b ≡ false
    not-before a b low = grind (arith, nat_tests)

    by_test : (b : Bool) → b ≡ false
        → ((if b then record { path = w; effects = nothing_done } else all_tick s now w).path).now
        ≡ now
    by_test true is = absurd (cc)
    by_test false is = refl

-- ---- one more event

ends-now : (top : ℕ) (s : PathSetup) (w : Path) (c : ℕ) → IsOverBy top (path_clean_event w c)
    → EndsBy top s w c []
unfolding path_run
ends-now top s w c over = record { clean = tt; early = tt; over = over }

ends-more : (top : ℕ) (s : PathSetup) (w : Path) (c : ℕ) (event : PathEvent) (rest : List PathEvent)
    → path_clean_event w c ≡ Some event → IsBefore top event
    → EndsBy top s (path_step s w event).path (path_passed_after c event) rest
    → EndsBy top s w c (event ∷ rest)
unfolding path_run
ends-more top s w c event rest is early on = record {
  clean = (is, on.clean);
  early = (early, on.early);
  over = on.over;
}

-- ---- at one moment, and from moment to moment

-- a drain goes on from paths of which less is left, at this moment
abbrev EndsLower : ℕ → ℕ → PathSetup → Path → ℕ → Onward → Type 0
EndsLower top most s w c same = (v : Path) (d : ℕ) → AreReached s v
    → path_left most v d < path_left most w c → v.now ≡ w.now → EndsBy top s v d (same v d)

-- and from later moments on
abbrev EndsLater : ℕ → PathSetup → Path → Onward → Type 0
EndsLater top s w later = (v : Path) (d : ℕ) → AreReached s v → w.now < v.now → v.now < top
    → EndsBy top s v d (later v d)

ends-next : (top most : ℕ) (s : PathSetup) → IsTimed s most → (w : Path) (c : ℕ)
    → AreReached s w → (same later : Onward) → EndsLower top most s w c same
    → EndsLater top s w later
    → EndsBy top s w c (next_and_on top s w c same later (path_clean_event w c))
ends-next top most s timed w c reached same later lower on =
    by_event (path_clean_event w c) refl
  where
    by_clock : (now : ℕ) → path_clean_event w c ≡ Some (clock_shows now) → w.now < now → (b : Bool)
        → nat_lt now top ≡ b
        → EndsBy top s w c (if b then event_then s w c (clock_shows now) later else [])
    by_clock now is ahead true early =
        let before : now < top = ltb-true now top early in
        let shows = clock-now s w now ahead in
        ends-more top s w c (clock_shows now) (later (path_step s w (clock_shows now)).path c) is
        before (on (path_step s w (clock_shows now)).path c
        (step-reached s w (clock_shows now) reached) (omega (arith, ahead, shows))
        (omega (arith, before, shows)))
    by_clock now is ahead false late =
        ends-now top s w c (subst (IsOverBy top) (sym is) (ltb-false now top late))

    by_event : (o : Option PathEvent) → path_clean_event w c ≡ o
        → EndsBy top s w c (next_and_on top s w c same later o)
    by_event None is = ends-now top s w c (subst (IsOverBy top) (sym is) tt)
    by_event (Some (sends end block)) is =
        absurd (wears s w most c (sends end block) timed reached is)
    by_event (Some (delivers k)) is =
        ends-more top s w c (delivers k) (same (path_step s w (delivers k)).path (c + 1)) is tt
        (lower (path_step s w (delivers k)).path (c + 1) (step-reached s w (delivers k) reached)
        (wears s w most c (delivers k) timed reached is) (deliver-now s w k))
    by_event (Some (clock_shows now)) is =
        by_clock now is (wears s w most c (clock_shows now) timed reached is) (nat_lt now top) refl

ends-within : (top most : ℕ) (s : PathSetup) → IsTimed s most → (m n : ℕ) (w : Path) (c : ℕ)
    → AreReached s w → top - w.now < m → path_left most w c < n
    → EndsBy top s w c (events_within m n most top s w c)
unfolding events_within
ends-within top most s timed zero n w c reached few less = absurd (omega (arith, few))
ends-within top most s timed (suc m) zero w c reached few less = absurd (omega (arith, less))
ends-within top most s timed (suc m) (suc n) w c reached few less =
    ends-next top most s timed w c reached (events_within (suc m) n most top s)
    (λ v d. events_within m (suc (path_left most v d)) most top s v d)
    (λ v d r lower same. ends-within top most s timed (suc m) n v d r (omega (arith, few, same))
    (omega (arith, less, lower)))
    (λ v d r later before. ends-within top most s timed m (suc (path_left most v d)) v d r
    (omega (arith, few, later, before)) (omega arith))

ends-by : (top most : ℕ) (s : PathSetup) → IsTimed s most → (w : Path) (c : ℕ) → AreReached s w
    → EndsBy top s w c (drain_events most top s w c)
unfolding drain_events
ends-by top most s timed w c reached =
    ends-within top most s timed _ _ w c reached (omega arith) (omega arith)

pub drains-are-made : DrainsAreMade
drains-are-made s start most c top events timed =
    ends-by top most s timed (path_run s (starts_path s start) events) c
    (runs-reach s start events)
