-- Every drain of a link ends, and its events are one list.

use Rattle.std.proofs.Common.{◌≡◌, ℕ, zero, suc, ◌+◌, ◌-◌, ◌<◌, Bool, true, false, List, [], ◌∷◌, ◌++◌, Option, None, Some, refl, sym, ◌∙◌, ap, arith, subst, nat_lt, if◌then◌else◌}
use Rattle.std.proofs.lemmas.Bool.{ltb-true, ltb-false}
use Rattle.std.proofs.lemmas.Bool.Decides.{nat_tests}
use Rattle.std.specs.List.{slice_get}
use Rattle.ltp_session.specs.Engine.{Party}
use Rattle.ltp_session.specs.World.{Event, World, clock, deliver, happens, starts_world, submit}
use Rattle.ltp_drain.specs.Clean.{clean_event, passed_after}
use Rattle.ltp_drain.specs.Hopeful.{IsReached}
use Rattle.ltp_drain.specs.Left.{AreTimed, link_left}
use Rattle.ltp_drain.proofs.WearLemmas.{drains-wear-out}
use Rattle.ltp_world.proofs.DrainLemmas.{run-append}
use Rattle.window_world.specs.Made.{DrainsAreMade, DrainsAreOne, EndsBy, IsBefore, IsOverBy, Onward, drain_events, event_then, events_within, next_and_on}
use Rattle.window_world.proofs.WindowLemmas.{now-of-delivered, now-of-tick}

step-reached : (parties : Party × Party) (w : World) (event : Event) → IsReached parties w → IsReached parties (happens parties w event)
step-reached parties w event reached = record {
  events = reached.events ++ event ∷ [];
  leads = run-append parties (starts_world parties) reached.events (event ∷ []) ∙ ap (λ (l : World). happens parties l event) reached.leads;
}

clock-now : (parties : Party × Party) (w : World) (now : ℕ) → w.now < now → (happens parties w (clock now)).now ≡ now
clock-now parties w now later = now-of-tick parties w now ∙ (let high : nat_lt now w.now ≡ false = grind (arith, nat_tests) in rw high refl)

-- ---- one more event

ends-now : (top : ℕ) (parties : Party × Party) (w : World) (c : ℕ) → IsOverBy top (clean_event w c) → EndsBy top parties w c []
ends-now top parties w c over = record { clean = tt; early = tt; over = over }

ends-more : (top : ℕ) (parties : Party × Party) (w : World) (c : ℕ) (event : Event) (rest : List Event) → clean_event w c ≡ Some event → IsBefore top event
    → EndsBy top parties (happens parties w event) (passed_after c event) rest → EndsBy top parties w c (event ∷ rest)
ends-more top parties w c event rest is early on = record { clean = (is, on.clean); early = (early, on.early); over = on.over }

-- ---- at one contact time, and from one to another

abbrev EndsLower : ℕ → Party × Party → World → ℕ → Onward → Type 0
EndsLower top parties w c same = (v : World) (d : ℕ) → IsReached parties v → link_left v d < link_left w c → v.now ≡ w.now → EndsBy top parties v d (same v d)

abbrev EndsLater : ℕ → Party × Party → World → Onward → Type 0
EndsLater top parties w later = (v : World) (d : ℕ) → IsReached parties v → w.now < v.now → v.now < top → EndsBy top parties v d (later v d)

ends-next : (top : ℕ) (parties : Party × Party) → AreTimed parties → (w : World) (c : ℕ) → IsReached parties w → (same later : Onward)
    → EndsLower top parties w c same → EndsLater top parties w later
    → EndsBy top parties w c (next_and_on top parties w c same later (clean_event w c))
ends-next top parties timed w c reached same later lower on = by_event (clean_event w c) refl
  where
    by_clock : (now : ℕ) → clean_event w c ≡ Some (clock now) → w.now < now → (b : Bool) → nat_lt now top ≡ b
        → EndsBy top parties w c (if b then event_then parties w c (clock now) later else [])
    by_clock now is ahead true early =
        let before : now < top = ltb-true now top early in
        let shows = clock-now parties w now ahead in
        ends-more top parties w c (clock now) (later (happens parties w (clock now)) c) is before
        (on (happens parties w (clock now)) c (step-reached parties w (clock now) reached) (omega (arith, ahead, shows)) (omega (arith, before, shows)))
    by_clock now is ahead false late = ends-now top parties w c (subst (IsOverBy top) (sym is) (ltb-false now top late))

    by_event : (o : Option Event) → clean_event w c ≡ o → EndsBy top parties w c (next_and_on top parties w c same later o)
    by_event None is = ends-now top parties w c (subst (IsOverBy top) (sym is) tt)
    by_event (Some (submit end block red)) is = absurd (drains-wear-out parties w c (submit end block red) timed reached is)
    by_event (Some (deliver k)) is =
        ends-more top parties w c (deliver k) (same (happens parties w (deliver k)) (c + 1)) is tt
        (lower (happens parties w (deliver k)) (c + 1) (step-reached parties w (deliver k) reached)
        (drains-wear-out parties w c (deliver k) timed reached is) (now-of-delivered parties w (slice_get w.sent k)))
    by_event (Some (clock now)) is = by_clock now is (drains-wear-out parties w c (clock now) timed reached is) (nat_lt now top) refl

ends-within : (top : ℕ) (parties : Party × Party) → AreTimed parties → (m n : ℕ) (w : World) (c : ℕ) → IsReached parties w → top - w.now < m → link_left w c < n
    → EndsBy top parties w c (events_within m n top parties w c)
unfolding events_within
ends-within top parties timed zero n w c reached few less = absurd (omega (arith, few))
ends-within top parties timed (suc m) zero w c reached few less = absurd (omega (arith, less))
ends-within top parties timed (suc m) (suc n) w c reached few less =
    ends-next top parties timed w c reached (events_within (suc m) n top parties)
    (λ v d. events_within m (suc (link_left v d)) top parties v d)
    (λ v d r lower same. ends-within top parties timed (suc m) n v d r (omega (arith, few, same)) (omega (arith, less, lower)))
    (λ v d r later before. ends-within top parties timed m (suc (link_left v d)) v d r (omega (arith, few, later, before)) (omega arith))

pub drains-are-made : DrainsAreMade
unfolding drain_events
drains-are-made parties w top c timed reached = ends-within top parties timed _ _ w c reached (omega arith) (omega arith)

-- ---- there is no other

goes-no-further : (top : ℕ) (o : Option Event) (event : Event) → IsOverBy top o → o ≡ Some event → IsBefore top event → ⊥
goes-no-further top None event over is early = absurd (cc)
goes-no-further top (Some (submit end block red)) event over is early = over
goes-no-further top (Some (deliver k)) event over is early = over
goes-no-further top (Some (clock now)) event over is early =
    let same : clock now ≡ event = cc in
    let before : now < top = subst (IsBefore top) (sym same) early in
    absurd (omega (arith, over, before))

ends-on : (top : ℕ) (parties : Party × Party) (w : World) (c : ℕ) (event : Event) (rest : List Event) → EndsBy top parties w c (event ∷ rest)
    → EndsBy top parties (happens parties w event) (passed_after c event) rest
ends-on top parties w c event rest ends = record { clean = ends.clean.1; early = ends.early.1; over = ends.over }

no-more : (top : ℕ) (parties : Party × Party) (w : World) (c : ℕ) (event : Event) (rest : List Event) → EndsBy top parties w c [] → EndsBy top parties w c (event ∷ rest) → ⊥
no-more top parties w c event rest over ends = goes-no-further top (clean_event w c) event over.over ends.clean.0 ends.early.0

one-drain : (top : ℕ) (parties : Party × Party) (w : World) (c : ℕ) (xs ys : List Event) → EndsBy top parties w c xs → EndsBy top parties w c ys → xs ≡ ys
one-drain top parties w c [] [] first second = refl
one-drain top parties w c [] (y ∷ ys) first second = absurd (no-more top parties w c y ys first second)
one-drain top parties w c (x ∷ xs) [] first second = absurd (no-more top parties w c x xs second first)
one-drain top parties w c (x ∷ xs) (y ∷ ys) first second =
    let same : y ≡ x = some-is (sym second.clean.0 ∙ first.clean.0) in
    let on : EndsBy top parties (happens parties w x) (passed_after c x) ys =
    subst (λ z. EndsBy top parties (happens parties w z) (passed_after c z) ys) same (ends-on top parties w c y ys second) in
    let rest = one-drain top parties (happens parties w x) (passed_after c x) xs ys (ends-on top parties w c x xs first) on in
    rw (same, rest) refl
  where
    some-is : {a b : Event} → Some a ≡ Some b → a ≡ b
    some-is is = cc

pub drains-are-one : DrainsAreOne
drains-are-one parties w top c made timed reached ends =
    one-drain top parties w c made (drain_events top parties w c) ends (drains-are-made parties w top c timed reached)
