-- The turns after the picks of a drain end, and are one list.

use Rattle.std.proofs.Common.{◌≡◌, ℕ, zero, suc, ◌+◌, ◌-◌, ◌<◌, ◌≤◌, Bool, true, false, List, [], ◌∷◌, ◌++◌, length, drop, Option, None, Some, refl, sym, ◌∙◌, ap, arith, subst, nat_lt, if◌then◌else◌, inl, inr}
use Rattle.std.proofs.lemmas.Bool.{ltb-true, ltb-false}
use Rattle.std.proofs.lemmas.Bool.Decides.{nat_tests}
use Rattle.std.specs.List.{slice_get}
use Rattle.std.specs.Option.{option_map}
use Rattle.ltp_session.specs.Engine.{Party}
use Rattle.ltp_session.specs.World.{Event, Sent, World, clock, deliver, delivered, happens, starts_world, submit}
use Rattle.ltp_laws.specs.View.{IsIn}
use Rattle.ltp_drain.specs.Clean.{link_deadline}
use Rattle.ltp_drain.specs.Draining.{since}
use Rattle.ltp_drain.specs.Hopeful.{IsReached}
use Rattle.ltp_drain.specs.Left.{AreTimed, burden, link_left, sent_burden}
use Rattle.ltp_drain.proofs.LeftLemmas.{delivery-falls, sent_burden-append}
use Rattle.ltp_drain.proofs.WearLemmas.{reached-ahead, reached-tame}
use Rattle.ltp_picks.specs.Picks.{Crossing, Placed, Turn, after_turn, after_turns, next_turn, placed_from}
use Rattle.ltp_picks.proofs.CrossingLemmas.{ArePlaced, clock-sent, delivered-sent, placed-after, sent_of, sent_of-append, sent_of-placed}
use Rattle.ltp_world.proofs.DrainLemmas.{run-append}
use Rattle.window_world.specs.Made.{IsBefore, IsOverBy}
use Rattle.window_world.proofs.WindowLemmas.{now-of-delivered, now-of-tick}
use Rattle.link_run.specs.Picks.{EndsTurns, IsOverTurn, Onward, crossing_left, next_and_on, turn_then, turns_after, turns_within}

-- ---- what a drain keeps

-- a run leads to its world, and each new segment stands at its place
pub record Goes (parties : Party × Party) (d : Crossing) : Type 0 where
  pub reached : IsReached parties d.world
  pub placed : ArePlaced d.world.sent d.new

step-reached : (parties : Party × Party) (w : World) (event : Event) → IsReached parties w → IsReached parties (happens parties w event)
step-reached parties w event reached = record {
  events = reached.events ++ event ∷ [];
  leads = run-append parties (starts_world parties) reached.events (event ∷ []) ∙ ap (λ (l : World). happens parties l event) reached.leads;
}

pub goes-after : (parties : Party × Party) (d : Crossing) (t : Turn) → IsReached parties d.world → ArePlaced d.world.sent t.left
    → (happens parties d.world t.event).sent ≡ d.world.sent ++ since d.world (happens parties d.world t.event)
    → Goes parties (after_turn parties d t)
goes-after parties d t reached placed adds = record {
  reached = step-reached parties d.world t.event reached;
  placed = subst (λ (sent : List Sent). ArePlaced sent (after_turn parties d t).new) (sym adds)
      (placed-after d.world.sent (since d.world (happens parties d.world t.event)) t.left placed);
}

-- ---- a delivery leaves less

got-low : {X : Type 0} (xs : List X) (k : ℕ) (x : X) → slice_get xs k ≡ Some x → k < length xs
got-low [] k x is = absurd (cc)
got-low (y ∷ xs) zero x is = omega arith
got-low (y ∷ xs) (suc k) x is = let rest = got-low xs k x is in omega (arith, rest)

got-rest : (xs : List Sent) (k : ℕ) (x : Sent) → slice_get xs k ≡ Some x → sent_burden (drop k xs) ≡ burden x.segment.content + sent_burden (drop (suc k) xs)
unfolding sent_burden
got-rest [] k x is = absurd (cc)
got-rest (y ∷ xs) zero x is = let same : y ≡ x = cc in ap (λ (d : Sent). burden d.segment.content + sent_burden xs) same
got-rest (y ∷ xs) (suc k) x is = got-rest xs k x is

drop-more : {X : Type 0} (k : ℕ) (xs ys : List X) → k ≤ length xs → drop k (xs ++ ys) ≡ drop k xs ++ ys
drop-more zero xs ys low = refl
drop-more (suc k) [] ys low = absurd (omega (arith, low))
drop-more (suc k) (x ∷ xs) ys low = drop-more k xs ys (omega (arith, low))

taken-turn : Placed → List Placed → Turn
taken-turn e es = record { event = deliver e.place; left = es }

module _ (parties : Party × Party) (d : Crossing) (e : Placed) (es : List Placed) (timed : AreTimed parties) (reached : IsReached parties d.world)
    (got : slice_get d.world.sent e.place ≡ Some e.sent) (new : d.new ≡ e ∷ es) where
  abbrev next : World
  next = happens parties d.world (deliver e.place)

  added : List Sent
  added = since d.world (happens parties d.world (deliver e.place))

  adds : (happens parties d.world (deliver e.place)).sent ≡ d.world.sent ++ since d.world (happens parties d.world (deliver e.place))
  adds = delivered-sent parties d.world e.place

  link-falls : link_left (happens parties d.world (deliver e.place)) (suc e.place) < link_left d.world e.place
  link-falls = subst (λ o. link_left (delivered parties d.world o) (suc e.place) < link_left d.world e.place) (sym got)
      (delivery-falls parties d.world e.place e.sent (reached-tame parties d.world timed reached) got)

  left-of-link : sent_burden (drop (suc e.place) (happens parties d.world (deliver e.place)).sent)
      ≡ sent_burden (drop (suc e.place) d.world.sent) + sent_burden (since d.world (happens parties d.world (deliver e.place)))
  unfolding added
  left-of-link =
      ap (λ (sent : List Sent). sent_burden (drop (suc e.place) sent)) adds
      ∙ (ap sent_burden (drop-more (suc e.place) d.world.sent added (let low = got-low d.world.sent e.place e.sent got in omega (arith, low)))
      ∙ sent_burden-append (drop (suc e.place) d.world.sent) added)

  left-of-new : sent_burden (sent_of (es ++ placed_from (length d.world.sent) (since d.world (happens parties d.world (deliver e.place)))))
      ≡ sent_burden (sent_of es) + sent_burden (since d.world (happens parties d.world (deliver e.place)))
  unfolding added
  left-of-new =
      ap sent_burden (sent_of-append es (placed_from (length d.world.sent) added) ∙ ap (λ (ds : List Sent). sent_of es ++ ds) (sent_of-placed (length d.world.sent) added))
      ∙ sent_burden-append (sent_of es) added

  before-new : sent_burden (sent_of d.new) ≡ burden e.sent.segment.content + sent_burden (sent_of es)
  unfolding sent_burden
  before-new = ap (λ (new : List Placed). sent_burden (sent_of new)) new

  pub crossing-falls : crossing_left (after_turn parties d (record { event = deliver e.place; left = es })) < crossing_left d
  crossing-falls =
      let falls = link-falls in
      let here = got-rest d.world.sent e.place e.sent got in
      let of_link = left-of-link in
      let of_new = left-of-new in
      let first = before-new in
      omega (arith, falls, here, of_link, of_new, first)

-- ---- one more turn

ends-now : (top : ℕ) (parties : Party × Party) (d : Crossing) → IsOverTurn top (next_turn d.world d.new) → EndsTurns top parties d []
unfolding after_turns
ends-now top parties d over = record { next = tt; early = tt; over = over }

ends-more : (top : ℕ) (parties : Party × Party) (d : Crossing) (t : Turn) (rest : List Turn) → next_turn d.world d.new ≡ Some t → IsBefore top t.event
    → EndsTurns top parties (after_turn parties d t) rest → EndsTurns top parties d (t ∷ rest)
unfolding after_turns
ends-more top parties d t rest is early on = record { next = (is, on.next); early = (early, on.early); over = on.over }

clock-now : (parties : Party × Party) (w : World) (now : ℕ) → w.now < now → (happens parties w (clock now)).now ≡ now
clock-now parties w now later = now-of-tick parties w now ∙ (let high : nat_lt now w.now ≡ false = grind (arith, nat_tests) in rw high refl)

abbrev EndsLower : ℕ → Party × Party → Crossing → Onward → Type 0
EndsLower top parties d same = (e : Crossing) → Goes parties e → crossing_left e < crossing_left d → e.world.now ≡ d.world.now → EndsTurns top parties e (same e)

abbrev EndsLater : ℕ → Party × Party → Crossing → Onward → Type 0
EndsLater top parties d later = (e : Crossing) → Goes parties e → d.world.now < e.world.now → e.world.now < top → EndsTurns top parties e (later e)

module _ (top : ℕ) (parties : Party × Party) (timed : AreTimed parties) (d : Crossing) (goes : Goes parties d) (same later : Onward)
    (lower : EndsLower top parties d same) (on : EndsLater top parties d later) where
  by_clock : (now : ℕ) → d.new ≡ [] → link_deadline d.world ≡ Some now → (b : Bool) → nat_lt now top ≡ b
      → EndsTurns top parties d (if b then turn_then parties d (record { event = clock now; left = [] }) later else [])
  by_clock now none due b test = by_test b test
    where
      is : next_turn d.world d.new ≡ Some (record { event = clock now; left = [] })
      is = ap (next_turn d.world) none ∙ ap (λ (o : Option ℕ). option_map (λ now. record { event = clock now; left = [] }) o) due

      ahead : d.world.now < now
      ahead = reached-ahead parties d.world timed goes.reached now due

      by_test : (b : Bool) → nat_lt now top ≡ b
          → EndsTurns top parties d (if b then turn_then parties d (record { event = clock now; left = [] }) later else [])
      by_test true early =
          let before : now < top = ltb-true now top early in
          let far = ahead in
          let shows = clock-now parties d.world now ahead in
          ends-more top parties d (record { event = clock now; left = [] }) (later (after_turn parties d (record { event = clock now; left = [] }))) is before
          (on (after_turn parties d (record { event = clock now; left = [] }))
          (goes-after parties d (record { event = clock now; left = [] }) goes.reached (λ e none. absurd none) (clock-sent parties d.world now))
          (omega (arith, far, shows)) (omega (arith, before, shows)))
      by_test false late = ends-now top parties d (subst (IsOverTurn top) (sym is) (ltb-false now top late))

  pub ends-next : EndsTurns top parties d (next_and_on top parties d same later (next_turn d.world d.new))
  ends-next = by_new d.new refl
    where
      by_due : (due : Option ℕ) → link_deadline d.world ≡ due → d.new ≡ []
          → EndsTurns top parties d (next_and_on top parties d same later (option_map (λ now. record { event = clock now; left = [] }) due))
      by_due None due none = ends-now top parties d (subst (IsOverTurn top) (sym (ap (next_turn d.world) none
          ∙ ap (λ (o : Option ℕ). option_map (λ now. record { event = clock now; left = [] }) o) due)) tt)
      by_due (Some now) due none = by_clock now none due (nat_lt now top) refl

      by_new : (new : List Placed) → d.new ≡ new → EndsTurns top parties d (next_and_on top parties d same later (next_turn d.world new))
      by_new [] none = by_due (link_deadline d.world) refl none
      by_new (e ∷ es) some =
          let got : slice_get d.world.sent e.place ≡ Some e.sent = goes.placed e (subst (IsIn e) (sym some) (inl refl)) in
          ends-more top parties d (record { event = deliver e.place; left = es }) (same (after_turn parties d (record { event = deliver e.place; left = es })))
          (ap (next_turn d.world) some) tt
          (lower (after_turn parties d (record { event = deliver e.place; left = es }))
          (goes-after parties d (record { event = deliver e.place; left = es }) goes.reached
          (λ x among. goes.placed x (subst (IsIn x) (sym some) (inr among))) (delivered-sent parties d.world e.place))
          (crossing-falls parties d e es timed goes.reached got some)
          (now-of-delivered parties d.world (slice_get d.world.sent e.place)))

ends-within : (top : ℕ) (parties : Party × Party) → AreTimed parties → (m n : ℕ) (d : Crossing) → Goes parties d → top - d.world.now < m → crossing_left d < n
    → EndsTurns top parties d (turns_within m n top parties d)
unfolding turns_within
ends-within top parties timed zero n d goes few less = absurd (omega (arith, few))
ends-within top parties timed (suc m) zero d goes few less = absurd (omega (arith, less))
ends-within top parties timed (suc m) (suc n) d goes few less =
    ends-next top parties timed d goes (turns_within (suc m) n top parties)
    (λ e. turns_within m (suc (crossing_left e)) top parties e)
    (λ e g lower same. ends-within top parties timed (suc m) n e g (omega (arith, few, same)) (omega (arith, less, lower)))
    (λ e g later before. ends-within top parties timed m (suc (crossing_left e)) e g (omega (arith, few, later, before)) (omega arith))

pub turns-made : (top : ℕ) (parties : Party × Party) (d : Crossing) → AreTimed parties → Goes parties d → EndsTurns top parties d (turns_after top parties d)
unfolding turns_after
turns-made top parties d timed goes = ends-within top parties timed _ _ d goes (omega arith) (omega arith)

-- ---- there is no other

goes-no-further : (top : ℕ) (o : Option Turn) (t : Turn) → IsOverTurn top o → o ≡ Some t → IsBefore top t.event → ⊥
goes-no-further top None t over is early = absurd (cc)
goes-no-further top (Some x) t over is early =
    let same : x ≡ t = cc in
    by_event t.event (subst (λ (y : Turn). IsOverBy top (Some y.event)) same over) early
  where
    by_event : (event : Event) → IsOverBy top (Some event) → IsBefore top event → ⊥
    by_event (submit end block red) over early = over
    by_event (deliver k) over early = over
    by_event (clock now) over early = absurd (omega (arith, over, early))

no-more : (top : ℕ) (parties : Party × Party) (d : Crossing) (t : Turn) (rest : List Turn) → EndsTurns top parties d [] → EndsTurns top parties d (t ∷ rest) → ⊥
unfolding after_turns
no-more top parties d t rest over ends = goes-no-further top (next_turn d.world d.new) t over.over ends.next.0 ends.early.0

ends-on : (top : ℕ) (parties : Party × Party) (d : Crossing) (t : Turn) (rest : List Turn) → EndsTurns top parties d (t ∷ rest)
    → EndsTurns top parties (after_turn parties d t) rest
unfolding after_turns
ends-on top parties d t rest ends = record { next = ends.next.1; early = ends.early.1; over = ends.over }

pub one-end : (top : ℕ) (parties : Party × Party) (d : Crossing) (xs ys : List Turn) → EndsTurns top parties d xs → EndsTurns top parties d ys → xs ≡ ys
one-end top parties d [] [] first second = refl
one-end top parties d [] (y ∷ ys) first second = absurd (no-more top parties d y ys first second)
one-end top parties d (x ∷ xs) [] first second = absurd (no-more top parties d x xs second first)
one-end top parties d (x ∷ xs) (y ∷ ys) first second =
    let same : y ≡ x = some-is (sym second.next.0 ∙ first.next.0) in
    let on : EndsTurns top parties (after_turn parties d x) ys =
    subst (λ (z : Turn). EndsTurns top parties (after_turn parties d z) ys) same (ends-on top parties d y ys second) in
    let rest = one-end top parties (after_turn parties d x) xs ys (ends-on top parties d x xs first) on in
    rw (same, rest) refl
  where
    some-is : {a b : Turn} → Some a ≡ Some b → a ≡ b
    some-is is = cc
