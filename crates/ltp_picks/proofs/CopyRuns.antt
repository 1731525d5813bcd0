-- Turns of a drain with old copies, one after the other: those of picks, and those after them.

use Rattle.std.proofs.Common.{◌≡◌, ℕ, ◌+◌, ◌*◌, ◌≤◌, Bool, true, false, not, ◌==◌, ◌||◌, List, []}
use Rattle.std.proofs.Common.{◌∷◌, ◌++◌, length, Option, None, Some, inl, inr, refl, sym, ◌∙◌, ap}
use Rattle.std.proofs.Common.{arith, subst, nat_lt, if◌then◌else◌}
use Rattle.std.proofs.lemmas.Bool.{and_parts, eq-eqb, ltb-true}
use Rattle.std.specs.List.{list_any, slice_get}
use Rattle.ltp_session.specs.Engine.{Party}
use Rattle.ltp_session.specs.World.{ArePeers, End, Sent, World, at_end, deliver}
use Rattle.ltp_laws.specs.View.{IsIn}
use Rattle.ltp_laws.proofs.RunLemmas.{in-left, in-right}
use Rattle.ltp_drain.specs.Effects.{EndEffects, effects_at, effects_in}
use Rattle.ltp_drain.specs.Hopeful.{AreAlike}
use Rattle.ltp_drain.specs.Standing.{AllAdvance, sum_of}
use Rattle.ltp_drain.proofs.CleanSteps.{taken}
use Rattle.ltp_drain.proofs.DrainRun.{all-still}
use Rattle.ltp_drain.proofs.CompletionLemmas.{advances-on}
use Rattle.ltp_picks.specs.Picks.{AreNext, Crossing, Pick, Placed, Turn, after_pick}
use Rattle.ltp_picks.specs.Picks.{after_picks, after_turn, after_turns, as_turns, copies}
use Rattle.ltp_picks.specs.Picks.{copies_of, events_of, is_old, old_copy, oldest_of}
use Rattle.ltp_picks.specs.Picks.{oldest_turn, or_clock, pick_turn, picked_turns}
use Rattle.ltp_picks.specs.PickedRuns.{NoneTurnedAway}
use Rattle.ltp_picks.proofs.CopyComes.{Carries}
use Rattle.ltp_picks.proofs.CopyTurns.{CarriesOn, copy-carries, turn-carries}
use Rattle.ltp_picks.proofs.CrossingSteps.{next-turn, oldest-turn}
use Rattle.ltp_picks.proofs.EffectLemmas.{noted-among}

-- ---- turns, one after the other

-- from one place of a drain turns lead to another, where k old copies were to come and k' are
pub record CarriesTo (parties : Party × Party) (k k' : ℕ) (d : Crossing) (rank : End → ℕ → ℕ)
    (turns : List Turn) (d' : Crossing) : Type 0 where
  pub rank' : End → ℕ → ℕ
  pub carries : Carries parties k' d' rank'
  pub bound : length turns + sum_of d'.world rank' + 3 * k' ≤ sum_of d.world rank + 3 * k
  pub advances :
      AllAdvance parties d.world d'.world (effects_in parties d.world (events_of turns))
  pub next : (o : End) → (at_end d'.world.engines o).next ≡ (at_end d.world.engines o).next

no-turns : (parties : Party × Party) (k : ℕ) (d : Crossing) (rank : End → ℕ → ℕ)
    → Carries parties k d rank → CarriesTo parties k k d rank [] d
unfolding effects_in
no-turns parties k d rank carries = record {
  rank' = rank;
  carries = carries;
  bound = omega arith;
  advances = all-still parties d.world [];
  next = λ o. refl;
}

one-turn : (parties : Party × Party) (k k₁ k' : ℕ) (d : Crossing) (rank : End → ℕ → ℕ) (t : Turn)
    (turns : List Turn) (d' : Crossing)
    → (on : CarriesOn parties k k₁ d rank (after_turn parties d t).world t.left
    (effects_at parties d.world t.event))
    → CarriesTo parties k₁ k' (after_turn parties d t) on.rank' turns d'
    → CarriesTo parties k k' d rank (t ∷ turns) d'
unfolding effects_in
one-turn parties k k₁ k' d rank t turns d' on rest = record {
  rank' = rest.rank';
  carries = rest.carries;
  bound = omega (arith, rest.bound, on.less);
  advances = advances-on parties d.world (after_turn parties d t).world d'.world
      (effects_at parties d.world t.event)
      (effects_in parties (after_turn parties d t).world (events_of turns))
      on.advances rest.advances;
  next = λ o. rest.next o ∙ on.next o;
}

spared-first : (xs ys : List EndEffects) → NoneTurnedAway (xs ++ ys) → NoneTurnedAway xs
spared-first xs ys spared = record {
  evicted = λ end n is. spared.evicted end n
      (noted-among xs (xs ++ ys) end _ (λ e. in-left e xs ys) is);
  full = λ end n is. spared.full end n
      (noted-among xs (xs ++ ys) end _ (λ e. in-left e xs ys) is);
}

spared-later : (xs ys : List EndEffects) → NoneTurnedAway (xs ++ ys) → NoneTurnedAway ys
spared-later xs ys spared = record {
  evicted = λ end n is. spared.evicted end n
      (noted-among ys (xs ++ ys) end _ (λ e. in-right e xs ys) is);
  full = λ end n is. spared.full end n
      (noted-among ys (xs ++ ys) end _ (λ e. in-right e xs ys) is);
}

abbrev pub AreSpared : Party × Party → World → List Turn → Type 0
AreSpared parties w turns = NoneTurnedAway (effects_in parties w (events_of turns))

first-spared : (parties : Party × Party) (d : Crossing) (t : Turn) (turns : List Turn)
    → AreSpared parties d.world (t ∷ turns) → NoneTurnedAway (effects_at parties d.world t.event)
unfolding effects_in
first-spared parties d t turns spared = spared-first (effects_at parties d.world t.event)
    (effects_in parties (after_turn parties d t).world (events_of turns)) spared

rest-spared : (parties : Party × Party) (d : Crossing) (t : Turn) (turns : List Turn)
    → AreSpared parties d.world (t ∷ turns)
    → AreSpared parties (after_turn parties d t).world turns
unfolding effects_in
rest-spared parties d t turns spared = spared-later (effects_at parties d.world t.event)
    (effects_in parties (after_turn parties d t).world (events_of turns)) spared

-- ---- after the picks, and the picks before

rest-carry : (parties : Party × Party) → ArePeers parties → AreAlike parties → (k : ℕ)
    → (turns : List Turn) (d : Crossing) (rank : End → ℕ → ℕ) → AreNext parties d turns
    → AreSpared parties d.world turns → Carries parties k d rank
    → CarriesTo parties k k d rank turns (after_turns parties d turns)
unfolding after_turns
rest-carry parties peers alike k [] d rank are spared carries = no-turns parties k d rank carries
rest-carry parties peers alike k (t ∷ turns) d rank are spared carries =
    let on = turn-carries parties k d rank t peers alike carries (next-turn d t are.0)
    (first-spared parties d t turns spared) in
    one-turn parties k k k d rank t turns (after_turns parties (after_turn parties d t) turns) on
    (rest-carry parties peers alike k turns (after_turn parties d t) on.rank' are.1
    (rest-spared parties d t turns spared) on.carries)

-- an old segment that is there, and isn't new
record IsThere (d : Crossing) (k : ℕ) : Type 0 where
  x : Sent
  got : slice_get d.world.sent k ≡ Some x
  old : (e : Placed) → IsIn e d.new → e.place ≡ k → ⊥

none-at : (k : ℕ) (es : List Placed) → not (list_any (λ (e : Placed). e.place == k) es) ≡ true
    → (e : Placed) → IsIn e es → e.place ≡ k → ⊥
none-at k [] none e among is = among
none-at k (x ∷ es) none e among is =
    by_test (x.place == k) refl none among (λ rest there. none-at k es rest e there is)
  where
    by_test : (here : Bool) → (x.place == k) ≡ here
        → not (here || list_any (λ (e : Placed). e.place == k) es) ≡ true
        → IsIn e (x ∷ es)
        → (not (list_any (λ (e : Placed). e.place == k) es) ≡ true → IsIn e es → ⊥) → ⊥
    by_test true here none among deeper = cc
    by_test false here none (inl one) deeper =
        let yes : (x.place == k) ≡ true =
        eq-eqb x.place k (ap (λ (e : Placed). e.place) one ∙ is) in
        cc
    by_test false here none (inr there) deeper = deeper none there

is-there : (d : Crossing) (k : ℕ) → is_old d k ≡ true → IsThere d k
is-there d k is =
    let both = and_parts (nat_lt k (length d.world.sent))
    (not (list_any (λ (e : Placed). e.place == k) d.new)) is in
    let there = taken d.world.sent k (ltb-true k (length d.world.sent) both.0) in
    record { x = there.x; got = there.got; old = none-at k d.new both.1 }

pub picks-carry : (parties : Party × Party) → ArePeers parties → AreAlike parties
    → (picks : List Pick) (rest : List Turn) (d : Crossing) (rank : End → ℕ → ℕ)
    → AreNext parties (after_picks parties d picks) rest
    → AreSpared parties d.world (picked_turns parties d picks ++ rest)
    → Carries parties (copies parties d picks) d rank
    → CarriesTo parties (copies parties d picks) 0 d rank (picked_turns parties d picks ++ rest)
    (after_turns parties (after_picks parties d picks) rest)
unfolding picked_turns after_picks copies
picks-carry parties peers alike [] rest d rank are spared carries =
    rest-carry parties peers alike 0 rest d rank are spared carries
picks-carry parties peers alike (old_copy k ∷ picks) rest d rank are spared carries =
    by_test (is_old d k) refl are spared carries
    (λ d' rank' are' spared' carries'. picks-carry parties peers alike picks rest d' rank' are'
    spared' carries')
  where
    by_test : (b : Bool) → is_old d k ≡ b
        → AreNext parties (after_picks parties (after_pick parties d
        (if b then Some (record { event = deliver k; left = d.new }) else None)) picks) rest
        → AreSpared parties d.world
        ((as_turns (if b then Some (record { event = deliver k; left = d.new }) else None)
        ++ picked_turns parties (after_pick parties d
        (if b then Some (record { event = deliver k; left = d.new }) else None)) picks) ++ rest)
        → Carries parties (copies_of (old_copy k)
        (if b then Some (record { event = deliver k; left = d.new }) else None)
        + copies parties (after_pick parties d
        (if b then Some (record { event = deliver k; left = d.new }) else None)) picks) d rank
        → ((d' : Crossing) (rank' : End → ℕ → ℕ)
        → AreNext parties (after_picks parties d' picks) rest
        → AreSpared parties d'.world (picked_turns parties d' picks ++ rest)
        → Carries parties (copies parties d' picks) d' rank'
        → CarriesTo parties (copies parties d' picks) 0 d' rank'
        (picked_turns parties d' picks ++ rest)
        (after_turns parties (after_picks parties d' picks) rest))
        → CarriesTo parties (copies_of (old_copy k)
        (if b then Some (record { event = deliver k; left = d.new }) else None)
        + copies parties (after_pick parties d
        (if b then Some (record { event = deliver k; left = d.new }) else None)) picks) 0 d rank
        ((as_turns (if b then Some (record { event = deliver k; left = d.new }) else None)
        ++ picked_turns parties (after_pick parties d
        (if b then Some (record { event = deliver k; left = d.new }) else None)) picks) ++ rest)
        (after_turns parties (after_picks parties (after_pick parties d
        (if b then Some (record { event = deliver k; left = d.new }) else None)) picks) rest)
    by_test false not_old are spared carries further =
        subst (λ (c : ℕ). CarriesTo parties c 0 d rank (picked_turns parties d picks ++ rest)
        (after_turns parties (after_picks parties d picks) rest)) none
        (further d rank are spared
        (subst (λ (c : ℕ). Carries parties c d rank) (sym none) carries))
      where
        none : copies parties d picks ≡ 0 + copies parties d picks
        none = omega arith
    by_test true old are spared carries further =
        let there = is-there d k old in
        let t : Turn = record { event = deliver k; left = d.new } in
        let d' : Crossing = after_turn parties d (record { event = deliver k; left = d.new }) in
        let one : copies parties d' picks + 1 ≡ 1 + copies parties d' picks = omega arith in
        let on = copy-carries parties (copies parties d' picks) d rank k there.x peers
        (subst (λ (c : ℕ). Carries parties c d rank) (sym one) carries) there.got there.old
        (first-spared parties d t (picked_turns parties d' picks ++ rest) spared) in
        subst (λ (c : ℕ). CarriesTo parties c 0 d rank
        (record { event = deliver k; left = d.new }
        ∷ (picked_turns parties (after_turn parties d (record { event = deliver k; left = d.new }))
        picks ++ rest))
        (after_turns parties (after_picks parties
        (after_turn parties d (record { event = deliver k; left = d.new })) picks) rest)) one
        (one-turn parties (copies parties d' picks + 1) (copies parties d' picks) 0 d rank t
        (picked_turns parties d' picks ++ rest)
        (after_turns parties (after_picks parties d' picks) rest) on
        (further d' on.rank' are
        (rest-spared parties d t (picked_turns parties d' picks ++ rest) spared) on.carries))
picks-carry parties peers alike (oldest_of from ∷ picks) rest d rank are spared carries =
    by_turn (pick_turn d (oldest_of from)) refl are spared carries
    (λ d' rank' are' spared' carries'. picks-carry parties peers alike picks rest d' rank' are'
    spared' carries')
  where
    by_turn : (x : Option Turn) → or_clock d.world d.new (oldest_turn from d.new) ≡ x
        → AreNext parties (after_picks parties (after_pick parties d x) picks) rest
        → AreSpared parties d.world
        ((as_turns x ++ picked_turns parties (after_pick parties d x) picks) ++ rest)
        → Carries parties (0 + copies parties (after_pick parties d x) picks) d rank
        → ((d' : Crossing) (rank' : End → ℕ → ℕ)
        → AreNext parties (after_picks parties d' picks) rest
        → AreSpared parties d'.world (picked_turns parties d' picks ++ rest)
        → Carries parties (copies parties d' picks) d' rank'
        → CarriesTo parties (copies parties d' picks) 0 d' rank'
        (picked_turns parties d' picks ++ rest)
        (after_turns parties (after_picks parties d' picks) rest))
        → CarriesTo parties (0 + copies parties (after_pick parties d x) picks) 0 d rank
        ((as_turns x ++ picked_turns parties (after_pick parties d x) picks) ++ rest)
        (after_turns parties (after_picks parties (after_pick parties d x) picks) rest)
    by_turn None nothing are spared carries further =
        subst (λ (c : ℕ). CarriesTo parties c 0 d rank (picked_turns parties d picks ++ rest)
        (after_turns parties (after_picks parties d picks) rest)) none
        (further d rank are spared
        (subst (λ (c : ℕ). Carries parties c d rank) (sym none) carries))
      where
        none : copies parties d picks ≡ 0 + copies parties d picks
        none = omega arith
    by_turn (Some t) some are spared carries further =
        let d' : Crossing = after_turn parties d t in
        let none : copies parties d' picks ≡ 0 + copies parties d' picks = omega arith in
        let on = turn-carries parties (copies parties d' picks) d rank t peers alike
        (subst (λ (c : ℕ). Carries parties c d rank) (sym none) carries)
        (oldest-turn d from t some)
        (first-spared parties d t (picked_turns parties d' picks ++ rest) spared) in
        subst (λ (c : ℕ). CarriesTo parties c 0 d rank
        (t ∷ (picked_turns parties (after_turn parties d t) picks ++ rest))
        (after_turns parties (after_picks parties (after_turn parties d t) picks) rest)) none
        (one-turn parties (copies parties d' picks) (copies parties d' picks) 0 d rank t
        (picked_turns parties d' picks ++ rest)
        (after_turns parties (after_picks parties d' picks) rest) on
        (further d' on.rank' are
        (rest-spared parties d t (picked_turns parties d' picks ++ rest) spared) on.carries))
