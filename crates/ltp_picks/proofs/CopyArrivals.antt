-- What is new, and what is old, once a segment came.

use Rattle.std.proofs.Common.{◌≡◌, ℕ, zero, suc, ◌+◌, Bool, true, false, ◌==◌, List, [], ◌∷◌, ◌++◌}
use Rattle.std.proofs.Common.{◌&&◌, length, Some, ◌⊎◌, inl, inr, refl, sym, ◌∙◌, ap, arith, subst}
use Rattle.std.proofs.lemmas.Bool.{and_parts, eqb-false, eqb-true}
use Rattle.std.specs.List.{slice_get}
use Rattle.ltp_segment.specs.Values.{ContentValue}
use Rattle.ltp_session.specs.World.{End, Sent, World}
use Rattle.ltp_laws.specs.View.{IsIn, is_of, said, same_end}
use Rattle.ltp_laws.proofs.RunLemmas.{in-left, in-right}
use Rattle.ltp_drain.specs.Draining.{since}
use Rattle.ltp_drain.proofs.DrainLists.{said-oldest, said-oldest_other, said-skip, said-take}
use Rattle.ltp_drain.proofs.DrainLists.{same_end-true}
use Rattle.ltp_picks.specs.Asking.{IsOldOf}
use Rattle.ltp_picks.specs.Picks.{Crossing, Placed, Turn, placed_from}
use Rattle.ltp_picks.proofs.CrossingLemmas.{Takes, sent_of, sent_of-append, sent_of-placed}
use Rattle.ltp_picks.proofs.FrontRows.{Arrives, comes_again, comes_first}

-- a drain in the next world; of what was new these are left
abbrev pub crossed : Crossing → List Placed → World → Crossing
crossed d left w' = record {
  world = w';
  new = left ++ placed_from (length d.world.sent) (since d.world w');
}

pub crossed-new : (d : Crossing) (left : List Placed) (w' : World)
    → sent_of (crossed d left w').new ≡ sent_of left ++ since d.world w'
crossed-new d left w' = sent_of-append left _
    ∙ ap (λ (ds : List Sent). sent_of left ++ ds)
    (sent_of-placed (length d.world.sent) (since d.world w'))

-- ---- what is left of what was new

-- a segment that came once it was new isn't new any more; nothing else is new no more
pub record Shortens (k k' : ℕ) (d : Crossing) (place : ℕ) (x : Sent) (left : List Placed)
    : Type 0 where
  pub got : slice_get d.world.sent place ≡ Some x
  pub others : (e : Placed) → IsIn e left → IsIn e d.new
  pub either : (e : Placed) → IsIn e d.new → IsIn e left ⊎ (e.place ≡ place)
  pub away :
      (who : End) (p n : ℕ) → is_of who p n x ≡ false
      → said who p n (sent_of d.new) ≡ said who p n (sent_of left)
  pub here :
      (who : End) (p n : ℕ) → is_of who p n x ≡ true
      → Arrives (IsOldOf d who p n x.segment.content) x.segment.content
      (said who p n (sent_of d.new)) (said who p n (sent_of left)) k k'

-- a segment of session n of p, from an end
pub record IsBy (who : End) (p n : ℕ) (x : Sent) : Type 0 where
  pub from : x.from ≡ who
  pub originator : x.segment.originator ≡ p
  pub session : x.segment.session ≡ n

pub by-parts : (who : End) (p n : ℕ) (x : Sent) → is_of who p n x ≡ true → IsBy who p n x
by-parts who p n x is =
    let both = and_parts (same_end x.from who && (x.segment.originator == p))
    (x.segment.session == n) is in
    let first = and_parts (same_end x.from who) (x.segment.originator == p) both.0 in
    record {
      from = same_end-true x.from who first.0;
      originator = eqb-true x.segment.originator p first.1;
      session = eqb-true x.segment.session n both.1;
    }

pub new-shortens : (k : ℕ) (d : Crossing) (from : End) (t : Turn) (takes : Takes from d.new t)
    → slice_get d.world.sent takes.first.place ≡ Some takes.first.sent
    → Shortens k k d takes.first.place takes.first.sent t.left
new-shortens k d from t takes got = record {
  got = got;
  others = takes.others;
  either = λ e among. by_either e (takes.either e among);
  away = λ who p n apart. by_end who p n apart (same_end from who) refl;
  here = λ who p n is. comes_first (here who p n is) refl;
}
  where
    x : Sent
    x = takes.first.sent

    by_either : (e : Placed) → (takes.first ≡ e) ⊎ IsIn e t.left
        → IsIn e t.left ⊎ (e.place ≡ takes.first.place)
    by_either e (inl one) = inr (ap (λ (e : Placed). e.place) (sym one))
    by_either e (inr among) = inl among

    by_end : (who : End) (p n : ℕ) → is_of who p n takes.first.sent ≡ false → (same : Bool)
        → same_end from who ≡ same
        → said who p n (sent_of d.new) ≡ said who p n (sent_of t.left)
    by_end who p n apart true same =
        subst (λ (e : End). said e p n (sent_of d.new) ≡ said e p n (sent_of t.left))
        (same_end-true from who same)
        (said-oldest from p n (sent_of d.new) (record { first = x; others = sent_of t.left })
        takes.is
        ∙ said-skip from p n x (sent_of t.left)
        (subst (λ (e : End). is_of e p n takes.first.sent ≡ false)
        (sym (same_end-true from who same)) apart))
    by_end who p n apart false same = said-oldest_other from who p n (sent_of d.new)
        (record { first = x; others = sent_of t.left }) same takes.is

    here : (who : End) (p n : ℕ) → is_of who p n takes.first.sent ≡ true
        → said who p n (sent_of d.new)
        ≡ takes.first.sent.segment.content ∷ said who p n (sent_of t.left)
    here who p n is =
        let one : from ≡ who =
        sym (same_end-true takes.first.sent.from from takes.mine) ∙ (by-parts who p n x is).from in
        subst (λ (e : End). said e p n (sent_of d.new)
        ≡ takes.first.sent.segment.content ∷ said e p n (sent_of t.left)) one
        (said-oldest from p n (sent_of d.new) (record { first = x; others = sent_of t.left })
        takes.is
        ∙ said-take from p n x (sent_of t.left)
        (subst (λ (e : End). is_of e p n takes.first.sent ≡ true) (sym one) is))

pub old-shortens : (k : ℕ) (d : Crossing) (place : ℕ) (x : Sent)
    → slice_get d.world.sent place ≡ Some x → ((e : Placed) → IsIn e d.new → e.place ≡ place → ⊥)
    → Shortens (k + 1) k d place x d.new
old-shortens k d place x got old = record {
  got = got;
  others = λ e among. among;
  either = λ e among. inl among;
  away = λ who p n apart. refl;
  here = λ who p n is. comes_again (record {
    place = place;
    sent = x;
    there = got;
    of = is;
    content = refl;
    old = old;
  }) refl refl;
}

-- ---- what is old then

-- what stands at a place stood there, or was added
pub get-either : {X : Type 0} (xs ys : List X) (k : ℕ) (y : X) → slice_get (xs ++ ys) k ≡ Some y
    → (slice_get xs k ≡ Some y) ⊎ ((i : ℕ) × (k ≡ length xs + i) × (slice_get ys i ≡ Some y))
get-either [] ys k y is = inr (k, omega arith, is)
get-either (x ∷ xs) ys zero y is = inl is
get-either (x ∷ xs) ys (suc k) y is = by_rest (get-either xs ys k y is)
  where
    by_rest : (slice_get xs k ≡ Some y)
        ⊎ ((i : ℕ) × (k ≡ length xs + i) × (slice_get ys i ≡ Some y))
        → (slice_get (x ∷ xs) (suc k) ≡ Some y)
        ⊎ ((i : ℕ) × (suc k ≡ length (x ∷ xs) + i) × (slice_get ys i ≡ Some y))
    by_rest (inl here) = inl here
    by_rest (inr added) = inr (added.0, omega (arith, added.1), added.2)

-- what is added is new at its place
record IsPlacedIn (k : ℕ) (es : List Placed) : Type 0 where
  e : Placed
  among : IsIn e es
  at : e.place ≡ k

placed-there : (k i : ℕ) (ds : List Sent) (y : Sent) → slice_get ds i ≡ Some y
    → IsPlacedIn (k + i) (placed_from k ds)
unfolding placed_from
placed-there k i [] y is = absurd (cc)
placed-there k zero (d ∷ ds) y is = record {
  e = record { place = k; sent = d };
  among = inl refl;
  at = omega arith;
}
placed-there k (suc i) (d ∷ ds) y is =
    let rest = placed-there (k + 1) i ds y is in
    record { e = rest.e; among = inr rest.among; at = omega (arith, rest.at) }

pub old-before : (k k' : ℕ) (d : Crossing) (place : ℕ) (x : Sent) (left : List Placed) (w' : World)
    → w'.sent ≡ d.world.sent ++ since d.world w' → Shortens k k' d place x left → (who : End)
    (p n : ℕ) (c : ContentValue) → IsOldOf (crossed d left w') who p n c
    → IsOldOf d who p n c ⊎ ((c ≡ x.segment.content) × (is_of who p n x ≡ true))
old-before k k' d place x left w' adds short who p n c was =
    by_place (get-either d.world.sent (since d.world w') was.place was.sent
    (subst (λ (ds : List Sent). slice_get ds was.place ≡ Some was.sent) adds was.there))
  where
    To : Type 0
    To = IsOldOf d who p n c ⊎ ((c ≡ x.segment.content) × (is_of who p n x ≡ true))

    by_same : slice_get d.world.sent was.place ≡ Some was.sent → (same : Bool)
        → (place == was.place) ≡ same
        → IsOldOf d who p n c ⊎ ((c ≡ x.segment.content) × (is_of who p n x ≡ true))
    by_same there true same =
        let here : slice_get d.world.sent was.place ≡ Some x =
        subst (λ (i : ℕ). slice_get d.world.sent i ≡ Some x) (eqb-true place was.place same)
        short.got in
        let both : Some x ≡ Some was.sent = sym here ∙ there in
        let one : x ≡ was.sent = cc (both) in
        inr (
          sym was.content ∙ ap (λ (d : Sent). d.segment.content) (sym one),
          ap (is_of who p n) one ∙ was.of,
        )
    by_same there false same = inl (record {
      place = was.place;
      sent = was.sent;
      there = there;
      of = was.of;
      content = was.content;
      old = λ e among. by_either e (short.either e among);
    })
      where
        by_either : (e : Placed) → IsIn e left ⊎ (e.place ≡ place) → e.place ≡ was.place → ⊥
        by_either e (inl still) is =
            was.old e (in-left e left (placed_from (length d.world.sent) (since d.world w')) still) is
        by_either e (inr gone) is = eqb-false place was.place same (sym gone ∙ is)

    by_place : (slice_get d.world.sent was.place ≡ Some was.sent)
        ⊎ ((i : ℕ) × (was.place ≡ length d.world.sent + i)
        × (slice_get (since d.world w') i ≡ Some was.sent)) → To
    by_place (inl there) = by_same there (place == was.place) refl
    by_place (inr added) =
        let new = placed-there (length d.world.sent) added.0 (since d.world w') was.sent added.2 in
        absurd (was.old new.e (in-right new.e left
        (placed_from (length d.world.sent) (since d.world w')) new.among) (new.at ∙ sym added.1))
