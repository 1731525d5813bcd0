-- What a drain with picks is to the laws of a drain: new segments, and those after a turn.

use Rattle.std.proofs.Common.{◌≡◌, ℕ, zero, suc, ◌+◌, Bool, true, false, List, [], ◌∷◌}
use Rattle.std.proofs.Common.{◌++◌, length, drop, map, Option, None, Some, ◌⊎◌, inl, inr, refl, sym}
use Rattle.std.proofs.Common.{◌∙◌, ap, arith, subst, nat_lt, if◌then◌else◌, append_assoc}
use Rattle.std.proofs.lemmas.List.{append-nil}
use Rattle.std.specs.List.{slice_get}
use Rattle.ltp_session.specs.Engine.{Party}
use Rattle.ltp_session.specs.World.{End, Sent, World, clock, deliver, delivered}
use Rattle.ltp_session.specs.World.{first_end, happens, other, second_end, ticks}
use Rattle.ltp_laws.specs.View.{IsIn, same_end}
use Rattle.ltp_drain.specs.Draining.{Draining, oldest, since}
use Rattle.ltp_drain.proofs.CleanSteps.{drop-end, since-arrival}
use Rattle.ltp_drain.proofs.DrainLists.{drop-front}
use Rattle.ltp_drain.proofs.DrainRun.{sent-ticked, ticked-new, ticked-world, ticks-are}
use Rattle.ltp_picks.specs.Picks.{Crossing, Placed, Turn, behind_new}
use Rattle.ltp_picks.specs.Picks.{oldest_turn, placed_from}

-- ---- segments without their places

abbrev pub sent_of : List Placed → List Sent
sent_of es = map (λ e. e.sent) es

abbrev pub draining_of : Crossing → Draining
draining_of d = record { world = d.world; new = sent_of d.new }

pub sent_of-append : (xs ys : List Placed) → sent_of (xs ++ ys) ≡ sent_of xs ++ sent_of ys
sent_of-append [] ys = refl
sent_of-append (x ∷ xs) ys = ap (λ (ds : List Sent). x.sent ∷ ds) (sent_of-append xs ys)

pub sent_of-placed : (k : ℕ) (ds : List Sent) → sent_of (placed_from k ds) ≡ ds
unfolding placed_from
sent_of-placed k [] = refl
sent_of-placed k (d ∷ ds) = ap (λ (xs : List Sent). d ∷ xs) (sent_of-placed (k + 1) ds)

pub in-append : {X : Type 0} (x : X) (xs ys : List X) → IsIn x (xs ++ ys) → IsIn x xs ⊎ IsIn x ys
in-append x [] ys among = inr among
in-append x (z ∷ xs) ys (inl here) = inl (inl here)
in-append x (z ∷ xs) ys (inr among) = by_rest (in-append x xs ys among)
  where
    by_rest : IsIn x xs ⊎ IsIn x ys → IsIn x (z ∷ xs) ⊎ IsIn x ys
    by_rest (inl left) = inl (inr left)
    by_rest (inr right) = inr right

-- ---- the oldest new segment of an end

pub record Takes (from : End) (new : List Placed) (t : Turn) : Type 0 where
  pub first : Placed
  pub event : t.event ≡ deliver first.place
  pub among : IsIn first new
  pub others : (e : Placed) → IsIn e t.left → IsIn e new
  pub either : (e : Placed) → IsIn e new → (first ≡ e) ⊎ IsIn e t.left
  pub is :
      oldest from (sent_of new)
      ≡ Some (record { first = first.sent; others = sent_of t.left })
  pub mine : same_end first.sent.from from ≡ true

takes-first : (from : End) (e : Placed) (es : List Placed) → same_end e.sent.from from ≡ true
    → Takes from (e ∷ es) (record { event = deliver e.place; left = es })
unfolding oldest
takes-first from e es mine = record {
  first = e;
  event = refl;
  among = inl refl;
  others = λ x among. inr among;
  either = λ x among. among;
  is = rw mine refl;
  mine = mine;
}

takes-later : (from : End) (e : Placed) (es : List Placed) (t : Turn)
    → same_end e.sent.from from ≡ false → Takes from es t
    → Takes from (e ∷ es) (record { event = t.event; left = e ∷ t.left })
unfolding oldest
takes-later from e es t apart takes = record {
  first = takes.first;
  event = takes.event;
  among = inr takes.among;
  others = others;
  either = either;
  is = rw (apart, takes.is) refl;
  mine = takes.mine;
}
  where
    others : (x : Placed) → IsIn x (e ∷ t.left) → IsIn x (e ∷ es)
    others x (inl here) = inl here
    others x (inr among) = inr (takes.others x among)

    by_either : (x : Placed) → (takes.first ≡ x) ⊎ IsIn x t.left
        → (takes.first ≡ x) ⊎ IsIn x (e ∷ t.left)
    by_either x (inl one) = inl one
    by_either x (inr among) = inr (inr among)

    either : (x : Placed) → IsIn x (e ∷ es) → (takes.first ≡ x) ⊎ IsIn x (e ∷ t.left)
    either x (inl here) = inr (inl here)
    either x (inr among) = by_either x (takes.either x among)

pub oldest-takes : (from : End) (new : List Placed) (t : Turn) → oldest_turn from new ≡ Some t
    → Takes from new t
unfolding oldest_turn
oldest-takes from [] t is = absurd (cc)
oldest-takes from (e ∷ es) t is =
    by_test (same_end e.sent.from from) refl is (λ x found. oldest-takes from es x found)
  where
    by_rest : (o : Option Turn) → oldest_turn from es ≡ o → behind_new e o ≡ Some t
        → same_end e.sent.from from ≡ false
        → ((x : Turn) → oldest_turn from es ≡ Some x → Takes from es x)
        → Takes from (e ∷ es) t
    by_rest None none is apart deeper = absurd (cc)
    by_rest (Some x) some is apart deeper =
        let one : record { event = x.event; left = e ∷ x.left } ≡ t = cc in
        subst (Takes from (e ∷ es)) one (takes-later from e es x apart (deeper x some))

    by_test : (mine : Bool) → same_end e.sent.from from ≡ mine
        → (if mine then Some (record { event = deliver e.place; left = es })
        else behind_new e (oldest_turn from es)) ≡ Some t
        → ((x : Turn) → oldest_turn from es ≡ Some x → Takes from es x)
        → Takes from (e ∷ es) t
    by_test true mine is deeper =
        let one : record { event = deliver e.place; left = es } ≡ t = cc in
        subst (Takes from (e ∷ es)) one (takes-first from e es mine)
    by_test false apart is deeper = by_rest (oldest_turn from es) refl is apart deeper

-- ---- places

-- each stands at its place
abbrev pub ArePlaced : List Sent → List Placed → Type 0
ArePlaced sent es = (e : Placed) → IsIn e es → slice_get sent e.place ≡ Some e.sent

get-left : {X : Type 0} (xs ys : List X) (k : ℕ) (x : X) → slice_get xs k ≡ Some x
    → slice_get (xs ++ ys) k ≡ Some x
get-left [] ys k x is = absurd (cc)
get-left (z ∷ xs) ys zero x is = is
get-left (z ∷ xs) ys (suc k) x is = get-left xs ys k x is

get-at : {X : Type 0} (xs : List X) (y : X) (ys : List X) → slice_get (xs ++ y ∷ ys) (length xs)
    ≡ Some y
get-at [] y ys = refl
get-at (x ∷ xs) y ys = get-at xs y ys

-- what is added stands at the places after all that was sent
pub placed-added : (sent added : List Sent) (e : Placed)
    → IsIn e (placed_from (length sent) added) → slice_get (sent ++ added) e.place ≡ Some e.sent
unfolding placed_from
placed-added sent [] e among = absurd among
placed-added sent (d ∷ ds) e (inl here) =
    subst (λ (e : Placed). slice_get (sent ++ d ∷ ds) e.place ≡ Some e.sent) here
    (get-at sent d ds)
placed-added sent (d ∷ ds) e (inr among) =
    subst (λ (xs : List Sent). slice_get xs e.place ≡ Some e.sent)
    (append_assoc sent (d ∷ []) ds)
    (placed-added (sent ++ d ∷ []) ds e
    (subst (λ (k : ℕ). IsIn e (placed_from k ds)) (one-more sent d) among))
  where
    one-more : (xs : List Sent) (x : Sent) → length xs + 1 ≡ length (xs ++ x ∷ [])
    one-more [] x = refl
    one-more (z ∷ xs) x = omega (arith, one-more xs x)

pub placed-after : (sent added : List Sent) (left : List Placed) → ArePlaced sent left
    → ArePlaced (sent ++ added) (left ++ placed_from (length sent) added)
placed-after sent added left placed e among =
    by_side (in-append e left (placed_from (length sent) added) among)
  where
    by_side : IsIn e left ⊎ IsIn e (placed_from (length sent) added)
        → slice_get (sent ++ added) e.place ≡ Some e.sent
    by_side (inl old) = get-left sent added e.place e.sent (placed e old)
    by_side (inr new) = placed-added sent added e new

-- ---- what an event adds

pub clock-sent : (parties : Party × Party) (w : World) (now : ℕ)
    → (happens parties w (clock now)).sent ≡ w.sent ++ since w (happens parties w (clock now))
clock-sent parties w now = by_test (nat_lt now w.now)
  where
    Adds : World → Type 0
    Adds w' = w'.sent ≡ w.sent ++ since w w'

    ticked : Adds (ticked-world parties w now)
    ticked = sent-ticked parties w now
        ∙ ap (λ (ds : List Sent). w.sent ++ ds)
        (sym (drop-front w.sent (ticked-new parties w now))
        ∙ ap (drop (length w.sent)) (sym (sent-ticked parties w now)))

    by_test : (b : Bool)
        → Adds (if b then w else ticks parties now second_end (ticks parties now first_end w))
    by_test true = sym (ap (λ (ds : List Sent). w.sent ++ ds)
        (drop-end w.sent (length w.sent) (omega arith)) ∙ append-nil w.sent)
    by_test false = subst Adds (sym (ticks-are parties w now)) ticked

pub delivered-sent : (parties : Party × Party) (w : World) (k : ℕ)
    → (happens parties w (deliver k)).sent ≡ w.sent ++ since w (happens parties w (deliver k))
delivered-sent parties w k = by_segment (slice_get w.sent k)
  where
    by_segment : (x : Option Sent)
        → (delivered parties w x).sent ≡ w.sent ++ since w (delivered parties w x)
    by_segment None = sym (ap (λ (ds : List Sent). w.sent ++ ds)
        (drop-end w.sent (length w.sent) (omega arith)) ∙ append-nil w.sent)
    by_segment (Some d) = since-arrival parties w (other d.from) d.segment
