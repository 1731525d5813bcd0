-- What an arrival in a drain leaves of the room of a link, and of what is on its way.

use Rattle.std.proofs.Common.{◌≡◌, ℕ, ◌+◌, ◌≤◌, Bool, true, false, not, ◌==◌, List, [], ◌∷◌}
use Rattle.std.proofs.Common.{length, take, Option, None, Some, inl, inr, refl, sym, ◌∙◌, ap}
use Rattle.std.proofs.Common.{arith, subst, if◌then◌else◌}
use Rattle.std.proofs.lemmas.Bool.{eqb-true, eqb-false}
use Rattle.ltp_session.specs.Engine.{Engine, Reply, with_receiver, with_sender}
use Rattle.ltp_session.specs.Receiver.{Receiving}
use Rattle.ltp_session.specs.Sender.{Sending}
use Rattle.ltp_session.specs.Step.{Change, StepValue, after, ends, keeps, stays}
use Rattle.ltp_session.specs.Table.{AreAscending, find, put, without}
use Rattle.ltp_laws.specs.HandUps.{up_of}
use Rattle.ltp_laws.specs.View.{IsIn}
use Rattle.ltp_laws.proofs.FrameLemmas.{find-with_receiver, senders-with_receiver}
use Rattle.ltp_laws.proofs.FrameLemmas.{find-with_receiver_other}
use Rattle.ltp_laws.proofs.TableLemmas.{find-put, find-put_other, find-without}
use Rattle.ltp_laws.proofs.TableLemmas.{find-without_other, self_eqb}
use Rattle.ltp_drain.proofs.RoomSteps.{NoMore, need-received, need-received_peer, need-sent}
use Rattle.ltp_drain.proofs.RoomSteps.{need-sent_peer, same-need}
use Rattle.path_drain.specs.OnTheWay.{is_handed_up, is_on_its_way, sum_on_way}
use Rattle.path_drain.specs.RoomKept.{SendsRed}
use Rattle.path_drain.proofs.Arrivals.{Arrived, IsAwaited, StaysUp, by_receiver, by_sender}
use Rattle.path_drain.proofs.Arrivals.{kept-of, unheard}
use Rattle.path_drain.proofs.WayLemmas.{OfBlock, way-less, way-most, way-settled}

-- the engine after a reply, or none
abbrev pub engine_after : Engine → Option Reply → Engine
engine_after e None = e
engine_after e (Some r) = r.engine

-- ---- room

abbrev pub Needs : Engine → Engine → Engine → Type 0
Needs e f e' = NoMore e f e' f × NoMore f e f e'

pub arrived-needs : (e f : Engine) (n : ℕ) (x : Option Reply) → Arrived e f n x
    → AreAscending 0 e.senders → AreAscending 0 e.receivers → Needs e f (engine_after e x)
arrived-needs e f n x (unheard is) senders receivers =
    subst (λ x. Needs e f (engine_after e x)) (sym is) (same-need e f, same-need f e)
arrived-needs e f n x (by_sender t is of room) senders receivers =
    subst (λ x. Needs e f (engine_after e x)) (sym is) (
      need-sent e f n t.next senders (kept-of n e.senders t.next of),
      need-sent_peer e f n t.next senders (kept-of n e.senders t.next of),
    )
arrived-needs e f n x (by_receiver t is of stays_up ups room) senders receivers =
    subst (λ x. Needs e f (engine_after e x)) (sym is)
    (need-received e f n t.next receivers of, need-received_peer e f n t.next)

-- ---- what is on its way to the engine

-- what is added for a block that is handed up
abbrev pub counted : (List ℕ → ℕ) → Option (List ℕ) → ℕ
counted count None = 0
counted count (Some body) = count body

-- an entry of a table is found
pub found-in : {S : Type 0} (entry : ℕ × S) (es : List (ℕ × S)) → IsIn entry es
    → (s : S) × (find entry.0 es ≡ Some s)
unfolding find
found-in entry [] among = absurd among
found-in entry (e ∷ es) (inl is) = by_test (e.0 == entry.0)
    (ap (λ k. k == entry.0) (ap (λ (x : ℕ × _). x.0) is) ∙ self_eqb entry.0)
  where
    by_test : (same : Bool) → same ≡ true
        → (s : _) × ((if same then Some e.1 else find entry.0 es) ≡ Some s)
    by_test true is_same = (e.1, refl)
    by_test false is_same = absurd (cc)
found-in entry (e ∷ es) (inr among) = by_test (e.0 == entry.0) (found-in entry es among)
  where
    by_test : (same : Bool) → (s : _) × (find entry.0 es ≡ Some s)
        → (s : _) × ((if same then Some e.1 else find entry.0 es) ≡ Some s)
    by_test true rest = (e.1, refl)
    by_test false rest = rest

pub not-true : (b : Bool) → not b ≡ true → b ≡ false
not-true true is = absurd (cc)
not-true false is = refl

-- what is on its way then was so before
still-on_way : (e f : Engine) (n : ℕ) (c : Change Receiving) → StaysUp e f n c
    → (entry : ℕ × Sending) → IsIn entry f.senders
    → is_on_its_way (with_receiver e n c).receivers entry.0 ≡ true
    → is_on_its_way e.receivers entry.0 ≡ true
still-on_way e f n c stays_up entry among is = by_test (entry.0 == n) refl
  where
    down : is_handed_up (find entry.0 (with_receiver e n c).receivers) ≡ false
    down = not-true (is_handed_up (find entry.0 (with_receiver e n c).receivers)) is

    here : entry.0 ≡ n → is_handed_up (find entry.0 e.receivers) ≡ false
    here same = by_up (is_handed_up (find entry.0 e.receivers)) refl
      where
        by_up : (b : Bool) → is_handed_up (find entry.0 e.receivers) ≡ b
            → is_handed_up (find entry.0 e.receivers) ≡ false
        by_up false was = was
        by_up true was = absurd (
            let found = found-in entry f.senders among in
            let up : is_handed_up (after c (find n e.receivers)) ≡ true =
            stays_up found.0 (subst (λ k. find k f.senders ≡ Some found.0) same found.1)
            (subst (λ k. is_handed_up (find k e.receivers) ≡ true) same was) in
            let up_here : is_handed_up (find entry.0 (with_receiver e n c).receivers) ≡ true =
            subst (λ k. is_handed_up (find k (with_receiver e n c).receivers) ≡ true) (sym same)
            (ap is_handed_up (find-with_receiver e n c) ∙ up) in
            cc)

    by_test : (same : Bool) → (entry.0 == n) ≡ same → is_on_its_way e.receivers entry.0 ≡ true
    by_test true same = ap not (here (eqb-true entry.0 n same))
    by_test false apart =
        ap not (ap is_handed_up (sym (find-with_receiver_other e entry.0 n c
        (eqb-false entry.0 n apart))) ∙ down)

take-all : (block : List ℕ) → take (length block) block ≡ block
take-all [] = refl
take-all (x ∷ block) = ap (λ rest. x ∷ rest) (take-all block)

received-way : (count : List ℕ → ℕ) (e f : Engine) (n : ℕ) (t : StepValue Receiving)
    → SendsRed f → StaysUp e f n t.next
    → ((body : List ℕ) → t.up ≡ Some body → IsAwaited e f n t body)
    → (up : Option (List ℕ)) → t.up ≡ up
    → sum_on_way count (with_receiver e n t.next).receivers f.senders + counted count up
    ≤ sum_on_way count e.receivers f.senders
received-way count e f n t reds stays_up ups None is =
    omega (
      arith,
      way-most count e.receivers (with_receiver e n t.next).receivers f.senders
          (still-on_way e f n t.next stays_up),
    )
received-way count e f n t reds stays_up ups (Some body) is =
    let a = ups body is in
    let whole : body ≡ (a.sender).block = a.front
    ∙ ap (λ k. take k (a.sender).block) (reds.red n a.sender a.kept) ∙ take-all (a.sender).block in
    let less = way-less count e.receivers (with_receiver e n t.next).receivers n a.sender f.senders
    (still-on_way e f n t.next stays_up) (ap not a.before)
    (ap not (ap is_handed_up (find-with_receiver e n t.next) ∙ a.now)) a.kept in
    omega (arith, less, ap count whole)

-- at the gate: what is on its way to it is less by the block that it hands up
pub arrived-way : (count : List ℕ → ℕ) (e f : Engine) (n : ℕ) (x : Option Reply)
    → Arrived e f n x → SendsRed f
    → sum_on_way count (engine_after e x).receivers f.senders + counted count (up_of x)
    ≤ sum_on_way count e.receivers f.senders
arrived-way count e f n x (unheard is) reds =
    subst (λ x. sum_on_way count (engine_after e x).receivers f.senders + counted count (up_of x)
    ≤ sum_on_way count e.receivers f.senders) (sym is) (omega arith)
arrived-way count e f n x (by_sender t is of room) reds =
    subst (λ x. sum_on_way count (engine_after e x).receivers f.senders + counted count (up_of x)
    ≤ sum_on_way count e.receivers f.senders) (sym is) (omega arith)
arrived-way count e f n x (by_receiver t is of stays_up ups room) reds =
    subst (λ x. sum_on_way count (engine_after e x).receivers f.senders + counted count (up_of x)
    ≤ sum_on_way count e.receivers f.senders) (sym is)
    (received-way count e f n t reds stays_up ups t.up refl)

-- ---- what is on its way from the engine

-- at a node: what is on its way from it is no more
pub arrived-sent : (count : List ℕ → ℕ) (rs : List (ℕ × Receiving)) (e f : Engine) (n : ℕ)
    (x : Option Reply) → Arrived e f n x → AreAscending 0 e.senders
    → sum_on_way count rs (engine_after e x).senders ≤ sum_on_way count rs e.senders
arrived-sent count rs e f n x (unheard is) ascending =
    subst (λ x. sum_on_way count rs (engine_after e x).senders ≤ sum_on_way count rs e.senders)
    (sym is) (omega arith)
arrived-sent count rs e f n x (by_sender t is of room) ascending =
    subst (λ x. sum_on_way count rs (engine_after e x).senders ≤ sum_on_way count rs e.senders)
    (sym is) (way-settled count rs n t.next e.senders ascending of)
arrived-sent count rs e f n x (by_receiver t is of stays_up ups room) ascending =
    subst (λ x. sum_on_way count rs (engine_after e x).senders ≤ sum_on_way count rs e.senders)
    (sym is)
    (subst (λ es. sum_on_way count rs es ≤ sum_on_way count rs e.senders)
    (sym (senders-with_receiver e n t.next)) (omega arith))

-- ---- blocks are all red still

settled-red : (n : ℕ) (c : Change Sending) (e : Engine) → OfBlock n e.senders c → SendsRed e
    → SendsRed (with_sender e n c)
settled-red n stays e of reds = record { red = reds.red }
settled-red n (keeps x) e (s, kept, same, same_red) reds = record { red = red }
  where
    red : (m : ℕ) (s' : Sending) → find m (put n x e.senders) ≡ Some s' → s'.red ≡ length s'.block
    red m s' is = by_test (m == n) refl
      where
        by_test : (b : Bool) → (m == n) ≡ b → s'.red ≡ length s'.block
        by_test true here =
            let at : find m (put n x e.senders) ≡ Some x =
            ap (λ k. find k (put n x e.senders)) (eqb-true m n here) ∙ find-put n x e.senders in
            let one : x ≡ s' = cc in
            subst (λ (y : Sending). y.red ≡ length y.block) one
            (same_red ∙ reds.red n s kept ∙ sym (ap length same))
        by_test false apart = reds.red m s'
            (sym (find-put_other m n x e.senders (eqb-false m n apart)) ∙ is)
settled-red n ends e of reds = record { red = red }
  where
    red : (m : ℕ) (s' : Sending) → find m (without n e.senders) ≡ Some s'
        → s'.red ≡ length s'.block
    red m s' is = by_test (m == n) refl
      where
        by_test : (b : Bool) → (m == n) ≡ b → s'.red ≡ length s'.block
        by_test true here = absurd (
            let none : find m (without n e.senders) ≡ None =
            ap (λ k. find k (without n e.senders)) (eqb-true m n here) ∙ find-without n e.senders in
            cc)
        by_test false apart = reds.red m s'
            (sym (find-without_other m n e.senders (eqb-false m n apart)) ∙ is)

pub arrived-red : (e f : Engine) (n : ℕ) (x : Option Reply) → Arrived e f n x → SendsRed e
    → SendsRed (engine_after e x)
arrived-red e f n x (unheard is) reds =
    subst (λ x. SendsRed (engine_after e x)) (sym is) reds
arrived-red e f n x (by_sender t is of room) reds =
    subst (λ x. SendsRed (engine_after e x)) (sym is) (settled-red n t.next e of reds)
arrived-red e f n x (by_receiver t is of stays_up ups room) reds =
    subst (λ x. SendsRed (engine_after e x)) (sym is) (record {
      red = λ m s kept. reds.red m s
          (ap (λ es. find m es) (sym (senders-with_receiver e n t.next)) ∙ kept);
    })
