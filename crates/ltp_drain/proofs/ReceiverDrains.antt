-- A delivery to a receiver keeps the session calm and costs one.

use Rattle.std.proofs.Common.{◌≡◌, ℕ, ◌+◌, ◌<◌, ◌≤◌, ◌^◌, Bool, true, false, not, ◌==◌, ◌||◌}
use Rattle.std.proofs.Common.{nat_lt, List, [], ◌∷◌, ◌++◌, length, Option, None, Some, ◌⊎◌, inl}
use Rattle.std.proofs.Common.{inr, refl, sym, ◌∙◌, ap, arith, subst, if◌then◌else◌}
use Rattle.std.proofs.lemmas.Bool.{ne_eqb}
use Rattle.ltp_segment.specs.Kinds.{is_red, is_checkpoint}
use Rattle.ltp_segment.specs.Policy.{PolicyValue}
use Rattle.ltp_segment.specs.Values.{PieceValue, ContentValue, a_piece, a_report, a_report_ack}
use Rattle.ltp_segment.specs.Values.{a_sender_cancel, a_sender_cancel_ack, a_receiver_cancel}
use Rattle.ltp_segment.specs.Values.{a_receiver_cancel_ack}
use Rattle.ltp_session.specs.Receiver.{on_report_ack, Admission, Receiving, is_cancelling, on_piece}
use Rattle.ltp_session.specs.Receiver.{piece_stop, receiver_answers}
use Rattle.ltp_session.specs.Sender.{Sending}
use Rattle.ltp_session.specs.Step.{Change, StepValue, after, ends, keeps, stays}
use Rattle.ltp_laws.specs.Blocks.{IsContentOf}
use Rattle.ltp_laws.specs.View.{IsIn, View, closed_after, receiver_moves}
use Rattle.ltp_laws.proofs.ListLemmas.{answered, both_arms, by_arms}
use Rattle.ltp_laws.proofs.SerialLemmas.{all-among, among-append, among-left}
use Rattle.ltp_laws.proofs.StepLemmas.{met}
use Rattle.ltp_drain.specs.Calm.{WaitsOn, Calm, Drains, Falls, Given, HasSerials, IsComing}
use Rattle.ltp_drain.specs.Calm.{NoCancels, Onward, Setting, is_cancel}
use Rattle.ltp_drain.specs.Hopeful.{IsHanded, IsKeptSender}
use Rattle.ltp_drain.specs.Rank.{weight, weights}
use Rattle.ltp_drain.proofs.OnwardLemmas.{onward-asking, onward-rank, onward-reporting}
use Rattle.ltp_drain.proofs.PieceForms.{fills_only, Comes, answers, passes, piece-comes, takes}
use Rattle.ltp_drain.proofs.RankLemmas.{weights-append}
use Rattle.ltp_drain.proofs.ReceiverRows.{Acks, ack-onward, acks-kept, another, clears, closes}
use Rattle.ltp_drain.proofs.ReceiverRows.{nobody, piece-onward}

-- ---- calm

pub no_cancels-append : (xs ys : List ContentValue) → NoCancels xs → NoCancels ys
    → NoCancels (xs ++ ys)
no_cancels-append xs ys none_xs none_ys c among = go (among-append c xs ys among)
  where
    go : IsIn c xs ⊎ IsIn c ys → is_cancel c ≡ false
    go (inl left) = none_xs c left
    go (inr right) = none_ys c right

pub no_cancels-none : (out : List ContentValue) → out ≡ [] → NoCancels out
no_cancels-none out is c among = absurd (subst (IsIn c) is among)

pub no_cancels-one : (e : ContentValue) (out : List ContentValue) → is_cancel e ≡ false
    → out ≡ e ∷ [] → NoCancels out
no_cancels-one e out plain is c among = go (subst (IsIn c) is among)
  where
    go : IsIn c (e ∷ []) → is_cancel c ≡ false
    go (inl here) = ap is_cancel (sym here) ∙ plain
    go (inr none) = absurd none

pub among-more : (xs ys said : List ContentValue) → ((c : ContentValue) → IsIn c xs → IsIn c said)
    → (c : ContentValue) → IsIn c (xs ++ ys) → IsIn c (said ++ ys)
among-more xs ys said before c among = go (among-append c xs ys among)
  where
    right : (zs : List ContentValue) → IsIn c ys → IsIn c (zs ++ ys)
    right [] now = now
    right (z ∷ zs) now = inr (right zs now)

    go : IsIn c xs ⊎ IsIn c ys → IsIn c (said ++ ys)
    go (inl left) = among-left c said ys (before c left)
    go (inr now) = right said now

-- what a receiver's step must be
record Goes (session : ℕ) (v : View) (t : StepValue Receiving) : Type 0 where
  listening : (r' : Receiving) → after t.next v.receiver ≡ Some r'
      → is_cancelling r'.phase ≡ false
  out : NoCancels t.out
  unclosed : (s : Sending) → v.sender ≡ Some s → closed_after t.next v.closed ≡ false
  done : (v.closed ≡ true) ⊎ IsHanded v.receiver → (closed_after t.next v.closed ≡ true)
      ⊎ IsHanded (after t.next v.receiver)
  serial : (r' : Receiving) → after t.next v.receiver ≡ Some r'
      → r'.serial ≤ (met session v.receiver).serial + 1

calm-received : (limit_s limit_r session red : ℕ) (v : View) (t : StepValue Receiving)
    (e : ContentValue) (new_s new_r : List ContentValue)
    → Calm limit_s limit_r v (e ∷ new_s) new_r
    → Onward red v (receiver_moves v t) (e ∷ new_s) new_r new_s (new_r ++ t.out)
    → Goes session v t
    → Calm limit_s limit_r (receiver_moves v t) new_s (new_r ++ t.out)
calm-received limit_s limit_r session red v t e new_s new_r calm on goes = record {
  sending = calm.sending;
  receiving = goes.listening;
  none_s = λ c among. calm.none_s c (inr among);
  none_r = no_cancels-append new_r t.out calm.none_r goes.out;
  asking = onward-asking (λ timer. timer.times < limit_s) red v (receiver_moves v t)
      (e ∷ new_s) new_r new_s (new_r ++ t.out) on calm.asking;
  reporting = onward-reporting (λ p. (p.timer).times < limit_r) red v (receiver_moves v t)
      (e ∷ new_s) new_r new_s (new_r ++ t.out) on calm.reporting;
  unclosed = goes.unclosed;
  awaited = λ q among red_kind. awaited q (calm.awaited q (inr among) red_kind);
  heard_s = λ c among. calm.heard_s c (inr among);
  heard_r = among-more new_r t.out v.by_receiver calm.heard_r;
}
  where
    awaited : (q : PieceValue) → IsKeptSender v.sender ⊎ ((v.closed ≡ true) ⊎ IsHanded v.receiver)
        → IsKeptSender v.sender ⊎ ((closed_after t.next v.closed ≡ true)
        ⊎ IsHanded (after t.next v.receiver))
    awaited q (inl is_open) = inl is_open
    awaited q (inr is_done) = inr (goes.done is_done)

pub met-serial : (session : ℕ) (v : View) (n : ℕ) → HasSerials session v n
    → (met session v.receiver).serial + n < 2 ^ 32
met-serial session v n serials = by_kept v.receiver refl
  where
    by_kept : (o : Option Receiving) → v.receiver ≡ o → (met session o).serial + n < 2 ^ 32
    by_kept None is = serials.fresh
    by_kept (Some r) is = serials.receiver r is

serials-received : (session : ℕ) (v : View) (t : StepValue Receiving) (n left : ℕ)
    → HasSerials session v n → left < n → Goes session v t
    → HasSerials session (receiver_moves v t) left
serials-received session v t n left serials less goes = record {
  sender = λ s c timer kept waits. omega (arith, serials.sender s c timer kept waits, less);
  receiver = λ r' kept. omega (arith, goes.serial r' kept, met-serial session v n serials, less);
  fresh = omega (arith, serials.fresh, less);
}

falls-received : (at : Setting) (v : View) (t : StepValue Receiving) (e : ContentValue)
    (new_s new_r : List ContentValue) (n : ℕ)
    → Drains at v (e ∷ new_s) new_r n → Onward at.red v (receiver_moves v t)
    (e ∷ new_s) new_r new_s (new_r ++ t.out) → Goes at.session v t
    → weights t.out < weight e → Falls at (receiver_moves v t) new_s (new_r ++ t.out) n
unfolding weights
falls-received at v t e new_s new_r n drains on goes lighter =
    let falls = onward-rank at.z at.red v (receiver_moves v t) (e ∷ new_s) new_r new_s
    (new_r ++ t.out) n on (omega (arith, weights-append new_r t.out, lighter)) drains.rank in
    record {
      left = falls.left;
      less = falls.less;
      drains = record {
        calm = calm-received at.limit_s at.limit_r at.session at.red v t e new_s new_r drains.calm
            on goes;
        rank = falls.rank;
        serials = serials-received at.session v t n falls.left drains.serials falls.less goes;
        fit = drains.fit;
        low = drains.low;
      };
    }

-- ---- what each row's step is

stays-closed : (ch : Change Receiving) (closed : Bool) → closed ≡ true
    → closed_after ch closed ≡ true
stays-closed stays closed is = is
stays-closed (keeps r) closed is = is
stays-closed ends closed is = refl

-- the session is kept, with one like before
kept-goes : (session : ℕ) (v : View) (t : StepValue Receiving) (r' : Receiving)
    → t.next ≡ keeps r' → NoCancels t.out → ((s : Sending) → v.sender ≡ Some s → v.closed ≡ false)
    → is_cancelling r'.phase ≡ false → (IsHanded v.receiver → r'.handed_up ≡ true)
    → r'.serial ≤ (met session v.receiver).serial + 1 → Goes session v t
kept-goes session v t r' next none unclosed listening handed serial = record {
  listening = λ r'' kept. subst (λ (r : Receiving). is_cancelling r.phase ≡ false)
      (only r'' kept) listening;
  out = none;
  unclosed = λ s is. subst (λ ch. closed_after ch v.closed ≡ false) (sym next) (unclosed s is);
  done = done;
  serial = λ r'' kept. subst (λ (r : Receiving). r.serial ≤ (met session v.receiver).serial + 1)
      (only r'' kept) serial;
}
  where
    only : (r'' : Receiving) → after t.next v.receiver ≡ Some r'' → r' ≡ r''
    only r'' kept = let here : Some r' ≡ Some r'' =
        subst (λ ch. after ch v.receiver ≡ Some r'') next kept in cc

    done : (v.closed ≡ true) ⊎ IsHanded v.receiver → (closed_after t.next v.closed ≡ true)
        ⊎ IsHanded (after t.next v.receiver)
    done (inl closed) = inl (stays-closed t.next v.closed closed)
    done (inr was) = inr (subst (λ ch. IsHanded (after ch v.receiver)) (sym next) (handed was))

handed-met : (session : ℕ) (o : Option Receiving) → IsHanded o → (met session o).handed_up ≡ true
handed-met session None is = absurd is
handed-met session (Some r) is = is

-- nothing of it is kept, and nothing was
none-goes : (session : ℕ) (v : View) (t : StepValue Receiving) → t.next ≡ stays → NoCancels t.out
    → v.receiver ≡ None → ((s : Sending) → v.sender ≡ Some s → v.closed ≡ false)
    → Goes session v t
none-goes session v t next out none unclosed = record {
  listening = λ r' kept. absurd (never r' kept);
  out = out;
  unclosed = λ s is. subst (λ ch. closed_after ch v.closed ≡ false) (sym next) (unclosed s is);
  done = λ was. subst (λ ch. (closed_after ch v.closed ≡ true) ⊎ IsHanded (after ch v.receiver))
      (sym next) was;
  serial = λ r' kept. absurd (never r' kept);
}
  where
    never : (r' : Receiving) → after t.next v.receiver ≡ Some r' → ⊥
    never r' kept = let here : v.receiver ≡ Some r' =
        subst (λ ch. after ch v.receiver ≡ Some r') next kept in cc

comes-goes : (place : Admission) (v : View) (q : PieceValue) (t : StepValue Receiving)
    → ((s : Sending) → v.sender ≡ Some s → v.closed ≡ false)
    → Comes place v.receiver q t → Goes place.session v t
comes-goes place v q t unclosed (passes next out none why) = none-goes place.session v t next
    (no_cancels-none t.out out) none unclosed
comes-goes place v q t unclosed (takes opens (fills_only r' plain next out grows phase serial)) =
    kept-goes place.session v t r' next (no_cancels-none t.out out) unclosed grows.listening
    (λ was. grows.handed (handed-met place.session v.receiver was)) (omega (arith, serial))
comes-goes place v q t unclosed (takes opens (answers r' timer asks next out grows pending
    serial)) =
    kept-goes place.session v t r' next (no_cancels-one _ t.out refl out) unclosed grows.listening
    (λ was. grows.handed (handed-met place.session v.receiver was)) (omega (arith, serial))

comes-weight : (place : Admission) (o : Option Receiving) (q : PieceValue) (t : StepValue Receiving)
    → Comes place o q t → weights t.out < weight (a_piece q)
unfolding weights
comes-weight place o q t (passes next out none why) = by_kind (is_checkpoint q.kind)
  where
    by_kind : (b : Bool) → weights t.out < (if b then 3 else 1)
    by_kind true = omega (arith, ap weights out)
    by_kind false = omega (arith, ap weights out)
comes-weight place o q t (takes opens (fills_only r' plain next out grows phase serial)) =
    by_kind (is_checkpoint q.kind)
  where
    by_kind : (b : Bool) → weights t.out < (if b then 3 else 1)
    by_kind true = omega (arith, ap weights out)
    by_kind false = omega (arith, ap weights out)
comes-weight place o q t (takes opens (answers r' timer asks next out grows pending serial)) =
    subst (λ (b : Bool). weights t.out < (if b then 3 else 1)) (sym asks)
    (omega (arith, ap weights out))

weightless : weights [] < 1
unfolding weights
weightless = omega arith

acks-weight : (n : ℕ) (o : Option Receiving) (t : StepValue Receiving) → Acks n o t → t.out ≡ []
acks-weight n o t (nobody none next out) = out
acks-weight n o t (another r is next out other_one) = out
acks-weight n o t (clears r r' is next out cells handed serial phase) = out
acks-weight n o t (closes r p is pending whole named next out) = out

acks-goes : (block : List ℕ) (red most session n : ℕ) (v : View) (t : StepValue Receiving)
    → Given block red most v → IsIn (a_report_ack n) v.by_sender
    → ((s : Sending) → v.sender ≡ Some s → WaitsOn s)
    → ((s : Sending) → v.sender ≡ Some s → v.closed ≡ false)
    → ((r : Receiving) → v.receiver ≡ Some r → is_cancelling r.phase ≡ false)
    → Acks n v.receiver t → Goes session v t
acks-goes block red most session n v t given sent waiting unclosed listening
    (nobody none next out) = none-goes session v t next (no_cancels-none t.out out) none unclosed
acks-goes block red most session n v t given sent waiting unclosed listening
    (another r is next out other_one) =
    kept-goes session v t r next (no_cancels-none t.out out) unclosed (listening r is)
    (λ was. subst IsHanded is was)
    (subst (λ o. r.serial ≤ (met session o).serial + 1) (sym is) (omega arith))
acks-goes block red most session n v t given sent waiting unclosed listening
    (clears r r' is next out cells handed serial phase) =
    kept-goes session v t r' next (no_cancels-none t.out out) unclosed (ap is_cancelling phase)
    (λ was. handed ∙ subst IsHanded is was)
    (subst (λ o. r'.serial ≤ (met session o).serial + 1) (sym is) (omega (arith, serial)))
acks-goes block red most session n v t given sent waiting unclosed listening
    (closes r p is pending whole named next out) = record {
      listening = λ r' kept. absurd (let here : None ≡ Some r' = subst
          (λ ch. after ch v.receiver ≡ Some r') next kept in cc);
      out = no_cancels-none t.out out;
      unclosed = λ s is_s.
          let waits = waiting s is_s in
          absurd (given.closes r p is pending whole
          (subst (λ m. IsIn (a_report_ack m) v.by_sender) (sym named) sent) s waits.checkpoint
          waits.timer is_s waits.is);
      done = λ was. inl (ap (λ ch. closed_after ch v.closed) next);
      serial = λ r' kept. absurd (let here : None ≡ Some r' = subst
          (λ ch. after ch v.receiver ≡ Some r') next kept in cc);
    }

-- ---- the rows

-- a red piece of a session that the receiver doesn't know comes from an open sender
is-coming : (v : View) (q : PieceValue) → IsKeptSender v.sender
    ⊎ ((v.closed ≡ true) ⊎ IsHanded v.receiver) → v.receiver ≡ None → v.closed ≡ false
    → IsComing v
is-coming v q (inl is_open) none unclosed = (is_open, none, unclosed)
is-coming v q (inr (inl closed)) none unclosed = absurd (cc)
is-coming v q (inr (inr handed)) none unclosed = absurd (subst IsHanded none handed)

pub receiver-falls : (at : Setting) (block : List ℕ) (policy : PolicyValue) (place : Admission)
    (v : View) (e : ContentValue) (now : ℕ) (new_s new_r : List ContentValue) (n : ℕ)
    (t : StepValue Receiving)
    → Given block at.red place.most v → place.session ≡ at.session → place.closed ≡ v.closed
    → (IsComing v → place.full ≡ false)
    → Drains at v (e ∷ new_s) new_r n → receiver_answers policy place v.receiver e now ≡ Some t
    → Falls at (receiver_moves v t) new_s (new_r ++ t.out) n
unfolding receiver_answers
receiver-falls at block policy place v (a_piece q) now new_s new_r n t given session closed roomy
    drains hears =
    falls-received at v t (a_piece q) new_s new_r n drains
    (piece-onward block at.red place v q new_s new_r t given closed (drains.calm).unclosed sent
    comes)
    (subst (λ m. Goes m v t) session (comes-goes place v q t (drains.calm).unclosed comes))
    (comes-weight place v.receiver q t comes)
  where
    sent : IsIn (a_piece q) v.by_sender
    sent = (drains.calm).heard_s (a_piece q) (inl refl)

    low : (met place.session v.receiver).serial + n < 2 ^ 32
    low = subst (λ m. (met m v.receiver).serial + n < 2 ^ 32) (sym session)
        (met-serial at.session v n drains.serials)

    comes : Comes place v.receiver q t
    comes = answered (Comes place v.receiver q) _ t hears
        (piece-comes block at.red policy place v.receiver q now ((given.facts).0.0.0).receiver
        (all-among (IsContentOf block at.red) (a_piece q) v.by_sender ((given.facts).0.0.0).said
        sent) (given.fit q sent).0 (given.fit q sent).1
        (λ none open_number red_kind. roomy
        (is-coming v q ((drains.calm).awaited q (inl refl) red_kind) none (sym closed
        ∙ open_number))) (drains.calm).receiving
        (ne_eqb (met place.session v.receiver).serial (2 ^ 32)
        (λ h. absurd (omega (arith, low, h)))))
receiver-falls at block policy place v (a_report_ack m) now new_s new_r n t given session closed
    roomy drains hears =
    falls-received at v t (a_report_ack m) new_s new_r n drains
    (ack-onward block at.red place.most m v new_s new_r t given sent acks)
    (acks-goes block at.red place.most at.session m v t given sent (drains.calm).sending
    (drains.calm).unclosed (drains.calm).receiving acks)
    (subst (λ out. weights out < 1) (sym (acks-weight m v.receiver t acks)) light)
  where
    sent : IsIn (a_report_ack m) v.by_sender
    sent = (drains.calm).heard_s (a_report_ack m) (inl refl)

    light : weights [] < 1
    light = weightless

    acks : Acks m v.receiver t
    acks = by_kept v.receiver refl hears
      where
        by_kept : (o : Option Receiving) → v.receiver ≡ o → Some (on_report_ack o m) ≡ Some t
            → Acks m o t
        by_kept None is hears = answered (Acks m None) _ t hears (nobody refl refl refl)
        by_kept (Some r) is hears = answered (Acks m (Some r)) _ t hears
            (acks-kept r m ((drains.calm).receiving r is))
receiver-falls at block policy place v (a_sender_cancel reason) now new_s new_r n t given session
    closed roomy drains hears =
    absurd (let h = (drains.calm).none_s (a_sender_cancel reason) (inl refl) in cc)
receiver-falls at block policy place v a_receiver_cancel_ack now new_s new_r n t given session
    closed roomy drains hears =
    absurd (let h = (drains.calm).none_s a_receiver_cancel_ack (inl refl) in cc)
receiver-falls at block policy place v (a_report x) now new_s new_r n t given session closed roomy
    drains hears = absurd (cc)
receiver-falls at block policy place v (a_receiver_cancel reason) now new_s new_r n t given
    session closed roomy drains hears = absurd (cc)
receiver-falls at block policy place v a_sender_cancel_ack now new_s new_r n t given session
    closed roomy drains hears = absurd (cc)

-- a piece that opens a session is red, and the number open
opening-piece : (policy : PolicyValue) (place : Admission) (q : PieceValue) (now : ℕ) (r' : Receiving)
    → (on_piece policy place None q now).next ≡ keeps r' → (is_red q.kind ≡ true)
    × (place.closed ≡ false)
opening-piece policy place q now r' =
    both_arms Opens (not (q.service == 1)) _ _ (λ h. absurd (cc))
    (both_arms Opens ((length q.body == 0) || nat_lt place.most (piece_stop q)) _ _
    (λ h. absurd (cc))
    (by_arms Opens (not (is_red q.kind)) _ _ (λ green_kind h. absurd (cc))
    (λ red_kind. by_arms Opens place.closed _ _ (λ closed h. absurd (cc))
    (λ open_number h. (is_true (is_red q.kind) red_kind, open_number)))))
  where
    Opens : StepValue Receiving → Type 0
    Opens t = t.next ≡ keeps r' → (is_red q.kind ≡ true) × (place.closed ≡ false)

    is_true : (b : Bool) → not b ≡ false → b ≡ true
    is_true true h = refl
    is_true false h = absurd (cc)

-- a session that opens was coming
pub receiver-opens : (at : Setting) (block : List ℕ) (policy : PolicyValue) (place : Admission)
    (v : View) (e : ContentValue) (now : ℕ) (new_s new_r : List ContentValue) (n : ℕ)
    (t : StepValue Receiving) (r' : Receiving)
    → place.closed ≡ v.closed → Drains at v (e ∷ new_s) new_r n
    → receiver_answers policy place v.receiver e now ≡ Some t → v.receiver ≡ None
    → t.next ≡ keeps r' → IsComing v
unfolding receiver_answers
receiver-opens at block policy place v (a_piece q) now new_s new_r n t r' closed drains hears none
    next =
    by_hears (subst (λ o. Some (on_piece policy place o q now) ≡ Some t) none hears)
  where
    by_hears : Some (on_piece policy place None q now) ≡ Some t → IsComing v
    by_hears hears =
        let opens = (answered (λ t. t.next ≡ keeps r' → (is_red q.kind ≡ true)
        × (place.closed ≡ false)) _ t hears (opening-piece policy place q now r')) next in
        is-coming v q ((drains.calm).awaited q (inl refl) opens.0) none (sym closed ∙ opens.1)
receiver-opens at block policy place v (a_report_ack m) now new_s new_r n t r' closed drains hears
    none next =
    absurd (let still : t.next ≡ stays = answered (λ t. t.next ≡ stays) _ t
    (subst (λ o. Some (on_report_ack o m) ≡ Some t) none hears) refl in cc)
receiver-opens at block policy place v (a_sender_cancel reason) now new_s new_r n t r' closed
    drains hears none next =
    absurd (let h = (drains.calm).none_s (a_sender_cancel reason) (inl refl) in cc)
receiver-opens at block policy place v a_receiver_cancel_ack now new_s new_r n t r' closed drains
    hears none next =
    absurd (let h = (drains.calm).none_s a_receiver_cancel_ack (inl refl) in cc)
receiver-opens at block policy place v (a_report x) now new_s new_r n t r' closed drains hears
    none next = absurd (cc)
receiver-opens at block policy place v (a_receiver_cancel reason) now new_s new_r n t r' closed
    drains hears none next = absurd (cc)
receiver-opens at block policy place v a_sender_cancel_ack now new_s new_r n t r' closed drains
    hears none next = absurd (cc)
