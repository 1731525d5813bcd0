-- A piece comes to a receiver, new or old: the rank that counts it falls.

use Rattle.std.proofs.Common.{◌≡◌, ℕ, ◌+◌, ◌<◌, ◌≤◌, ◌^◌, Bool, true, false, List}
use Rattle.std.proofs.Common.{[], ◌∷◌, ◌++◌, Option, None, Some, ◌⊎◌, inl, inr, refl, sym}
use Rattle.std.proofs.Common.{ap, arith, subst, if◌then◌else◌}
use Rattle.std.proofs.lemmas.Bool.{ne_eqb}
use Rattle.ltp_segment.specs.Kinds.{is_checkpoint, is_red}
use Rattle.ltp_segment.specs.Policy.{PolicyValue}
use Rattle.ltp_segment.specs.Values.{ContentValue, PieceValue, ReportValue, a_piece}
use Rattle.ltp_segment.specs.Values.{a_report}
use Rattle.ltp_session.specs.Receiver.{Pending, Admission, Receiving, is_cancelling}
use Rattle.ltp_session.specs.Receiver.{receiver_answers}
use Rattle.ltp_session.specs.Sender.{Sending, sender_open}
use Rattle.ltp_session.specs.Step.{StepValue, after, keeps}
use Rattle.ltp_session.specs.declared.timer.Timer.{Timer}
use Rattle.ltp_laws.specs.Blocks.{IsContentOf}
use Rattle.ltp_laws.specs.Serials.{pending_of}
use Rattle.ltp_laws.specs.View.{IsIn, View, closed_after, receiver_moves}
use Rattle.ltp_laws.proofs.ListLemmas.{answered}
use Rattle.ltp_laws.proofs.SerialLemmas.{all-among}
use Rattle.ltp_laws.proofs.StepLemmas.{met}
use Rattle.ltp_drain.specs.Calm.{AreFit, Drains, Falls, Given, HasSerials, NoCancels}
use Rattle.ltp_drain.specs.Calm.{Onward, Setting, WaitsOn}
use Rattle.ltp_drain.specs.Hopeful.{IsHanded, IsKeptSender}
use Rattle.ltp_drain.specs.Rank.{IsAskedOn, IsReportedOn, RankAtMost, Settled, weight, weights}
use Rattle.ltp_drain.proofs.OnwardLemmas.{RankFalls, onward-asking, onward-rank}
use Rattle.ltp_drain.proofs.OnwardLemmas.{onward-reporting}
use Rattle.ltp_drain.proofs.PieceForms.{Comes, answers, fills_only, passes, piece-comes, takes}
use Rattle.ltp_drain.proofs.RankLemmas.{weights-append}
use Rattle.ltp_drain.proofs.ReceiverDrains.{among-more, met-serial, no_cancels-append}
use Rattle.ltp_drain.proofs.ReceiverDrains.{no_cancels-none, no_cancels-one}
use Rattle.ltp_drain.proofs.ReceiverRows.{piece-onward}
use Rattle.ltp_picks.proofs.SerialLemmas.{receiver-serials}

-- ---- a session to whose receiver a piece is coming

-- it is calm, whether or not the piece was awaited
pub record IsFronted (at : Setting) (v : View) (q : PieceValue)
    (new_s new_r : List ContentValue) (n : ℕ) : Type 0 where
  pub sent : IsIn (a_piece q) v.by_sender
  pub sending : (s : Sending) → v.sender ≡ Some s → WaitsOn s
  pub receiving : (r : Receiving) → v.receiver ≡ Some r → is_cancelling r.phase ≡ false
  pub none_s : NoCancels new_s
  pub none_r : NoCancels new_r
  pub asking : (s : Sending) (c : PieceValue) (timer : Timer) → v.sender ≡ Some s
      → s.phase ≡ sender_open c timer
      → IsAskedOn c.checkpoint (a_piece q ∷ new_s) new_r ⊎ (timer.times < at.limit_s)
  pub reporting : (r : Receiving) (p : Pending) → v.receiver ≡ Some r
      → pending_of r.phase ≡ Some p
      → IsReportedOn (p.report).serial (a_piece q ∷ new_s) new_r
      ⊎ ((p.timer).times < at.limit_r)
  pub unclosed : (s : Sending) → v.sender ≡ Some s → v.closed ≡ false
  pub awaited : (p : PieceValue) → IsIn (a_piece p) new_s → is_red p.kind ≡ true
      → IsKeptSender v.sender ⊎ ((v.closed ≡ true) ⊎ IsHanded v.receiver)
  pub heard_s : (c : ContentValue) → IsIn c new_s → IsIn c v.by_sender
  pub heard_r : (c : ContentValue) → IsIn c new_r → IsIn c v.by_receiver
  pub rank : RankAtMost at.z at.red v (a_piece q ∷ new_s) new_r n
  pub serials : HasSerials at.session v n
  pub fit : AreFit at.most v.by_sender
  pub low : IsKeptSender v.sender → at.red ≤ at.most

-- a piece that is new
pub new-fronted : (at : Setting) (v : View) (q : PieceValue) (new_s new_r : List ContentValue)
    (n : ℕ) → Drains at v (a_piece q ∷ new_s) new_r n → IsFronted at v q new_s new_r n
new-fronted at v q new_s new_r n drains = record {
  sent = drains.calm.heard_s (a_piece q) (inl refl);
  sending = drains.calm.sending;
  receiving = drains.calm.receiving;
  none_s = λ c among. drains.calm.none_s c (inr among);
  none_r = drains.calm.none_r;
  asking = drains.calm.asking;
  reporting = drains.calm.reporting;
  unclosed = drains.calm.unclosed;
  awaited = λ p among red_kind. drains.calm.awaited p (inr among) red_kind;
  heard_s = λ c among. drains.calm.heard_s c (inr among);
  heard_r = drains.calm.heard_r;
  rank = drains.rank;
  serials = drains.serials;
  fit = drains.fit;
  low = drains.low;
}

asked-before : (c : ℕ) (e : ContentValue) (new_s new_r : List ContentValue)
    → IsAskedOn c new_s new_r → IsAskedOn c (e ∷ new_s) new_r
asked-before c e new_s new_r (inl (q, among, asks, named)) = inl (q, inr among, asks, named)
asked-before c e new_s new_r (inr on) = inr on

reported-before : (serial : ℕ) (e : ContentValue) (new_s new_r : List ContentValue)
    → IsReportedOn serial new_s new_r → IsReportedOn serial (e ∷ new_s) new_r
reported-before serial e new_s new_r (inl on) = inl on
reported-before serial e new_s new_r (inr among) = inr (inr among)

either-first : {A B C : Type 0} → (A → B) → A ⊎ C → B ⊎ C
either-first f (inl a) = inl (f a)
either-first f (inr c) = inr c

weighs-most : (q : PieceValue) → weight (a_piece q) ≤ 3
weighs-most q = by (is_checkpoint q.kind)
  where
    by : (b : Bool) → (if b then 3 else 1) ≤ 3
    by true = omega arith
    by false = omega arith

-- an old one: it counts three
pub old-fronted : (at : Setting) (v : View) (q : PieceValue) (new_s new_r : List ContentValue)
    (n : ℕ) → Drains at v new_s new_r n → IsIn (a_piece q) v.by_sender
    → HasSerials at.session v (n + 3)
    → ((s : Sending) (c : PieceValue) (timer : Timer) → v.sender ≡ Some s
    → s.phase ≡ sender_open c timer → Settled at.red v c.checkpoint new_s
    → Settled at.red v c.checkpoint (a_piece q ∷ new_s))
    → IsFronted at v q new_s new_r (n + 3)
unfolding weights
old-fronted at v q new_s new_r n drains sent serials settled = record {
  sent = sent;
  sending = drains.calm.sending;
  receiving = drains.calm.receiving;
  none_s = drains.calm.none_s;
  none_r = drains.calm.none_r;
  asking = λ s c timer kept waits.
      either-first (asked-before c.checkpoint (a_piece q) new_s new_r)
      (drains.calm.asking s c timer kept waits);
  reporting = λ r p kept waits.
      either-first (reported-before (p.report).serial (a_piece q) new_s new_r)
      (drains.calm.reporting r p kept waits);
  unclosed = drains.calm.unclosed;
  awaited = drains.calm.awaited;
  heard_s = drains.calm.heard_s;
  heard_r = drains.calm.heard_r;
  rank = record {
    report = drains.rank.report;
    checkpoint = drains.rank.checkpoint;
    round = drains.rank.round;
    sum = omega (arith, drains.rank.sum, weighs-most q);
    reporting = λ r p kept waits.
        either-first (reported-before (p.report).serial (a_piece q) new_s new_r)
        (drains.rank.reporting r p kept waits);
    asking = λ s c timer kept waits.
        either-first (asked-before c.checkpoint (a_piece q) new_s new_r)
        (drains.rank.asking s c timer kept waits);
    rounding = λ s c timer kept waits.
        either-first (settled s c timer kept waits) (drains.rank.rounding s c timer kept waits);
  };
  serials = serials;
  fit = drains.fit;
  low = drains.low;
}

-- ---- its receiver takes it

-- what becomes of the receiver
record Stays (v : View) (t : StepValue Receiving) (q : PieceValue) : Type 0 where
  listening : (r' : Receiving) → after t.next v.receiver ≡ Some r'
      → is_cancelling r'.phase ≡ false
  out : NoCancels t.out
  open_still : v.closed ≡ false → closed_after t.next v.closed ≡ false
  done : (v.closed ≡ true) ⊎ IsHanded v.receiver → (closed_after t.next v.closed ≡ true)
      ⊎ IsHanded (after t.next v.receiver)
  lighter : weights t.out < weight (a_piece q)

handed-met : (session : ℕ) (o : Option Receiving) → IsHanded o → (met session o).handed_up ≡ true
handed-met session None is = absurd is
handed-met session (Some r) is = is

kept-stays : (session : ℕ) (v : View) (t : StepValue Receiving) (q : PieceValue) (r' : Receiving)
    → t.next ≡ keeps r' → NoCancels t.out → is_cancelling r'.phase ≡ false
    → ((met session v.receiver).handed_up ≡ true → r'.handed_up ≡ true)
    → weights t.out < weight (a_piece q) → Stays v t q
kept-stays session v t q r' next none listening handed lighter = record {
  listening = λ r'' kept. subst (λ (r : Receiving). is_cancelling r.phase ≡ false)
      (only r'' kept) listening;
  out = none;
  open_still = λ is. subst (λ ch. closed_after ch v.closed ≡ false) (sym next) is;
  done = done;
  lighter = lighter;
}
  where
    only : (r'' : Receiving) → after t.next v.receiver ≡ Some r'' → r' ≡ r''
    only r'' kept = let here : Some r' ≡ Some r'' =
        subst (λ ch. after ch v.receiver ≡ Some r'') next kept in cc

    done : (v.closed ≡ true) ⊎ IsHanded v.receiver → (closed_after t.next v.closed ≡ true)
        ⊎ IsHanded (after t.next v.receiver)
    done (inl closed) = inl (subst (λ ch. closed_after ch v.closed ≡ true) (sym next) closed)
    done (inr was) = inr (subst (λ ch. IsHanded (after ch v.receiver)) (sym next)
        (handed (handed-met session v.receiver was)))

light-piece : (q : PieceValue) (out : List ContentValue) → out ≡ []
    → weights out < weight (a_piece q)
unfolding weights
light-piece q out is = by (is_checkpoint q.kind)
  where
    by : (b : Bool) → weights out < (if b then 3 else 1)
    by true = omega (arith, ap weights is)
    by false = omega (arith, ap weights is)

light-checkpoint : (q : PieceValue) (out : List ContentValue) (x : ReportValue) → is_checkpoint q.kind ≡ true
    → out ≡ a_report x ∷ [] → weights out < weight (a_piece q)
unfolding weights
light-checkpoint q out x asks is =
    subst (λ (b : Bool). weights out < (if b then 3 else 1)) (sym asks)
    (omega (arith, ap weights is))

comes-stays : (place : Admission) (v : View) (q : PieceValue) (t : StepValue Receiving)
    → Comes place v.receiver q t → Stays v t q
comes-stays place v q t (passes next out none why) = record {
  listening = λ r' kept. absurd (let here : v.receiver ≡ Some r' =
      subst (λ ch. after ch v.receiver ≡ Some r') next kept in cc);
  out = no_cancels-none t.out out;
  open_still = λ is. subst (λ ch. closed_after ch v.closed ≡ false) (sym next) is;
  done = λ was. subst (λ ch. (closed_after ch v.closed ≡ true) ⊎ IsHanded (after ch v.receiver))
      (sym next) was;
  lighter = light-piece q t.out out;
}
comes-stays place v q t (takes opens (fills_only r' plain next out grows phase serial)) =
    kept-stays place.session v t q r' next (no_cancels-none t.out out) grows.listening grows.handed
    (light-piece q t.out out)
comes-stays place v q t (takes opens (answers r' timer asks next out grows pending serial)) =
    kept-stays place.session v t q r' next (no_cancels-one _ t.out refl out) grows.listening
    grows.handed (light-checkpoint q t.out _ asks out)

pub fewer-serials : (session : ℕ) (v : View) (n m : ℕ) → m ≤ n → HasSerials session v n
    → HasSerials session v m
fewer-serials session v n m low serials = record {
  sender = λ s c timer is waits. omega (arith, serials.sender s c timer is waits, low);
  receiver = λ r is. omega (arith, serials.receiver r is, low);
  fresh = omega (arith, serials.fresh, low);
}

-- the rank falls
pub piece-falls : (at : Setting) (block : List ℕ) (policy : PolicyValue) (place : Admission)
    (v : View) (q : PieceValue) (now : ℕ) (new_s new_r : List ContentValue) (n : ℕ)
    (t : StepValue Receiving)
    → Given block at.red place.most v → place.session ≡ at.session → place.closed ≡ v.closed
    → (v.receiver ≡ None → place.closed ≡ false → is_red q.kind ≡ true → place.full ≡ false)
    → IsFronted at v q new_s new_r n
    → receiver_answers policy place v.receiver (a_piece q) now ≡ Some t
    → Falls at (receiver_moves v t) new_s (new_r ++ t.out) n
unfolding receiver_answers weights
piece-falls at block policy place v q now new_s new_r n t given session closed roomy front hears =
    record {
      left = falls.left;
      less = falls.less;
      drains = record {
        calm = record {
          sending = front.sending;
          receiving = kept.listening;
          none_s = front.none_s;
          none_r = no_cancels-append new_r t.out front.none_r kept.out;
          asking = onward-asking (λ timer. timer.times < at.limit_s) at.red v
              (receiver_moves v t) (a_piece q ∷ new_s) new_r new_s (new_r ++ t.out) onward
              front.asking;
          reporting = onward-reporting (λ p. (p.timer).times < at.limit_r) at.red v
              (receiver_moves v t) (a_piece q ∷ new_s) new_r new_s (new_r ++ t.out) onward
              front.reporting;
          unclosed = λ s is. kept.open_still (front.unclosed s is);
          awaited = λ p among red_kind. awaited (front.awaited p among red_kind);
          heard_s = front.heard_s;
          heard_r = among-more new_r t.out v.by_receiver front.heard_r;
        };
        rank = falls.rank;
        serials = serials falls.left falls.less;
        fit = front.fit;
        low = front.low;
      };
    }
  where
    low : (met place.session v.receiver).serial + n < 2 ^ 32
    low = subst (λ m. (met m v.receiver).serial + n < 2 ^ 32) (sym session)
        (met-serial at.session v n front.serials)

    comes : Comes place v.receiver q t
    comes = answered (Comes place v.receiver q) _ t hears
        (piece-comes block at.red policy place v.receiver q now ((given.facts).0.0.0).receiver
        (all-among (IsContentOf block at.red) (a_piece q) v.by_sender ((given.facts).0.0.0).said
        front.sent) (given.fit q front.sent).0 (given.fit q front.sent).1 roomy front.receiving
        (ne_eqb (met place.session v.receiver).serial (2 ^ 32)
        (λ h. absurd (omega (arith, low, h)))))

    kept : Stays v t q
    kept = comes-stays place v q t comes

    onward : Onward at.red v (receiver_moves v t) (a_piece q ∷ new_s) new_r new_s (new_r ++ t.out)
    onward = piece-onward block at.red place v q new_s new_r t given closed front.unclosed front.sent
        comes

    falls : RankFalls at.z at.red (receiver_moves v t) new_s (new_r ++ t.out) n
    falls = onward-rank at.z at.red v (receiver_moves v t) (a_piece q ∷ new_s) new_r new_s
        (new_r ++ t.out) n onward (omega (arith, weights-append new_r t.out, kept.lighter))
        front.rank

    awaited : IsKeptSender v.sender ⊎ ((v.closed ≡ true) ⊎ IsHanded v.receiver)
        → IsKeptSender v.sender ⊎ ((closed_after t.next v.closed ≡ true)
        ⊎ IsHanded (after t.next v.receiver))
    awaited (inl is_open) = inl is_open
    awaited (inr was) = inr (kept.done was)

    -- its serials rise by one, and the rank falls by one
    serials : (left : ℕ) → left < n → HasSerials at.session (receiver_moves v t) left
    serials left less = subst (λ (m : ℕ). HasSerials m (receiver_moves v t) left) session
        (receiver-serials policy place v (a_piece q) now t left hears
        (fewer-serials place.session v n (left + 1) (omega (arith, less))
        (subst (λ (m : ℕ). HasSerials m v n) (sym session) front.serials)))
