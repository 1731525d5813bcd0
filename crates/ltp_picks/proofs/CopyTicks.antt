-- The clock is set where nothing is new, in a drain with old copies.

use Rattle.std.proofs.Common.{◌≡◌, ℕ, ◌+◌, ◌*◌, ◌<◌, ◌≤◌, ◌^◌, List, [], ◌∷◌, ◌++◌, Option, None}
use Rattle.std.proofs.Common.{Some, inl, inr, refl, sym, ◌∙◌, ap, arith, subst}
use Rattle.ltp_segment.specs.Values.{ContentValue, PieceValue, a_piece}
use Rattle.ltp_session.specs.Engine.{Party, receiver_ticks, sender_ticks, tick_engine, tick_out}
use Rattle.ltp_session.specs.Receiver.{Receiving}
use Rattle.ltp_session.specs.Sender.{Sending, sender_open}
use Rattle.ltp_session.specs.World.{ArePeers, End, World, at_end, first_end, other, second_end}
use Rattle.ltp_session.specs.World.{sent_by}
use Rattle.ltp_session.specs.declared.timer.Timer.{Timer}
use Rattle.ltp_laws.specs.Facts.{SessionFacts}
use Rattle.ltp_laws.specs.Runs.{receiver_after, sender_after}
use Rattle.ltp_laws.specs.View.{IsIn, View, said, view}
use Rattle.ltp_laws.proofs.FrameLemmas.{out_of, tick-own, tick-peer}
use Rattle.ltp_laws.proofs.RunLemmas.{Linked, linked-apart, linked-at, two_ends}
use Rattle.ltp_drain.specs.Calm.{Calm, HasSerials, NoCancels, ReceiverTicked, SenderTicked}
use Rattle.ltp_drain.specs.Calm.{Ticked, asks, sender_rests, sleeps, tells}
use Rattle.ltp_drain.specs.Standing.{DrainHolds, Next, Stands, setting}
use Rattle.ltp_drain.proofs.DrainFrame.{Begun, is-begun, never_begun, stands-so, was_begun}
use Rattle.ltp_drain.proofs.DrainLists.{added-said}
use Rattle.ltp_drain.proofs.DrainRun.{sent-ticked, stands-idle, ticked-new, ticked-world}
use Rattle.ltp_drain.proofs.TickRows.{receiver-first, sender-first}
use Rattle.ltp_picks.specs.Asking.{AsksLast, IsOnly}
use Rattle.ltp_picks.proofs.ArrivalFrame.{AreFormed}
use Rattle.ltp_picks.proofs.CopyLinks.{Keeping}
use Rattle.ltp_picks.proofs.CopyRows.{fewer-serials}
use Rattle.ltp_picks.proofs.EchoLemmas.{all-plain, echoes, echoes-none, plain}

-- ---- a session's view after both ticks

-- it is unchanged where nothing is kept of it, and where it is calm its timers fired or rest
pub record TickedView (limit_s limit_r : ℕ) (v v' : View) : Type 0 where
  pub idle : v.sender ≡ None → v.receiver ≡ None → v' ≡ v
  pub out_s : List ContentValue
  pub out_r : List ContentValue
  pub ticked : Calm limit_s limit_r v [] [] → Ticked v v' out_s out_r

idle-sender : (p q : Party) (now : ℕ) (v : View) (s : Option Sending) (r : Option Receiving)
    → s ≡ None → r ≡ None
    → receiver_after (receiver_ticks q now) r (sender_after (sender_ticks p now) s v) ≡ v
idle-sender p q now v None None is_s is_r = refl
idle-sender p q now v (Some s) r is_s is_r = absurd (cc)
idle-sender p q now v None (Some r) is_s is_r = absurd (cc)

idle-receiver : (p q : Party) (now : ℕ) (v : View) (s : Option Sending) (r : Option Receiving)
    → s ≡ None → r ≡ None
    → sender_after (sender_ticks p now) s (receiver_after (receiver_ticks q now) r v) ≡ v
idle-receiver p q now v None None is_s is_r = refl
idle-receiver p q now v (Some s) r is_s is_r = absurd (cc)
idle-receiver p q now v None (Some r) is_s is_r = absurd (cc)

ticked-views : (parties : Party × Party) (w : World) (now : ℕ) → ArePeers parties
    → AreFormed parties w → (o : End) (n : ℕ)
    → TickedView (at_end parties o).policy.limit (at_end parties (other o)).policy.limit
    (view parties w o n) (view parties (ticked-world parties w now) o n)
unfolding ticked-world
ticked-views parties w now peers formed first_end n = record {
  idle = λ is_s is_r. is ∙ idle-sender parties.0 parties.1 now v v.sender v.receiver is_s is_r;
  out_s = out_of (sender_ticks parties.0 now) (view parties w first_end n).sender;
  out_r = out_of (receiver_ticks parties.1 now) (view parties w first_end n).receiver;
  ticked = λ calm. subst (λ (v' : View). Ticked v v'
      (out_of (sender_ticks parties.0 now) (view parties w first_end n).sender)
      (out_of (receiver_ticks parties.1 now) (view parties w first_end n).receiver)) (sym is)
      (sender-first parties.0.policy parties.1.policy now v calm);
}
  where
    v : View
    v = view parties w first_end n

    one_two : Linked parties.0 parties.1
    one_two = linked-at parties first_end peers

    two_one : Linked parties.1 parties.0
    two_one = linked-at parties second_end peers

    is : view parties (ticked-world parties w now) first_end n
        ≡ receiver_after (receiver_ticks parties.1 now) v.receiver
        (sender_after (sender_ticks parties.0 now) v.sender v)
    is = tick-peer second_end first_end parties.1 parties.0 w.engines.1
        (tick_engine parties.0 w.engines.0 now)
        (w.sent ++ sent_by first_end (tick_out parties.0 w.engines.0 now)) n now
        (two_ends second_end) two_one.knows two_one.apart (formed.receivers second_end)
        ∙ ap (receiver_after (receiver_ticks parties.1 now) v.receiver)
        (tick-own first_end second_end parties.0 w.engines.0 w.engines.1 w.sent n now
        (two_ends first_end) (linked-apart parties.0 parties.1 one_two) (formed.senders first_end))
ticked-views parties w now peers formed second_end n = record {
  idle = λ is_s is_r. is ∙ idle-receiver parties.1 parties.0 now v v.sender v.receiver is_s is_r;
  out_s = out_of (sender_ticks parties.1 now) (view parties w second_end n).sender;
  out_r = out_of (receiver_ticks parties.0 now) (view parties w second_end n).receiver;
  ticked = λ calm. subst (λ (v' : View). Ticked v v'
      (out_of (sender_ticks parties.1 now) (view parties w second_end n).sender)
      (out_of (receiver_ticks parties.0 now) (view parties w second_end n).receiver)) (sym is)
      (receiver-first parties.1.policy parties.0.policy now v calm);
}
  where
    v : View
    v = view parties w second_end n

    one_two : Linked parties.0 parties.1
    one_two = linked-at parties first_end peers

    two_one : Linked parties.1 parties.0
    two_one = linked-at parties second_end peers

    is : view parties (ticked-world parties w now) second_end n
        ≡ sender_after (sender_ticks parties.1 now) v.sender
        (receiver_after (receiver_ticks parties.0 now) v.receiver v)
    is = tick-own second_end first_end parties.1 w.engines.1
        (tick_engine parties.0 w.engines.0 now)
        (w.sent ++ sent_by first_end (tick_out parties.0 w.engines.0 now)) n now
        (two_ends second_end)
        (linked-apart parties.1 parties.0 two_one) (formed.senders second_end)
        ∙ ap (sender_after (sender_ticks parties.1 now) v.sender)
        (tick-peer first_end second_end parties.0 parties.1 w.engines.0 w.engines.1 w.sent n now
        (two_ends first_end) one_two.knows one_two.apart (formed.receivers first_end))

-- ---- what the ticks keep of its serials and of what is asked

ticked-serials : (n : ℕ) (v v' : View) (out_s out_r : List ContentValue) (m m' : ℕ)
    → Ticked v v' out_s out_r → m' ≤ m → HasSerials n v m → HasSerials n v' m'
ticked-serials n v v' out_s out_r m m' ticked low serials = record {
  sender = λ s' c timer kept waits. by_sender s' c timer v'.sender kept waits ticked.sender;
  receiver = λ r' kept. by_receiver r' v'.receiver kept ticked.receiver;
  fresh = omega (arith, low, serials.fresh);
}
  where
    by_sender : (s' : Sending) (c : PieceValue) (timer : Timer) (o' : Option Sending)
        → o' ≡ Some s' → s'.phase ≡ sender_open c timer → SenderTicked v.sender o' out_s
        → c.checkpoint + m' < 2 ^ 32
    by_sender s' c timer o' kept waits (sender_rests same none) =
        omega (arith, low, serials.sender s' c timer (sym same ∙ kept) waits)
    by_sender s' c timer o' kept waits (asks s s₂ q timer₁ timer₂ is waited is' waits' same_red
        same_block sends) =
        let one : s₂ ≡ s' = cc (is', kept) in
        let both : sender_open q timer₂ ≡ sender_open c timer =
        sym waits' ∙ ap (λ (s : Sending). s.phase) one ∙ waits in
        let piece : q ≡ c = cc (both) in
        omega (
          arith,
          low,
          serials.sender s q timer₁ is waited,
          ap (λ (p : PieceValue). p.checkpoint) piece,
        )

    by_receiver : (r' : Receiving) (o' : Option Receiving) → o' ≡ Some r'
        → ReceiverTicked v.receiver o' out_r → r'.serial + m' < 2 ^ 32
    by_receiver r' o' kept (sleeps same none) =
        omega (arith, low, serials.receiver r' (sym same ∙ kept))
    by_receiver r' o' kept (tells r r₂ p p₂ is waits is' waits' same cells handed serial listening
        sends) =
        let one : r₂ ≡ r' = cc (is', kept) in
        omega (
          arith,
          low,
          serials.receiver r is,
          serial,
          ap (λ (r : Receiving). r.serial) one,
        )

ticked-asks : (Old : ContentValue → Type 0) (v v' : View) (out_s out_r : List ContentValue)
    → Ticked v v' out_s out_r → AsksLast Old v' out_s
ticked-asks Old v v' out_s out_r ticked s' c timer kept waits =
    inr (by_sender v'.sender kept ticked.sender)
  where
    by_sender : (o' : Option Sending) → o' ≡ Some s' → SenderTicked v.sender o' out_s
        → IsOnly c out_s
    by_sender o' kept (sender_rests same none) q among red_kind =
        absurd (subst (IsIn (a_piece q)) none among)
    by_sender o' kept (asks s s₂ p timer₁ timer₂ is waited is' waits' same_red same_block sends) q
        among red_kind =
        let one : s₂ ≡ s' = cc (is', kept) in
        let both : sender_open p timer₂ ≡ sender_open c timer =
        sym waits' ∙ ap (λ (s : Sending). s.phase) one ∙ waits in
        let piece : p ≡ c = cc (both) in
        only p c piece q (subst (IsIn (a_piece q)) sends among)
      where
        only : (p c : PieceValue) → p ≡ c → (q : PieceValue) → IsIn (a_piece q) (a_piece p ∷ [])
            → q ≡ c
        only p c piece q (inl here) = let same : p ≡ q = cc (here) in sym same ∙ piece
        only p c piece q (inr none) = absurd none

-- ---- one session

none-unused : (v : View) (new_s new_r : List ContentValue) → new_s ≡ [] → new_r ≡ []
    → NoCancels new_s × NoCancels new_r
none-unused v new_s new_r is_s is_r =
    (λ c among. absurd (subst (IsIn c) is_s among), λ c among. absurd (subst (IsIn c) is_r among))

pub ticked-keeps : (parties : Party × Party) (w : World) (now k : ℕ) (Old : ContentValue → Type 0)
    (rank : End → ℕ → ℕ) (o : End) (n : ℕ) → ArePeers parties → AreFormed parties w
    → DrainHolds SessionFacts parties (record { world = w; new = [] }) rank
    → (next : Next SessionFacts parties (record { world = w; new = [] })
    (record { world = ticked-world parties w now; new = ticked-new parties w now }) rank)
    → HasSerials n (view parties w o n) (rank o n + 3 * k)
    → Keeping parties k Old (ticked-new parties w now) (next.rank' o n) o n
    (view parties (ticked-world parties w now) o n)
ticked-keeps parties w now k Old rank o n peers formed holds next slack = record {
  left = next.rank' o n;
  stands = stands-so SessionFacts (setting parties o n) v' v' new_s new_r (plain new_s)
      (plain new_r) (next.rank' o n) refl (all-plain new_s none.0) (all-plain new_r none.1)
      (next.holds.session o n);
  count = omega (arith, echoes-none new_s none.0, echoes-none new_r none.1);
  slack = by_serials before;
  asks = subst (AsksLast Old v') (sym (all-plain new_s none.0)) (by_asks before);
}
  where
    v : View
    v = view parties w o n

    v' : View
    v' = view parties (ticked-world parties w now) o n

    new_s : List ContentValue
    new_s = said o (at_end parties o).own n (ticked-new parties w now)

    new_r : List ContentValue
    new_r = said (other o) (at_end parties o).own n (ticked-new parties w now)

    views : TickedView (at_end parties o).policy.limit (at_end parties (other o)).policy.limit
        (view parties w o n) (view parties (ticked-world parties w now) o n)
    views = ticked-views parties w now peers formed o n

    before : Begun SessionFacts (setting parties o n) (view parties w o n) [] [] (rank o n)
    before = is-begun SessionFacts (setting parties o n) v [] [] (rank o n)
        (stands-idle SessionFacts parties (record { world = w; new = [] }) rank holds refl o n)

    none : NoCancels (said o (at_end parties o).own n (ticked-new parties w now))
        × NoCancels (said (other o) (at_end parties o).own n (ticked-new parties w now))
    none = by_begun (is-begun SessionFacts (setting parties o n) v' new_s new_r (next.rank' o n)
        (next.holds.session o n))
      where
        by_begun : Begun SessionFacts (setting parties o n)
            (view parties (ticked-world parties w now) o n)
            (said o (at_end parties o).own n (ticked-new parties w now))
            (said (other o) (at_end parties o).own n (ticked-new parties w now)) (next.rank' o n)
            → NoCancels (said o (at_end parties o).own n (ticked-new parties w now))
            × NoCancels (said (other o) (at_end parties o).own n (ticked-new parties w now))
        by_begun (was_begun used st) = (st.drains.calm.none_s, st.drains.calm.none_r)
        by_begun (never_begun unused idle) = none-unused v' new_s new_r idle.none_s idle.none_r

    low : next.rank' o n + 3 * k ≤ rank o n + 3 * k
    low = omega (arith, next.never_up o n)

    by_serials : Begun SessionFacts (setting parties o n) (view parties w o n) [] [] (rank o n)
        → HasSerials n (view parties (ticked-world parties w now) o n) (next.rank' o n + 3 * k)
    by_serials (was_begun used st) = ticked-serials n v v' views.out_s views.out_r
        (rank o n + 3 * k) (next.rank' o n + 3 * k) (views.ticked st.drains.calm) low slack
    by_serials (never_begun unused idle) =
        subst (λ (v : View). HasSerials n v (next.rank' o n + 3 * k))
        (sym (views.idle idle.unused.sender idle.unused.receiver))
        (fewer-serials n v (rank o n + 3 * k) (next.rank' o n + 3 * k) low slack)

    by_asks : Begun SessionFacts (setting parties o n) (view parties w o n) [] [] (rank o n)
        → AsksLast Old (view parties (ticked-world parties w now) o n)
        (said o (at_end parties o).own n (ticked-new parties w now))
    by_asks (was_begun used st) = subst (AsksLast Old v') (sym says)
        (ticked-asks Old v v' views.out_s views.out_r (views.ticked st.drains.calm))
      where
        says : said o (at_end parties o).own n (ticked-new parties w now) ≡ views.out_s
        says = added-said o (at_end parties o).own n w.sent (ticked-new parties w now) views.out_s
            (ap (said o (at_end parties o).own n) (sym (sent-ticked parties w now))
            ∙ (views.ticked st.drains.calm).by_sender)
    by_asks (never_begun unused idle) = λ s' c timer kept waits. absurd (
        let same : v'.sender ≡ v.sender = ap (λ (v : View). v.sender)
        (views.idle idle.unused.sender idle.unused.receiver) in
        let none : v.sender ≡ None = idle.unused.sender in
        let both : None ≡ Some s' = sym none ∙ sym same ∙ kept in cc)

-- ---- where nothing is new

-- a session that drains within its rank stands so
idle-stands : (parties : Party × Party) (k m : ℕ) (Old : ContentValue → Type 0) (o : End) (n : ℕ)
    (v : View) → Keeping parties k Old [] m o n v
    → Stands SessionFacts (setting parties o n) v (said o (at_end parties o).own n [])
    (said (other o) (at_end parties o).own n []) m
unfolding said plain echoes
idle-stands parties k m Old o n v keeps =
    subst (λ (m : ℕ). Stands SessionFacts (setting parties o n) v [] [] m)
    (omega (arith, keeps.count)) keeps.stands

pub idle-holds : (parties : Party × Party) (w : World) (k : ℕ)
    (Old : End → ℕ → ContentValue → Type 0) (rank : End → ℕ → ℕ) → AreFormed parties w
    → ((o : End) (n : ℕ) → Keeping parties k (Old o n) [] (rank o n) o n (view parties w o n))
    → DrainHolds SessionFacts parties (record { world = w; new = [] }) rank
idle-holds parties w k Old rank formed keeps = record {
  session = λ o n. idle-stands parties k (rank o n) (Old o n) o n (view parties w o n) (keeps o n);
  senders = formed.senders;
  receivers = formed.receivers;
  next = formed.next;
  known = tt;
}
