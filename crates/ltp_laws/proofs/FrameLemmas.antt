-- An event touches the sessions that it is of, and leaves the others as they were.

use Rattle.std.proofs.Common.{◌≡◌, ◌≢◌, ℕ, ◌+◌, ◌<◌, ◌≤◌, Bool, true, false, ◌==◌, ◌&&◌, List}
use Rattle.std.proofs.Common.{[], ◌∷◌, ◌++◌, length, Option, None, Some, refl, sym, ◌∙◌, ap, arith}
use Rattle.std.proofs.Common.{nat_lt, nat_le, if◌then◌else◌}
use Rattle.std.specs.Option.{option_map}
use Rattle.std.proofs.lemmas.List.{append-nil}
use Rattle.std.proofs.lemmas.Bool.{eqb-true, eqb-false, ne_eqb}
use Rattle.std.proofs.lemmas.Bool.Decides.{nat_tests}
use Rattle.ltp_segment.specs.Values.{ContentValue, SegmentValue}
use Rattle.ltp_session.specs.Engine.{Party, Engine, is_used, is_closed, with_sender, with_receiver}
use Rattle.ltp_session.specs.Engine.{tick_segments, sender_ticks, receiver_ticks, tick_engine}
use Rattle.ltp_session.specs.Engine.{tick_out, evicted_of, evicted_by, without_evicted}
use Rattle.ltp_session.specs.Engine.{longest_untouched, sender_changes, receiver_changes}
use Rattle.ltp_session.specs.Receiver.{Receiving}
use Rattle.ltp_session.specs.Sender.{Sending}
use Rattle.ltp_session.specs.Step.{StepValue, Change, stays, keeps, ends, after}
use Rattle.ltp_session.specs.Table.{ended, then_ended, find, AreAscending}
use Rattle.ltp_session.specs.Views.{headed_all}
use Rattle.ltp_session.specs.World.{End, first_end, second_end, Sent, sent_by}
use Rattle.ltp_laws.specs.Runs.{sender_after, receiver_after}
use Rattle.ltp_laws.specs.View.{session_of, same_end, is_of, said, View, view_by, closed_after}
use Rattle.ltp_laws.specs.View.{sender_moves, receiver_moves, begins, evicted}
use Rattle.ltp_laws.proofs.TableLemmas.{ascending-without, ascending-put, self_eqb, find-settled}
use Rattle.ltp_laws.proofs.TableLemmas.{find-settled_other, find-put, find-put_other}
use Rattle.ltp_laws.proofs.TableLemmas.{find-without, find-without_other, find-ticked, after_tick}

-- ---- what was said

pub same_self : (e : End) → same_end e e ≡ true
same_self first_end = refl
same_self second_end = refl

-- two ends
pub record AreTwo (me you : End) : Type 0 where
  pub me_you : same_end me you ≡ false
  pub you_me : same_end you me ≡ false

pub said-append : (who : End) (o n : ℕ) (xs ys : List Sent)
    → said who o n (xs ++ ys) ≡ said who o n xs ++ said who o n ys
unfolding said
said-append who o n [] ys = refl
said-append who o n (d ∷ ds) ys = by_test (is_of who o n d) (said-append who o n ds ys)
  where
    by_test : (mine : Bool) → said who o n (ds ++ ys) ≡ said who o n ds ++ said who o n ys
        → (if mine then d.segment.content ∷ said who o n (ds ++ ys) else said who o n (ds ++ ys))
        ≡ (if mine then d.segment.content ∷ said who o n ds else said who o n ds)
        ++ said who o n ys
    by_test true rest = rw rest refl
    by_test false rest = rest

-- an end says nothing by what another sends
said-by_another : (from who : End) (o n : ℕ) (xs : List SegmentValue) → same_end from who ≡ false
    → said who o n (sent_by from xs) ≡ []
unfolding said
said-by_another from who o n [] apart = refl
said-by_another from who o n (x ∷ xs) apart =
    rw (apart, said-by_another from who o n xs apart) refl

pub said-headed : (from : End) (o n : ℕ) (out : List ContentValue)
    → said from o n (sent_by from (headed_all (session_of o n) out)) ≡ out
unfolding said
said-headed from o n [] = refl
said-headed from o n (c ∷ cs) =
    rw (same_self from, self_eqb, self_eqb, said-headed from o n cs) refl

pub said-headed_other : (from : End) (o n p m : ℕ) (out : List ContentValue)
    → ((p == o) && (m == n)) ≡ false
    → said from o n (sent_by from (headed_all (session_of p m) out)) ≡ []
unfolding said
said-headed_other from o n p m [] apart = refl
said-headed_other from o n p m (c ∷ cs) apart =
    rw (same_self from, apart, said-headed_other from o n p m cs apart) refl

other_number : (o p m n : ℕ) → m ≢ n → ((p == o) && (m == n)) ≡ false
other_number o p m n apart = rw (ne_eqb m n apart) (and_false (p == o))
  where
    and_false : (b : Bool) → (b && false) ≡ false
    and_false true = refl
    and_false false = refl

other_party : (o p m n : ℕ) → p ≢ o → ((p == o) && (m == n)) ≡ false
other_party o p m n apart = rw (ne_eqb p o apart) refl

pub sent_by-append : (from : End) (xs ys : List SegmentValue)
    → sent_by from (xs ++ ys) ≡ sent_by from xs ++ sent_by from ys
sent_by-append from [] ys = refl
sent_by-append from (x ∷ xs) ys = rw (sent_by-append from xs ys) refl

-- what a tick of one session sends
abbrev pub out_of : {S : Type 0} → (S → StepValue S) → Option S → List ContentValue
out_of tick None = []
out_of tick (Some s) = (tick s).out

said-ticked_other : {S : Type 0} (tick : S → StepValue S) (from : End) (o n p : ℕ)
    (es : List (ℕ × S)) → p ≢ o
    → said from o n (sent_by from (tick_segments tick p es)) ≡ []
unfolding tick_segments said
said-ticked_other tick from o n p [] apart = refl
said-ticked_other tick from o n p (e ∷ es) apart =
    rw (
      sent_by-append from (headed_all (session_of p e.0) (tick e.1).out)
          (tick_segments tick p es),
      said-append from o n (sent_by from (headed_all (session_of p e.0)
          (tick e.1).out)) (sent_by from (tick_segments tick p es)),
      said-headed_other from o n p e.0
          (tick e.1).out (other_party o p e.0 n apart),
    ) (said-ticked_other tick from o n p es apart)

-- below the first number nothing is sent
said-ticked_below : {S : Type 0} (tick : S → StepValue S) (from : End) (o n low : ℕ)
    (es : List (ℕ × S)) → n < low → AreAscending low es
    → said from o n (sent_by from (tick_segments tick o es)) ≡ []
unfolding tick_segments said
said-ticked_below tick from o n low [] below is = refl
said-ticked_below tick from o n low (e ∷ es) below is =
    rw (
      sent_by-append from (headed_all (session_of o e.0) (tick e.1).out)
          (tick_segments tick o es),
      said-append from o n (sent_by from (headed_all (session_of o e.0)
          (tick e.1).out)) (sent_by from (tick_segments tick o es)),
      said-headed_other from o n o e.0
          (tick e.1).out (other_number o o e.0 n (λ h. absurd (omega (arith, h, is.0, below)))),
    )
    (said-ticked_below tick from o n (e.0 + 1) es (omega (arith, is.0, below)) is.1)

said-nothing : (from : End) (o n : ℕ) → said from o n [] ≡ []
unfolding said
said-nothing from o n = refl

pub said-ticked : {S : Type 0} (tick : S → StepValue S) (from : End) (o n low : ℕ)
    (es : List (ℕ × S)) → AreAscending low es
    → said from o n (sent_by from (tick_segments tick o es)) ≡ out_of tick (find n es)
unfolding tick_segments find
said-ticked tick from o n low [] is = said-nothing from o n
said-ticked tick from o n low (e ∷ es) is =
    rw (
      sent_by-append from (headed_all (session_of o e.0) (tick e.1).out)
          (tick_segments tick o es),
      said-append from o n (sent_by from (headed_all (session_of o e.0)
          (tick e.1).out)) (sent_by from (tick_segments tick o es)),
    )
    (by_test (e.0 == n) refl (said-ticked tick from o n (e.0 + 1) es is.1))
  where
    by_test : (same : Bool) → (e.0 == n) ≡ same
        → said from o n (sent_by from (tick_segments tick o es)) ≡ out_of tick (find n es)
        → said from o n (sent_by from (headed_all (session_of o e.0) (tick e.1).out)) ++ said from
        o n (sent_by from (tick_segments tick o es))
        ≡ out_of tick (if same then Some e.1 else find n es)
    by_test true is_same rest =
        let here : e.0 ≡ n = eqb-true e.0 n is_same in
        rw (
          ← here,
          said-headed from o e.0 (tick e.1).out,
          said-ticked_below tick from o e.0
              (e.0 + 1) es (omega arith) is.1,
        ) (append-nil (tick e.1).out)
    by_test false is_same rest =
        rw (said-headed_other from o n o e.0 (tick e.1).out (other_number o o e.0 n
        (eqb-false e.0 n is_same))) rest

-- ---- views

pub same_view : (v w : View) → v.used ≡ w.used → v.sender ≡ w.sender → v.receiver ≡ w.receiver
    → v.closed ≡ w.closed → v.by_sender ≡ w.by_sender → v.by_receiver ≡ w.by_receiver → v ≡ w
same_view v w used sender receiver closed by_sender by_receiver =
    λ i. record {
      used = used i;
      sender = sender i;
      receiver = receiver i;
      closed = closed i;
      by_sender = by_sender i;
      by_receiver = by_receiver i;
    }

-- more is said, none of it of this session
said-more : (who : End) (o n : ℕ) (xs ys : List Sent) → said who o n ys ≡ []
    → said who o n (xs ++ ys) ≡ said who o n xs
said-more who o n xs ys none = rw (said-append who o n xs ys, none) (append-nil (said who o n xs))

said-and : (who : End) (o n : ℕ) (xs ys : List Sent) (out : List ContentValue)
    → said who o n ys ≡ out → said who o n (xs ++ ys) ≡ said who o n xs ++ out
said-and who o n xs ys out is = rw (said-append who o n xs ys, is) refl

-- ---- a sender's session takes something

pub sender-here : (me you : End) (p : Party) (e f : Engine) (sent : List Sent) (n : ℕ)
    (t : StepValue Sending) → AreTwo me you
    → view_by me you p (with_sender e n t.next) f
    (sent ++ sent_by me (headed_all (session_of p.own n) t.out)) n ≡ sender_moves
    (view_by me you p e f sent n) t
sender-here me you p e f sent n t both =
    same_view _ _ refl (find-settled n t.next e.senders) refl refl
    (said-and me p.own n sent _ t.out (said-headed me p.own n t.out))
    (said-more you p.own n sent _ (said-by_another me you p.own n _ both.me_you))

pub sender-others : (me you : End) (p : Party) (e f : Engine) (sent : List Sent) (n m : ℕ)
    (t : StepValue Sending) → AreTwo me you → n ≢ m
    → view_by me you p (with_sender e n t.next) f
    (sent ++ sent_by me (headed_all (session_of p.own n) t.out)) m ≡ view_by me you p e f sent m
sender-others me you p e f sent n m t both apart =
    same_view _ _ refl (find-settled_other m n t.next e.senders (λ h. apart (sym h))) refl refl
    (said-more me p.own m sent _ (said-headed_other me p.own m p.own n t.out
    (other_number p.own p.own n m apart)))
    (said-more you p.own m sent _ (said-by_another me you p.own m _ both.me_you))

-- ---- sessions of another party, of which nothing is said

-- the sender of q's sessions is `you`; `me` sends something of another party's
pub peers-stay : (me you : End) (q : Party) (f e e' : Engine) (sent : List Sent) (o n m : ℕ)
    (out : List ContentValue) → AreTwo me you → o ≢ q.own
    → e'.receivers ≡ e.receivers → e'.closed ≡ e.closed
    → view_by you me q f e' (sent ++ sent_by me (headed_all (session_of o n) out)) m ≡ view_by you
    me q f e sent m
peers-stay me you q f e e' sent o n m out both apart receivers closed =
    same_view _ _ refl refl (ap (find m) receivers) (ap (is_closed m) closed)
    (said-more you q.own m sent _ (said-by_another me you q.own m _ both.me_you))
    (said-more me q.own m sent _ (said-headed_other me q.own m o n out
    (other_party q.own o n m apart)))

pub owns-stay : (me you : End) (p : Party) (e e' f : Engine) (sent : List Sent) (o n m : ℕ)
    (out : List ContentValue) → AreTwo me you → o ≢ p.own
    → e'.senders ≡ e.senders → e'.next ≡ e.next
    → view_by me you p e' f (sent ++ sent_by me (headed_all (session_of o n) out)) m ≡ view_by me
    you p e f sent m
owns-stay me you p e e' f sent o n m out both apart senders next =
    same_view _ _ (ap (λ k. nat_le p.first m && nat_lt m k) next) (ap (find m) senders) refl refl
    (said-more me p.own m sent _ (said-headed_other me p.own m o n out
    (other_party p.own o n m apart)))
    (said-more you p.own m sent _ (said-by_another me you p.own m _ both.me_you))

-- ---- a receiver's session takes something

pub find-with_receiver : (f : Engine) (n : ℕ) (c : Change Receiving)
    → find n (with_receiver f n c).receivers ≡ after c (find n f.receivers)
unfolding with_receiver
find-with_receiver f n stays = refl
find-with_receiver f n (keeps r) = find-put n r f.receivers
find-with_receiver f n ends = find-without n f.receivers

pub closed-with_receiver : (f : Engine) (n : ℕ) (c : Change Receiving)
    → is_closed n (with_receiver f n c).closed ≡ closed_after c (is_closed n f.closed)
unfolding with_receiver
closed-with_receiver f n stays = refl
closed-with_receiver f n (keeps r) = refl
closed-with_receiver f n ends = rw self_eqb refl

pub find-with_receiver_other : (f : Engine) (m n : ℕ) (c : Change Receiving) → m ≢ n
    → find m (with_receiver f n c).receivers ≡ find m f.receivers
unfolding with_receiver
find-with_receiver_other f m n stays apart = refl
find-with_receiver_other f m n (keeps r) apart = find-put_other m n r f.receivers apart
find-with_receiver_other f m n ends apart = find-without_other m n f.receivers apart

pub closed-with_receiver_other : (f : Engine) (m n : ℕ) (c : Change Receiving) → m ≢ n
    → is_closed m (with_receiver f n c).closed ≡ is_closed m f.closed
unfolding with_receiver
closed-with_receiver_other f m n stays apart = refl
closed-with_receiver_other f m n (keeps r) apart = refl
closed-with_receiver_other f m n ends apart = rw (ne_eqb n m (λ h. apart (sym h))) refl

-- a number after a session was closed to make room, or none was
data Room (f f' : Engine) (m : ℕ) : Type 0 where
  as_before : find m f'.receivers ≡ find m f.receivers
      → is_closed m f'.closed ≡ is_closed m f.closed → Room f f' m
  made : (r : Receiving) → find m f.receivers ≡ Some r → find m f'.receivers ≡ None
      → is_closed m f'.closed ≡ true → Room f f' m

room-evicts : (f : Engine) (n m : ℕ) (r : Receiving) → find n f.receivers ≡ Some r
    → Room f (with_receiver f n ends) m
room-evicts f n m r is = by_test (m == n) refl
  where
    by_test : (same : Bool) → (m == n) ≡ same → Room f (with_receiver f n ends) m
    by_test true is_same =
        let here : m ≡ n = eqb-true m n is_same in
        rw here (made r is (find-with_receiver f n ends) (closed-with_receiver f n ends))
    by_test false is_same =
        let apart : m ≢ n = eqb-false m n is_same in
        as_before (find-with_receiver_other f m n ends apart)
        (closed-with_receiver_other f m n ends apart)

room-longest : (f : Engine) (ns : List ℕ) (m : ℕ)
    → Room f (without_evicted f (longest_untouched ns f.receivers)) m
room-longest f [] m = as_before refl refl
room-longest f (n ∷ ns) m = by_found (find n f.receivers) refl
  where
    by_found : (kept : Option Receiving) → find n f.receivers ≡ kept
        → Room f (without_evicted f (option_map (λ r. n) kept)) m
    by_found None is = as_before refl refl
    by_found (Some r) is = room-evicts f n m r is

room-evicted : (q : Party) (f : Engine) (m : ℕ) → Room f (without_evicted f (evicted_of q f)) m
unfolding evicted_of
room-evicted q f m = by_test (nat_le q.sessions (length f.receivers))
  where
    by_test : (many : Bool)
        → Room f (without_evicted f
        (if many then longest_untouched f.touched f.receivers else None)) m
    by_test true = room-longest f f.touched m
    by_test false = as_before refl refl

-- an engine once there is room for what a session becomes
abbrev pub opening : Party → Engine → Option Receiving → Change Receiving → Engine
opening q f kept c = without_evicted f (evicted_by q f kept c)

room-opening : (q : Party) (f : Engine) (kept : Option Receiving) (c : Change Receiving) (m : ℕ)
    → Room f (opening q f kept c) m
room-opening q f None stays m = as_before refl refl
room-opening q f None (keeps r) m = room-evicted q f m
room-opening q f None ends m = as_before refl refl
room-opening q f (Some s) c m = as_before refl refl

-- room is made by another session's end
opening-here : (q : Party) (f : Engine) (n : ℕ) (kept : Option Receiving) (c : Change Receiving)
    → find n f.receivers ≡ kept
    → (find n (opening q f kept c).receivers ≡ find n f.receivers)
    × (is_closed n (opening q f kept c).closed ≡ is_closed n f.closed)
opening-here q f n None stays is = (refl, refl)
opening-here q f n None ends is = (refl, refl)
opening-here q f n (Some s) c is = (refl, refl)
opening-here q f n None (keeps r) is = by_room (room-evicted q f n)
  where
    by_room : Room f (without_evicted f (evicted_of q f)) n
        → (find n (without_evicted f (evicted_of q f)).receivers ≡ find n f.receivers)
        × (is_closed n (without_evicted f (evicted_of q f)).closed ≡ is_closed n f.closed)
    by_room (as_before found closed) = (found, closed)
    by_room (made s found gone closed) = absurd (cc)

pub receiver-here : (me you : End) (p q : Party) (e f : Engine) (sent : List Sent) (n : ℕ)
    (t : StepValue Receiving) → AreTwo me you
    → view_by you me p e (with_receiver (opening q f (find n f.receivers) t.next) n t.next)
    (sent ++ sent_by me (headed_all (session_of p.own n) t.out)) n
    ≡ receiver_moves (view_by you me p e f sent n) t
receiver-here me you p q e f sent n t both =
    let opened = opening-here q f n (find n f.receivers) t.next refl in
    let g : Engine = opening q f (find n f.receivers) t.next in
    same_view _ _ refl refl
    (find-with_receiver g n t.next ∙ ap (after t.next) opened.0)
    (closed-with_receiver g n t.next ∙ ap (closed_after t.next) opened.1)
    (said-more you p.own n sent _ (said-by_another me you p.own n _ both.me_you))
    (said-and me p.own n sent _ t.out (said-headed me p.own n t.out))

-- a session that takes nothing is as before, or was closed to make room
pub data Left (v v' : View) : Type 0 where
  alone : v' ≡ v → Left v v'
  closed_for_room : (r : Receiving) → v.receiver ≡ Some r → v' ≡ evicted v → Left v v'

pub receiver-others : (me you : End) (p q : Party) (e f : Engine) (sent : List Sent) (n m : ℕ)
    (t : StepValue Receiving) → AreTwo me you → n ≢ m
    → Left (view_by you me p e f sent m)
    (view_by you me p e (with_receiver (opening q f (find n f.receivers) t.next) n t.next)
    (sent ++ sent_by me (headed_all (session_of p.own n) t.out)) m)
receiver-others me you p q e f sent n m t both apart =
    by_room (room-opening q f (find n f.receivers) t.next m)
  where
    g : Engine
    g = opening q f (find n f.receivers) t.next

    away : m ≢ n
    away = λ h. apart (sym h)

    heard : said me p.own m (sent ++ sent_by me (headed_all (session_of p.own n) t.out))
        ≡ said me p.own m sent
    heard = said-more me p.own m sent _ (said-headed_other me p.own m p.own n t.out
        (other_number p.own p.own n m apart))

    others : said you p.own m (sent ++ sent_by me (headed_all (session_of p.own n) t.out))
        ≡ said you p.own m sent
    others = said-more you p.own m sent _ (said-by_another me you p.own m _ both.me_you)

    by_room : Room f (opening q f (find n f.receivers) t.next) m → Left (view_by you me p e f sent m)
        (view_by you me p e (with_receiver (opening q f (find n f.receivers) t.next) n t.next)
        (sent ++ sent_by me (headed_all (session_of p.own n) t.out)) m)
    by_room (as_before found closed) = alone (same_view _ _ refl refl
        (find-with_receiver_other (opening q f (find n f.receivers) t.next) m n t.next away ∙ found)
        (closed-with_receiver_other (opening q f (find n f.receivers) t.next) m n t.next away
        ∙ closed) others heard)
    by_room (made r found gone closed) = closed_for_room r found (same_view _ _ refl refl
        (find-with_receiver_other (opening q f (find n f.receivers) t.next) m n t.next away ∙ gone)
        (closed-with_receiver_other (opening q f (find n f.receivers) t.next) m n t.next away
        ∙ closed) others heard)

-- ---- what a receiver's change leaves of the engine

pub senders-with_receiver : (f : Engine) (n : ℕ) (c : Change Receiving)
    → (with_receiver f n c).senders ≡ f.senders
unfolding with_receiver
senders-with_receiver f n stays = refl
senders-with_receiver f n (keeps r) = refl
senders-with_receiver f n ends = refl

pub next-with_receiver : (f : Engine) (n : ℕ) (c : Change Receiving)
    → (with_receiver f n c).next ≡ f.next
unfolding with_receiver
next-with_receiver f n stays = refl
next-with_receiver f n (keeps r) = refl
next-with_receiver f n ends = refl

-- an engine once room was made
pub record Roomy (f f' : Engine) : Type 0 where
  pub senders : f'.senders ≡ f.senders
  pub next : f'.next ≡ f.next
  pub receivers : AreAscending 0 f.receivers → AreAscending 0 f'.receivers

roomy-longest : (f : Engine) (ns : List ℕ)
    → Roomy f (without_evicted f (longest_untouched ns f.receivers))
unfolding with_receiver
roomy-longest f [] = record { senders = refl; next = refl; receivers = λ h. h }
roomy-longest f (n ∷ ns) = by_found (find n f.receivers)
  where
    by_found : (kept : Option Receiving) → Roomy f (without_evicted f (option_map (λ r. n) kept))
    by_found None = record { senders = refl; next = refl; receivers = λ h. h }
    by_found (Some r) =
        record {
          senders = refl;
          next = refl;
          receivers = λ h.
              ascending-without n 0 f.receivers h;
        }

roomy-evicted : (q : Party) (f : Engine) → Roomy f (without_evicted f (evicted_of q f))
unfolding evicted_of
roomy-evicted q f = by_test (nat_le q.sessions (length f.receivers))
  where
    by_test : (many : Bool)
        → Roomy f (without_evicted f
        (if many then longest_untouched f.touched f.receivers else None))
    by_test true = roomy-longest f f.touched
    by_test false = record { senders = refl; next = refl; receivers = λ h. h }

roomy-opening : (q : Party) (f : Engine) (kept : Option Receiving) (c : Change Receiving)
    → Roomy f (opening q f kept c)
roomy-opening q f None stays = record { senders = refl; next = refl; receivers = λ h. h }
roomy-opening q f None (keeps r) = roomy-evicted q f
roomy-opening q f None ends = record { senders = refl; next = refl; receivers = λ h. h }
roomy-opening q f (Some s) c = record { senders = refl; next = refl; receivers = λ h. h }

ascending-with_receiver : (f : Engine) (n : ℕ) (c : Change Receiving) → AreAscending 0 f.receivers
    → AreAscending 0 (with_receiver f n c).receivers
unfolding with_receiver
ascending-with_receiver f n stays is = is
ascending-with_receiver f n (keeps r) is = ascending-put n 0 r f.receivers (omega arith) is
ascending-with_receiver f n ends is = ascending-without n 0 f.receivers is

pub roomy-received : (q : Party) (f : Engine) (n : ℕ) (c : Change Receiving)
    → Roomy f (with_receiver (opening q f (find n f.receivers) c) n c)
roomy-received q f n c =
    let roomy = roomy-opening q f (find n f.receivers) c in
    let g : Engine = opening q f (find n f.receivers) c in
    record {
      senders = senders-with_receiver g n c ∙ roomy.senders;
      next = next-with_receiver g n c ∙ roomy.next;
      receivers = λ h. ascending-with_receiver g n c (roomy.receivers h);
    }

-- ---- a tick

sender_after-is : (tick : Sending → StepValue Sending) (v : View) (kept : Option Sending)
    → v.sender ≡ kept
    → (v' : View) → v'.used ≡ v.used → v'.sender ≡ after_tick (λ s. (tick s).next) kept
    → v'.receiver ≡ v.receiver → v'.closed ≡ v.closed
    → v'.by_sender ≡ v.by_sender ++ out_of tick kept → v'.by_receiver ≡ v.by_receiver
    → v' ≡ sender_after tick kept v
sender_after-is tick v None is v' used sender receiver closed by_sender by_receiver =
    same_view _ _ used (sender ∙ sym is) receiver closed
    (by_sender ∙ append-nil v.by_sender) by_receiver
sender_after-is tick v (Some s) is v' used sender receiver closed by_sender by_receiver =
    same_view _ _ used (sender ∙ ap (after (tick s).next) (sym is)) receiver closed
    by_sender by_receiver

abbrev over_of : (Receiving → Change Receiving) → Option Receiving → Bool → Bool
over_of change None closed = closed
over_of change (Some r) closed = closed_after (change r) closed

receiver_after-is : (tick : Receiving → StepValue Receiving) (v : View) (kept : Option Receiving)
    → v.receiver ≡ kept
    → (v' : View) → v'.used ≡ v.used → v'.sender ≡ v.sender
    → v'.receiver ≡ after_tick (λ s. (tick s).next) kept
    → v'.closed ≡ over_of (λ r. (tick r).next) kept v.closed
    → v'.by_sender ≡ v.by_sender → v'.by_receiver ≡ v.by_receiver ++ out_of tick kept
    → v' ≡ receiver_after tick kept v
receiver_after-is tick v None is v' used sender receiver closed by_sender by_receiver =
    same_view _ _ used sender (receiver ∙ sym is) closed by_sender
    (by_receiver ∙ append-nil v.by_receiver)
receiver_after-is tick v (Some s) is v' used sender receiver closed by_sender by_receiver =
    same_view _ _ used sender (receiver ∙ ap (after (tick s).next) (sym is)) closed
    by_sender by_receiver

said-two : (from : End) (o n : ℕ) (sent : List Sent) (xs ys : List SegmentValue)
    (a b : List ContentValue)
    → said from o n (sent_by from xs) ≡ a → said from o n (sent_by from ys) ≡ b
    → said from o n (sent ++ sent_by from (xs ++ ys)) ≡ said from o n sent ++ (a ++ b)
said-two from o n sent xs ys a b is_a is_b =
    rw (
      said-append from o n sent (sent_by from (xs ++ ys)),
      sent_by-append from xs ys,
      said-append
          from o n (sent_by from xs) (sent_by from ys),
      is_a,
      is_b,
    ) refl

pub tick-own : (me you : End) (p : Party) (e f : Engine) (sent : List Sent) (n now : ℕ)
    → AreTwo me you → p.peer ≢ p.own → AreAscending 0 e.senders
    → view_by me you p (tick_engine p e now) f (sent ++ sent_by me (tick_out p e now)) n
    ≡ sender_after (sender_ticks p now) (find n e.senders) (view_by me you p e f sent n)
tick-own me you p e f sent n now both apart ascending =
    sender_after-is (sender_ticks p now) (view_by me you p e f sent n)
    (find n e.senders) refl _ refl
    (find-ticked (sender_changes p now) n 0 e.senders ascending) refl refl
    (said-two me p.own n sent _ _ _ [] (said-ticked (sender_ticks p now) me p.own n 0
    e.senders ascending)
    (said-ticked_other (receiver_ticks p now) me p.own n p.peer e.receivers apart)
    ∙ ap (λ (out : List ContentValue). said me p.own n sent ++ out)
    (append-nil (out_of (sender_ticks p now) (find n e.senders))))
    (said-more you p.own n sent _ (said-by_another me you p.own n _ both.me_you))

closed_below : (change : Receiving → Change Receiving) (n low : ℕ) (es : List (ℕ × Receiving))
    (closed : List ℕ) → n < low → AreAscending low es
    → is_closed n (ended change es ++ closed) ≡ is_closed n closed
unfolding ended
closed_below change n low [] closed below is = refl
closed_below change n low (e ∷ es) closed below is =
    by_change (change e.1) (closed_below change n (e.0 + 1) es closed
    (omega (arith, is.0, below)) is.1)
  where
    by_change : (c : Change Receiving) → is_closed n (ended change es ++ closed)
        ≡ is_closed n closed
        → is_closed n (then_ended e.0 c (ended change es) ++ closed) ≡ is_closed n closed
    by_change stays rest = rest
    by_change (keeps r) rest = rest
    by_change ends rest = rw (ne_eqb e.0 n (λ h. absurd (omega (arith, h, is.0, below)))) rest

closed-ticked : (change : Receiving → Change Receiving) (n low : ℕ) (es : List (ℕ × Receiving))
    (closed : List ℕ) → AreAscending low es
    → is_closed n (ended change es ++ closed) ≡ over_of change (find n es) (is_closed n closed)
unfolding ended find
closed-ticked change n low [] closed is = refl
closed-ticked change n low (e ∷ es) closed is =
    by_test (e.0 == n) refl (change e.1) refl (closed-ticked change n (e.0 + 1) es closed is.1)
  where
    by_test : (same : Bool) → (e.0 == n) ≡ same → (c : Change Receiving) → change e.1 ≡ c
        → is_closed n (ended change es ++ closed) ≡ over_of change (find n es) (is_closed n closed)
        → is_closed n (then_ended e.0 c (ended change es) ++ closed) ≡ over_of change
        (if same then Some e.1 else find n es) (is_closed n closed)
    by_test true is_same stays is_change rest =
        rw is_change (rw (← eqb-true e.0 n is_same) (closed_below change e.0 (e.0 + 1) es closed
        (omega arith) is.1))
    by_test true is_same (keeps r) is_change rest =
        rw is_change (rw (← eqb-true e.0 n is_same) (closed_below change e.0 (e.0 + 1) es closed
        (omega arith) is.1))
    by_test true is_same ends is_change rest = rw (is_change, is_same) refl
    by_test false is_same stays is_change rest = rest
    by_test false is_same (keeps r) is_change rest = rest
    by_test false is_same ends is_change rest = rw is_same rest

pub tick-peer : (me you : End) (p q : Party) (e f : Engine) (sent : List Sent) (n now : ℕ)
    → AreTwo me you → p.peer ≡ q.own → p.own ≢ q.own → AreAscending 0 e.receivers
    → view_by you me q f (tick_engine p e now) (sent ++ sent_by me (tick_out p e now)) n
    ≡ receiver_after (receiver_ticks p now) (find n e.receivers) (view_by you me q f e sent n)
tick-peer me you p q e f sent n now both peer apart ascending =
    receiver_after-is (receiver_ticks p now) (view_by you me q f e sent n) (find n e.receivers)
    refl _ refl refl
    (find-ticked (receiver_changes p now) n 0 e.receivers ascending)
    (closed-ticked (receiver_changes p now) n 0 e.receivers e.closed ascending)
    (said-more you q.own n sent _ (said-by_another me you q.own n _ both.me_you))
    (said-two me q.own n sent _ _ [] _ (said-ticked_other (sender_ticks p now) me q.own n p.own
    e.senders apart)
    (rw peer (said-ticked (receiver_ticks p now) me q.own n 0 e.receivers ascending)))

-- ---- a block is submitted

pub begun-here : (me you : End) (p : Party) (e f : Engine) (sent : List Sent)
    (t : StepValue Sending) → AreTwo me you → p.first ≤ e.next
    → view_by me you p (record (with_sender e e.next t.next) { next = e.next + 1 }) f
    (sent ++ sent_by me (headed_all (session_of p.own e.next) t.out)) e.next
    ≡ begins (view_by me you p e f sent e.next) t
begun-here me you p e f sent t both low =
    let used : (nat_le p.first e.next && nat_lt e.next (e.next + 1)) ≡ true =
    grind (arith, nat_tests) in
    same_view _ _ used (find-settled e.next t.next e.senders) refl refl
    (said-and me p.own e.next sent _ t.out (said-headed me p.own e.next t.out))
    (said-more you p.own e.next sent _ (said-by_another me you p.own e.next _ both.me_you))

pub begun-others : (me you : End) (p : Party) (e f : Engine) (sent : List Sent) (m : ℕ)
    (t : StepValue Sending) → AreTwo me you → e.next ≢ m
    → view_by me you p (record (with_sender e e.next t.next) { next = e.next + 1 }) f
    (sent ++ sent_by me (headed_all (session_of p.own e.next) t.out)) m
    ≡ view_by me you p e f sent m
begun-others me you p e f sent m t both apart =
    let used : (nat_lt m (e.next + 1)) ≡ nat_lt m e.next = grind (arith, nat_tests) in
    same_view _ _ (ap (λ b. nat_le p.first m && b) used)
    (find-settled_other m e.next t.next e.senders (λ h. apart (sym h))) refl refl
    (said-more me p.own m sent _ (said-headed_other me p.own m p.own e.next t.out
    (other_number p.own p.own e.next m apart)))
    (said-more you p.own m sent _ (said-by_another me you p.own m _ both.me_you))

-- the next number is of no session yet
pub next-unused : (p : Party) (e : Engine) → is_used p e e.next ≡ false
next-unused p e = grind (arith, nat_tests)
