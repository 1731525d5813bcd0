-- What goes out is what was put, in order.

use Rattle.std.proofs.Common.{◌≡◌, ℕ, Bool, true, false, List, [], ◌∷◌, ◌++◌, Option, None, if◌then◌else◌, refl, sym, ap, ◌∙◌, append_assoc}
use Rattle.std.proofs.lemmas.List.{append-nil, map-append}
use Rattle.outbox.specs.declared.reading.Reading.{Reading}
use Rattle.outbox.specs.Laws.{GoesOutInOrder}
use Rattle.outbox.specs.Outbox.{OutboxValue, first_of, fits, may_send, others_of}
use Rattle.outbox.specs.Run.{Call, Tried, after_call, datagrams_of, kept, kept_by, puts, reads, refuses, run, sends, tried, tried_by, tries}

datagrams-append : (ts us : List Tried) → datagrams_of (ts ++ us) ≡ datagrams_of ts ++ datagrams_of us
datagrams-append ts us = map-append (λ t. t.datagram) ts us

put-step : (fit : Bool) (waiting : List (List ℕ)) (datagram : List ℕ)
    → (if fit then waiting ++ datagram ∷ [] else waiting) ≡ waiting ++ (if fit then datagram ∷ [] else [])
put-step true waiting datagram = refl
put-step false waiting datagram = sym (append-nil waiting)

send-step : (may : Bool) (waiting : List (List ℕ)) (reading : Option Reading)
    → datagrams_of (tries (if may then first_of waiting else None) reading) ++ (if may then others_of waiting else waiting) ≡ waiting ++ []
send-step true [] reading = refl
send-step true (datagram ∷ datagrams) reading = sym (append-nil (datagram ∷ datagrams))
send-step false waiting reading = sym (append-nil waiting)

order-step : (b : OutboxValue) (call : Call) → datagrams_of (tried_by b call) ++ (after_call b call).waiting ≡ b.waiting ++ kept_by b call
order-step b (reads now) = sym (append-nil b.waiting)
order-step b (puts datagram) = put-step (fits b datagram) b.waiting datagram
order-step b refuses = sym (append-nil b.waiting)
order-step b sends = send-step (may_send b) b.waiting b.reading

-- one step before others
order-join : (t ts after w0 w1 k ks : List (List ℕ)) → t ++ w1 ≡ w0 ++ k → ts ++ after ≡ w1 ++ ks → (t ++ ts) ++ after ≡ w0 ++ (k ++ ks)
order-join t ts after w0 w1 k ks first rest =
    append_assoc t ts after ∙ (ap (λ x. t ++ x) rest ∙ (sym (append_assoc t w1 ks) ∙ (ap (λ x. x ++ ks) first ∙ append_assoc w0 k ks)))

pub goes-out-in-order : GoesOutInOrder
goes-out-in-order b [] = sym (append-nil b.waiting)
goes-out-in-order b (call ∷ calls) =
    ap (λ x. x ++ (run (after_call b call) calls).waiting) (datagrams-append (tried_by b call) (tried (after_call b call) calls))
    ∙ order-join (datagrams_of (tried_by b call)) (datagrams_of (tried (after_call b call) calls)) (run (after_call b call) calls).waiting
    b.waiting (after_call b call).waiting (kept_by b call) (kept (after_call b call) calls)
    (order-step b call) (goes-out-in-order (after_call b call) calls)
