-- What is said about one session, and what a recording tells of the engine after it.

use Rattle.std.proofs.Common.{◌≡◌, ◌≢◌, ℕ, ◌<◌, ◌≤◌, ◌^◌, Bool, true, false, ◌==◌, ◌&&◌, ◌||◌}
use Rattle.std.proofs.Common.{List, [], ◌∷◌, length, Option, None, Some, refl, sym, ◌∙◌, arith, subst}
use Rattle.std.specs.List.{AllByRecursion}
use Rattle.std.proofs.lemmas.Bool.{eqb-true, eqb-false, ne_eqb}
use Rattle.ltp_segment.specs.Policy.{PolicyValue}
use Rattle.ltp_segment.specs.Values.{ContentValue, a_piece, a_report, a_report_ack}
use Rattle.ltp_segment.specs.Values.{a_sender_cancel, a_sender_cancel_ack, a_receiver_cancel}
use Rattle.ltp_segment.specs.Values.{a_receiver_cancel_ack}
use Rattle.ltp_session.specs.declared.name.SessionName.{SessionName}
use Rattle.ltp_session.specs.Table.{find, AreAscending}
use Rattle.ltp_session.specs.Step.{Change, stays, keeps, ends, after, StepValue}
use Rattle.ltp_session.specs.Sender.{Sending, sender_answers}
use Rattle.ltp_session.specs.Receiver.{Receiving, Admission, receiver_answers}
use Rattle.ltp_session.specs.Engine.{Party, Engine, with_sender, with_receiver, evicted_by, without_evicted}
use Rattle.ltp_laws.specs.Kept.{IfKept, IfKeeps}
use Rattle.ltp_laws.proofs.ListLemmas.{answered}
use Rattle.ltp_laws.proofs.FrameLemmas.{opening, find-with_receiver, roomy-received}
use Rattle.ltp_laws.proofs.TableLemmas.{self_eqb, find-settled_other, find-put_other, find-without_other, ascending-settled}
use Rattle.ltp_audit.specs.declared.entry.Entry.{Entry}
use Rattle.ltp_audit.specs.Recorded.{said_in}
use Rattle.ltp_audit.specs.Keeping.{followed_by}
use Rattle.ltp_audit.specs.Knows.{SenderMay, Awaits, IsOfBlock, SenderKnown, IsNoPiece, ReceiverMay, ReceiverKnown, IsParty, Sends, Receives, Knows}
use Rattle.ltp_audit.proofs.SaidLemmas.{entries, Says, says, holds-after}
use Rattle.ltp_audit.proofs.SenderSays.{SenderGoes, StillSends, IsTold, answers-go}
use Rattle.ltp_audit.proofs.ReceiverSays.{ReceiverGoes, known-still, answers-receiver}
use Rattle.ltp_audit.proofs.KnowsLemmas.{sender-safe, silent-safe, receiver-safe, settled-each}

-- ---- a reply about a session that the engine sends

pub apart-name : (p : Party) → IsParty p → (n m : ℕ) → ((p.own == p.peer) && (n == m)) ≡ false
apart-name p party n m = let apart : (p.own == p.peer) ≡ false = ne_eqb p.own p.peer party.apart in rw apart refl

pub other-number : (o n m : ℕ) → n ≢ m → ((o == o) && (n == m)) ≡ false
other-number o n m apart = let other : (n == m) ≡ false = ne_eqb n m apart in rw (self_eqb o, other) refl

module _ (p : Party) (party : IsParty p) (e : Engine) (history : List Entry) (knows : Knows p e history) (n : ℕ) where
  pub knows-sender : n < e.next → (t : StepValue Sending) → Says p.own p.peer (record { originator = p.own; number = n }) t.out history
      → IfKept (Sends n (followed_by (said_in p.own p.peer history p.own n) t.out)) (after t.next (find n e.senders))
      → Knows p (with_sender e n t.next) (followed_by history (entries (record { originator = p.own; number = n }) t.out))
  knows-sender used t says kept = record {
    senders = settled-each (λ m. Sends m (said_in p.own p.peer history p.own m))
        (λ m. Sends m (said_in p.own p.peer (followed_by history (entries (record { originator = p.own; number = n }) t.out)) p.own m)) n e.senders
        knows.senders
        (λ m s apart is. subst (λ (said : List ContentValue). Sends m said s) (sym (says.there p.own m (other-number p.own n m (λ h. apart (sym h))))) is)
        t.next
        (subst (λ (said : List ContentValue). IfKept (Sends n said) (after t.next (find n e.senders))) (sym says.here) kept);
    receivers = λ m.
        subst (λ (said : List ContentValue). IfKept (Receives m said) (find m e.receivers)) (sym (says.there p.peer m (apart-name p party n m)))
        (knows.receivers m);
    fresh = λ m above.
        let apart : m ≢ n = λ h. absurd (omega (arith, h, above, used)) in
        let before = knows.fresh m above in (
          find-settled_other m n t.next e.senders apart ∙ before.0,
          subst (λ (said : List ContentValue). AllByRecursion IsNoPiece said)
              (sym (says.there p.own m (other-number p.own n m (λ h. apart (sym h))))) before.1,
        );
    numbers = knows.numbers;
    own_ascend = ascending-settled n 0 t.next e.senders (omega arith) knows.own_ascend;
    others_ascend = knows.others_ascend;
  }

-- a session that isn't kept only acknowledges
silent-answers : (policy : PolicyValue) (content : ContentValue) (now : ℕ) (t : StepValue Sending) (said : List ContentValue) → IsTold content
    → sender_answers policy None content now ≡ Some t
    → AllByRecursion (λ c. SenderMay [] (content ∷ said) c × IsNoPiece c) t.out × (t.next ≡ stays)
unfolding sender_answers
silent-answers policy (a_report x) now t said told hears =
    answered (λ (u : StepValue Sending). AllByRecursion (λ c. SenderMay [] (a_report x ∷ said) c × IsNoPiece c) u.out × (u.next ≡ stays)) _ t hears
    ((((told, or-true _ _ (self_eqb x.serial)), tt), tt), refl) where
      or-true : (t b : Bool) → t ≡ true → (t || b) ≡ true
      or-true true b is = refl
      or-true false b is = absurd (cc)
silent-answers policy (a_receiver_cancel reason) now t said told hears =
    answered (λ (u : StepValue Sending). AllByRecursion (λ c. SenderMay [] (a_receiver_cancel reason ∷ said) c × IsNoPiece c) u.out × (u.next ≡ stays)) _ t hears
    (((refl, tt), tt), refl)
silent-answers policy a_sender_cancel_ack now t said told hears =
    answered (λ (u : StepValue Sending). AllByRecursion (λ c. SenderMay [] (a_sender_cancel_ack ∷ said) c × IsNoPiece c) u.out × (u.next ≡ stays)) _ t hears
    (tt, refl)
silent-answers policy (a_piece q) now t said told hears = absurd (cc)
silent-answers policy (a_report_ack n) now t said told hears = absurd (cc)
silent-answers policy (a_sender_cancel n) now t said told hears = absurd (cc)
silent-answers policy a_receiver_cancel_ack now t said told hears = absurd (cc)

-- what is kept of a sender after a step that says this
after-sends : (n : ℕ) (said : List ContentValue) (s : Sending) (t : StepValue Sending) → n < 2 ^ 64 → length s.block < 2 ^ 64
    → Awaits s.block s.phase → AllByRecursion (IsOfBlock s.block) said → IfKeeps (StillSends s.block) t.next
    → IfKept (Sends n said) (after t.next (Some s))
after-sends n said s t few small awaits pieces next = by t.next next where
  by : (c : Change Sending) → IfKeeps (StillSends s.block) c → IfKept (Sends n said) (after c (Some s))
  by stays is = (few, record { small = small; awaits = awaits; pieces = pieces })
  by (keeps s') is =
      let same = sym is.0 in (
        few,
        record {
          small = subst (λ (b : List ℕ). length b < 2 ^ 64) same small;
          awaits = subst (λ (b : List ℕ). Awaits b s'.phase) same is.1;
          pieces = subst (λ (b : List ℕ). AllByRecursion (IsOfBlock b) said) same pieces;
        },
      )
  by ends is = tt

-- what a reply about a session brings: what is said, and what is kept after it
pub record Replies (own peer : ℕ) (name : SessionName) {S : Type 0} (K : List ContentValue → S → Type 0) (kept : Option S) (t : StepValue S)
    (history : List Entry) : Type 0 where
  pub said : Says own peer name t.out history
  pub known : IfKept (K (followed_by (said_in own peer history name.originator name.number) t.out)) (after t.next kept)

module _ (p : Party) (party : IsParty p) (n : ℕ) (few : n < 2 ^ 64) (history : List Entry) where
  -- a sender's step, where its session's said is this
  pub sender-does : (s : Sending) (t : StepValue Sending) → SenderKnown (said_in p.own p.peer history p.own n) s
      → SenderGoes s.block (said_in p.own p.peer history p.own n) t
      → Replies p.own p.peer (record { originator = p.own; number = n }) (Sends n) (Some s) t history
  sender-does s t known goes =
      let all = holds-after p.own p.peer (record { originator = p.own; number = n }) (SenderMay s.block) (AllByRecursion (IsOfBlock s.block))
      (sender-safe p party n few s.block) t.out (said_in p.own p.peer history p.own n) goes.0 known.pieces in
      record {
        said = says p.own p.peer (record { originator = p.own; number = n }) (SenderMay s.block) (AllByRecursion (IsOfBlock s.block))
            (sender-safe p party n few s.block) t.out history goes.0 known.pieces;
        known = after-sends n _ s t few known.small known.awaits all goes.1;
      }

  pub sender-hears : (policy : PolicyValue) (kept : Option Sending) (content : ContentValue) (now : ℕ) (t : StepValue Sending) (earlier : List ContentValue)
      → said_in p.own p.peer history p.own n ≡ content ∷ earlier → IfKept (Sends n (said_in p.own p.peer history p.own n)) kept → IsTold content
      → sender_answers policy kept content now ≡ Some t
      → Replies p.own p.peer (record { originator = p.own; number = n }) (Sends n) kept t history
  sender-hears policy None content now t earlier is known told hears =
      let silent = silent-answers policy content now t earlier told hears in
      record {
        said = says p.own p.peer (record { originator = p.own; number = n }) (λ said c. SenderMay [] said c × IsNoPiece c) (λ said. Unit {0})
            (silent-safe p party n few) t.out history
            (subst (λ (said : List ContentValue). AllByRecursion (λ c. SenderMay [] said c × IsNoPiece c) t.out) (sym is) silent.0) tt;
        known = subst (λ (c : Change Sending). IfKept (Sends n (followed_by (said_in p.own p.peer history p.own n) t.out)) (after c None)) (sym silent.1) tt;
      }
  sender-hears policy (Some s) content now t earlier is known told hears =
      sender-does s t known.1
      (subst (λ (said : List ContentValue). SenderGoes s.block said t) (sym is)
      (answers-go policy (Some s) content now t s.block earlier (refl, known.1.small, known.1.awaits) told hears))

  -- ---- and about one that the peer sends

  after-receives : (said : List ContentValue) (kept : Option Receiving) (c : Change Receiving) → IfKept (ReceiverKnown said) kept
      → IfKeeps (ReceiverKnown said) c → IfKept (Receives n said) (after c kept)
  after-receives said None stays known next = tt
  after-receives said (Some r) stays known next = (few, known)
  after-receives said kept (keeps r) known next = (few, next)
  after-receives said kept ends known next = tt

  on-known : (said : List ContentValue) (kept : Option Receiving) → IfKept (Receives n said) kept → IfKept (ReceiverKnown said) kept
  on-known said None known = tt
  on-known said (Some r) known = known.1

  later-known : (said out : List ContentValue) (kept : Option Receiving) → IfKept (ReceiverKnown said) kept
      → IfKept (ReceiverKnown (followed_by said out)) kept
  later-known said [] kept known = known
  later-known said (c ∷ out) None known = tt
  later-known said (c ∷ out) (Some r) known = later-known (c ∷ said) out (Some r) (known-still c said r known)

  later-keeps : (said out : List ContentValue) (c : Change Receiving) → IfKeeps (ReceiverKnown said) c → IfKeeps (ReceiverKnown (followed_by said out)) c
  later-keeps said out stays known = tt
  later-keeps said out (keeps r) known = later-known said out (Some r) known
  later-keeps said out ends known = tt

  pub receiver-does : (kept : Option Receiving) (t : StepValue Receiving) → IfKept (ReceiverKnown (said_in p.own p.peer history p.peer n)) kept
      → ReceiverGoes (said_in p.own p.peer history p.peer n) t
      → Replies p.own p.peer (record { originator = p.peer; number = n }) (Receives n) kept t history
  receiver-does kept t known goes = record {
    said = says p.own p.peer (record { originator = p.peer; number = n }) ReceiverMay (λ said. Unit {0})
        (receiver-safe p party n few (λ said. Unit {0}) (λ said content holds. tt)) t.out history goes.0 tt;
    known = after-receives _ kept t.next (later-known _ t.out kept known) (later-keeps _ t.out t.next goes.1);
  }

  pub receiver-hears : (policy : PolicyValue) (place : Admission) (kept : Option Receiving) (content : ContentValue) (now : ℕ) (t : StepValue Receiving)
      (earlier : List ContentValue) → said_in p.own p.peer history p.peer n ≡ content ∷ earlier
      → IfKept (Receives n (said_in p.own p.peer history p.peer n)) kept → IsTold content
      → receiver_answers policy place kept content now ≡ Some t
      → Replies p.own p.peer (record { originator = p.peer; number = n }) (Receives n) kept t history
  receiver-hears policy place kept content now t earlier is known told hears =
      let here = on-known _ kept known in
      receiver-does kept t here
      (subst (λ (said : List ContentValue). ReceiverGoes said t) (sym is)
      (answers-receiver policy place kept content now t earlier (subst (λ (said : List ContentValue). IfKept (ReceiverKnown said) kept) is here) told hears))

-- ---- a reply about a session that the peer sends

found-other : (f : Engine) (m k : ℕ) (c : Change Receiving) → m ≢ k → find m (with_receiver f k c).receivers ≡ find m f.receivers
unfolding with_receiver
found-other f m k stays apart = refl
found-other f m k (keeps r) apart = find-put_other m k r f.receivers apart
found-other f m k ends apart = find-without_other m k f.receivers apart

-- where a session is kept, it is as before room was made
room-kept : (P : Receiving → Type 0) (f : Engine) (gone : Option ℕ) (m : ℕ) → IfKept P (find m f.receivers)
    → IfKept P (find m (without_evicted f gone).receivers)
room-kept P f None m is = is
room-kept P f (Some k) m is = by (m == k) refl where
  by : (same : Bool) → (m == k) ≡ same → IfKept P (find m (with_receiver f k ends).receivers)
  by true h =
      let same : m ≡ k = eqb-true m k h in
      subst (λ (j : ℕ). IfKept P (find j (with_receiver f k ends).receivers)) (sym same) (subst (IfKept P) (sym (find-with_receiver f k ends)) tt)
  by false h = subst (IfKept P) (sym (found-other f m k ends (eqb-false m k h))) is

opened-kept : (P : Receiving → Type 0) (q : Party) (f : Engine) (n : ℕ) (kept : Option Receiving) (c : Change Receiving) → IfKept P (after c (find n f.receivers))
    → IfKept P (after c (find n (opening q f kept c).receivers))
opened-kept P q f n None stays is = is
opened-kept P q f n (Some r) stays is = is
opened-kept P q f n kept (keeps r) is = is
opened-kept P q f n kept ends is = tt

module _ (p : Party) (party : IsParty p) (e : Engine) (history : List Entry) (knows : Knows p e history) (n : ℕ) where
  pub knows-receiver : (t : StepValue Receiving) → Says p.own p.peer (record { originator = p.peer; number = n }) t.out history
      → IfKept (Receives n (followed_by (said_in p.own p.peer history p.peer n) t.out)) (after t.next (find n e.receivers))
      → Knows p (with_receiver (opening p e (find n e.receivers) t.next) n t.next) (followed_by history (entries (record { originator = p.peer; number = n }) t.out))
  knows-receiver t said kept =
      let roomy = roomy-received p e n t.next in
      record {
        senders = λ m.
            let here = said.there p.own m (own-apart m) in
            let same = roomy.senders in
            subst (λ (es : List (ℕ × Sending)). IfKept (Sends m (said_in p.own p.peer (followed_by history (entries (record { originator = p.peer; number = n }) t.out)) p.own m)) (find m es))
            (sym same) (subst (λ (s : List ContentValue). IfKept (Sends m s) (find m e.senders)) (sym here) (knows.senders m));
        receivers = receivers;
        fresh = λ m above.
            let same = roomy.next in
            let before = knows.fresh m (subst (λ (k : ℕ). k ≤ m) same above) in (
              subst (λ (es : List (ℕ × Sending)). find m es ≡ None) (sym roomy.senders) before.0,
              subst (λ (s : List ContentValue). AllByRecursion IsNoPiece s) (sym (said.there p.own m (own-apart m))) before.1,
            );
        numbers = subst (λ (k : ℕ). k ≤ 2 ^ 32) (sym roomy.next) knows.numbers;
        own_ascend = subst (λ (es : List (ℕ × Sending)). AreAscending 0 es) (sym roomy.senders) knows.own_ascend;
        others_ascend = roomy.receivers knows.others_ascend;
      }
    where
      own-apart : (m : ℕ) → ((p.peer == p.own) && (n == m)) ≡ false
      own-apart m = let apart : (p.peer == p.own) ≡ false = ne_eqb p.peer p.own (λ h. party.apart (sym h)) in rw apart refl

      receivers : (m : ℕ) → IfKept (Receives m (said_in p.own p.peer (followed_by history (entries (record { originator = p.peer; number = n }) t.out)) p.peer m))
          (find m (with_receiver (opening p e (find n e.receivers) t.next) n t.next).receivers)
      receivers m = by (m == n) refl where
        by : (same : Bool) → (m == n) ≡ same
            → IfKept (Receives m (said_in p.own p.peer (followed_by history (entries (record { originator = p.peer; number = n }) t.out)) p.peer m))
            (find m (with_receiver (opening p e (find n e.receivers) t.next) n t.next).receivers)
        by true is =
            let same : n ≡ m = sym (eqb-true m n is) in
            subst (λ (k : ℕ). IfKept (Receives k (said_in p.own p.peer (followed_by history (entries (record { originator = p.peer; number = n }) t.out)) p.peer k))
            (find k (with_receiver (opening p e (find n e.receivers) t.next) n t.next).receivers)) same
            (subst (IfKept (Receives n (said_in p.own p.peer (followed_by history (entries (record { originator = p.peer; number = n }) t.out)) p.peer n)))
            (sym (find-with_receiver (opening p e (find n e.receivers) t.next) n t.next))
            (subst (λ (s : List ContentValue). IfKept (Receives n s) (after t.next (find n (opening p e (find n e.receivers) t.next).receivers))) (sym said.here)
            (opened-kept (Receives n (followed_by (said_in p.own p.peer history p.peer n) t.out)) p e n (find n e.receivers) t.next kept)))
        by false is =
            let apart : m ≢ n = eqb-false m n is in
            let here = said.there p.peer m (other-number p.peer n m (λ h. apart (sym h))) in
            subst (IfKept (Receives m (said_in p.own p.peer (followed_by history (entries (record { originator = p.peer; number = n }) t.out)) p.peer m)))
            (sym (found-other (opening p e (find n e.receivers) t.next) m n t.next apart))
            (room-kept _ e (evicted_by p e (find n e.receivers) t.next) m
            (subst (λ (s : List ContentValue). IfKept (Receives m s) (find m e.receivers)) (sym here) (knows.receivers m)))
