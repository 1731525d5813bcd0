-- Clean steps leave the room that there was.

use Rattle.std.proofs.Common.{◌≡◌, ◌≢◌, ℕ, ◌+◌, ◌<◌, ◌≤◌, Bool, true, false, not, ◌==◌, ◌&&◌, List}
use Rattle.std.proofs.Common.{◌++◌, length, Option, None, Some, is_some, ◌⊎◌, inl, inr, refl, sym}
use Rattle.std.proofs.Common.{[], ◌∙◌, ap, arith, subst}
use Rattle.std.proofs.lemmas.Bool.{eqb-true, eqb-false}
use Rattle.ltp_session.specs.Engine.{Engine, Party, closed_runs, is_closed, receiver_changes}
use Rattle.ltp_session.specs.Engine.{receiver_ticks}
use Rattle.ltp_session.specs.Engine.{sender_changes, tick_engine, tick_out, with_receiver}
use Rattle.ltp_session.specs.Engine.{with_sender}
use Rattle.ltp_session.specs.Receiver.{Receiving}
use Rattle.ltp_session.specs.Sender.{Sending}
use Rattle.ltp_session.specs.Step.{Change, after, stays, keeps, ends}
use Rattle.ltp_session.specs.Table.{AreAscending, ended, find, settled, without}
use Rattle.ltp_session.specs.World.{End, sent_by}
use Rattle.ltp_laws.specs.Runs.{receiver_after}
use Rattle.ltp_laws.specs.View.{View, closed_after, view_by}
use Rattle.ltp_laws.proofs.FrameLemmas.{AreTwo, closed-with_receiver, find-with_receiver}
use Rattle.ltp_laws.proofs.FrameLemmas.{find-with_receiver_other}
use Rattle.ltp_laws.proofs.FrameLemmas.{closed-with_receiver_other}
use Rattle.ltp_laws.proofs.FrameLemmas.{senders-with_receiver, tick-peer}
use Rattle.ltp_laws.proofs.RunLemmas.{Linked}
use Rattle.ltp_drain.specs.Hopeful.{HasRoom, coming, is_unknown}
use Rattle.ltp_drain.proofs.RoomLemmas.{count-is, how_many, length-put, length-put_new}
use Rattle.ltp_drain.proofs.RoomLemmas.{length-ticked, length-without, length-without_kept}
use Rattle.ltp_drain.proofs.RoomLemmas.{many-less, many-most, many-put, many-ticked}
use Rattle.ltp_drain.proofs.RoomLemmas.{many-without, runs-append, runs-more}

pub coming-is : (e f : Engine) → how_many (λ entry. is_unknown e entry.0) f.senders ≡ coming e f
coming-is e f = count-is (λ entry. is_unknown e entry.0) f.senders

-- ---- room that is left

-- engine e is e' after an event, and its peer f is f': it needs no more room
pub record NoMore (e f e' f' : Engine) : Type 0 where
  pub senders : length e'.senders ≤ length e.senders
  pub receivers : length e'.receivers + coming e' f' ≤ length e.receivers + coming e f
  pub numbers :
      closed_runs e'.closed + length e'.receivers + coming e' f'
      ≤ closed_runs e.closed + length e.receivers + coming e f

pub same-need : (e f : Engine) → NoMore e f e f
same-need e f = record {
  senders = omega arith;
  receivers = omega arith;
  numbers = omega arith;
}

-- there is room after it where there was
room-kept : (e f e' f' : Engine) → NoMore e f e' f' → HasRoom e f → HasRoom e' f'
room-kept e f e' f' need room = record {
  senders = omega (arith, room.senders, need.senders);
  receivers = omega (arith, room.receivers, need.receivers);
  numbers = omega (arith, room.numbers, need.numbers);
}

-- ---- a sender's step

-- a change that keeps a state was of a session that is kept
abbrev pub OfKept : {S : Type 0} → ℕ → List (ℕ × S) → Change S → Type 0
OfKept n es stays = Unit {0}
OfKept n es (keeps s') = (s : _) × (find n es ≡ Some s)
OfKept n es ends = Unit {0}

pub many-settled : {S : Type 0} (p : ℕ → Bool) (n : ℕ) (c : Change S) (es : List (ℕ × S))
    → AreAscending 0 es
    → OfKept n es c → how_many (λ e. p e.0) (settled n c es) ≤ how_many (λ e. p e.0) es
many-settled p n stays es ascending of = omega arith
many-settled p n (keeps s') es ascending of =
    omega (arith, many-put p n 0 of.0 s' es ascending of.1)
many-settled p n ends es ascending of = many-without p n es

pub length-settled : {S : Type 0} (n : ℕ) (c : Change S) (es : List (ℕ × S)) → AreAscending 0 es
    → OfKept n es c → length (settled n c es) ≤ length es
length-settled n stays es ascending of = omega arith
length-settled n (keeps s') es ascending of =
    omega (arith, length-put n 0 of.0 s' es ascending of.1)
length-settled n ends es ascending of = length-without n es

pub need-sent : (e f : Engine) (n : ℕ) (c : Change Sending) → AreAscending 0 e.senders
    → OfKept n e.senders c → NoMore e f (with_sender e n c) f
need-sent e f n c ascending of = record {
  senders = length-settled n c e.senders ascending of;
  receivers = omega arith;
  numbers = omega arith;
}

pub need-sent_peer : (e f : Engine) (n : ℕ) (c : Change Sending) → AreAscending 0 e.senders
    → OfKept n e.senders c → NoMore f e f (with_sender e n c)
need-sent_peer e f n c ascending of = record {
  senders = omega arith;
  receivers = omega (arith, fewer);
  numbers = omega (arith, fewer);
}
  where
    fewer : coming f (with_sender e n c) ≤ coming f e
    fewer = omega (
      arith,
      coming-is f (with_sender e n c),
      coming-is f e,
      many-settled (is_unknown f) n c e.senders ascending of,
    )

pub room-sent : (e f : Engine) (n : ℕ) (c : Change Sending) → AreAscending 0 e.senders
    → OfKept n e.senders c → HasRoom e f → HasRoom (with_sender e n c) f
room-sent e f n c ascending of =
    room-kept e f (with_sender e n c) f (need-sent e f n c ascending of)

pub room-sent_peer : (e f : Engine) (n : ℕ) (c : Change Sending) → AreAscending 0 e.senders
    → OfKept n e.senders c → HasRoom f e → HasRoom f (with_sender e n c)
room-sent_peer e f n c ascending of =
    room-kept f e f (with_sender e n c) (need-sent_peer e f n c ascending of)

-- ---- a receiver's step

-- of what is kept, and of whether the number is closed
abbrev pub unknown_of : Option Receiving → Bool → Bool
unknown_of kept closed = not (is_some kept) && not closed

unknown-after : (c : Change Receiving) (kept : Option Receiving) (closed : Bool)
    → unknown_of (after c kept) (closed_after c closed) ≡ true → unknown_of kept closed ≡ true
unknown-after stays kept closed is = is
unknown-after (keeps r) kept closed is = absurd (cc)
unknown-after ends kept closed is = absurd (cc)

pub unknown-received : (e : Engine) (n : ℕ) (c : Change Receiving) (m : ℕ)
    → is_unknown (with_receiver e n c) m ≡ true → is_unknown e m ≡ true
unknown-received e n c m is = by_test (m == n) refl
  where
    by_test : (same : Bool) → (m == n) ≡ same → is_unknown e m ≡ true
    by_test true same =
        let here : m ≡ n = eqb-true m n same in
        subst (λ k. is_unknown e k ≡ true) (sym here)
        (unknown-after c (find n e.receivers) (is_closed n e.closed)
        (subst (λ (kept : Option Receiving). unknown_of kept
        (closed_after c (is_closed n e.closed)) ≡ true) (find-with_receiver e n c)
        (subst (λ (closed : Bool). unknown_of (find n (with_receiver e n c).receivers) closed ≡
        true) (closed-with_receiver e n c)
        (subst (λ k. is_unknown (with_receiver e n c) k ≡ true) here is))))
    by_test false same =
        let away : m ≢ n = eqb-false m n same in
        subst (λ (kept : Option Receiving). unknown_of kept (is_closed m e.closed) ≡ true)
        (find-with_receiver_other e m n c away)
        (subst (λ (closed : Bool). unknown_of (find m (with_receiver e n c).receivers) closed ≡
        true) (closed-with_receiver_other e m n c away) is)

-- the number of a session that comes, and its sender
pub record Comes_to (e f : Engine) (n : ℕ) : Type 0 where
  pub unknown : is_unknown e n ≡ true
  pub sender : Sending
  pub kept : find n f.senders ≡ Some sender

-- the change is of a session that is kept, or of one that comes, or it is none
abbrev pub OfComing : Engine → Engine → ℕ → Change Receiving → Type 0
OfComing e f n stays = Unit {0}
OfComing e f n (keeps r') = ((r : Receiving) × (find n e.receivers ≡ Some r)) ⊎ Comes_to e f n
OfComing e f n ends = (r : Receiving) × (find n e.receivers ≡ Some r)

fewer-received : (e f : Engine) (n : ℕ) (c : Change Receiving)
    → coming (with_receiver e n c) f ≤ coming e f
fewer-received e f n c = omega (
  arith,
  coming-is (with_receiver e n c) f,
  coming-is e f,
  many-most (λ entry. is_unknown (with_receiver e n c) entry.0)
      (λ entry. is_unknown e entry.0) f.senders
      (λ entry. unknown-received e n c entry.0),
)

pub need-received : (e f : Engine) (n : ℕ) (c : Change Receiving) → AreAscending 0 e.receivers
    → OfComing e f n c → NoMore e f (with_receiver e n c) f
unfolding with_receiver
need-received e f n stays ascending of = same-need e f
need-received e f n (keeps r') ascending (inl (r, kept)) = record {
  senders = omega arith;
  receivers = omega (
    arith,
    fewer-received e f n (keeps r'),
    length-put n 0 r r' e.receivers ascending kept,
  );
  numbers = omega (
    arith,
    fewer-received e f n (keeps r'),
    length-put n 0 r r' e.receivers ascending kept,
  );
}
need-received e f n (keeps r') ascending (inr comes) = record {
  senders = omega arith;
  receivers = omega (arith, fewer, length-put_new n r' e.receivers);
  numbers = omega (arith, fewer, length-put_new n r' e.receivers);
}
  where
    known : is_unknown (with_receiver e n (keeps r')) n ≡ false
    known = ap (λ (kept : Option Receiving). unknown_of kept (is_closed n e.closed))
        (find-with_receiver e n (keeps r'))

    fewer : coming (with_receiver e n (keeps r')) f < coming e f
    fewer = omega (
      arith,
      coming-is (with_receiver e n (keeps r')) f,
      coming-is e f,
      many-less (is_unknown (with_receiver e n (keeps r'))) (is_unknown e) n f.senders
          comes.sender
          (unknown-received e n (keeps r')) known comes.unknown comes.kept,
    )
need-received e f n ends ascending (r, kept) = record {
  senders = omega arith;
  receivers = omega (arith, fewer-received e f n ends, less);
  numbers = omega (arith, fewer-received e f n ends, less, runs-more n e.closed);
}
  where
    less : length (without n e.receivers) < length e.receivers
    less = length-without_kept n e.receivers r kept

pub same-senders : (e f f' : Engine) → f'.senders ≡ f.senders → coming e f' ≡ coming e f
same-senders e f f' same = sym (coming-is e f')
    ∙ ap (λ (es : List (ℕ × Sending)). how_many (λ entry. is_unknown e entry.0) es) same
    ∙ coming-is e f

pub need-received_peer : (e f : Engine) (n : ℕ) (c : Change Receiving)
    → NoMore f e f (with_receiver e n c)
need-received_peer e f n c =
    let same : coming f (with_receiver e n c) ≡ coming f e =
    same-senders f e (with_receiver e n c) (senders-with_receiver e n c) in
    record {
      senders = omega arith;
      receivers = omega (arith, same);
      numbers = omega (arith, same);
    }

pub room-received : (e f : Engine) (n : ℕ) (c : Change Receiving) → AreAscending 0 e.receivers
    → OfComing e f n c → HasRoom e f → HasRoom (with_receiver e n c) f
room-received e f n c ascending of =
    room-kept e f (with_receiver e n c) f (need-received e f n c ascending of)

pub room-received_peer : (e f : Engine) (n : ℕ) (c : Change Receiving) → HasRoom f e
    → HasRoom f (with_receiver e n c)
room-received_peer e f n c =
    room-kept f e f (with_receiver e n c) (need-received_peer e f n c)

-- ---- ticks

pub unknown-ticked : (me you : End) (p q : Party) (e f : Engine) (now : ℕ) → AreTwo me you
    → Linked p q
    → AreAscending 0 e.receivers → (m : ℕ) → is_unknown (tick_engine p e now) m ≡ true
    → is_unknown e m ≡ true
unknown-ticked me you p q e f now both linked ascending m is = by_kept (find m e.receivers) refl
    (ap (λ (v : View). v.receiver) same) (ap (λ (v : View). v.closed) same)
  where
    v : View
    v = view_by you me q f e [] m

    same : view_by you me q f (tick_engine p e now) ([] ++ sent_by me (tick_out p e now)) m ≡
        receiver_after (receiver_ticks p now) (find m e.receivers) (view_by you me q f e [] m)
    same = tick-peer me you p q e f [] m now both linked.knows linked.apart ascending

    by_kept : (kept : Option Receiving) → find m e.receivers ≡ kept
        → find m (tick_engine p e now).receivers ≡
        (receiver_after (receiver_ticks p now) kept v).receiver
        → is_closed m (tick_engine p e now).closed ≡
        (receiver_after (receiver_ticks p now) kept v).closed
        → is_unknown e m ≡ true
    by_kept None kept found closed =
        subst (λ (o : Option Receiving). unknown_of o (is_closed m e.closed) ≡ true) found
        (subst (λ (b : Bool). unknown_of (find m (tick_engine p e now).receivers) b ≡ true) closed
        is)
    by_kept (Some r) kept found closed =
        unknown-after (receiver_ticks p now r).next (find m e.receivers) (is_closed m e.closed)
        (subst (λ (o : Option Receiving). unknown_of o
        (closed_after (receiver_ticks p now r).next (is_closed m e.closed)) ≡ true) found
        (subst (λ (b : Bool). unknown_of (find m (tick_engine p e now).receivers) b ≡ true) closed
        is))

pub need-ticked : (me you : End) (p q : Party) (e f : Engine) (now : ℕ) → AreTwo me you
    → Linked p q → AreAscending 0 e.receivers → NoMore e f (tick_engine p e now) f
need-ticked me you p q e f now both linked ascending = record {
  senders = omega (arith, length-ticked (sender_changes p now) e.senders);
  receivers = omega (arith, fewer, length-ticked (receiver_changes p now) e.receivers);
  numbers = omega (
    arith,
    fewer,
    length-ticked (receiver_changes p now) e.receivers,
    runs-append (ended (receiver_changes p now) e.receivers) e.closed,
  );
}
  where
    fewer : coming (tick_engine p e now) f ≤ coming e f
    fewer = omega (
      arith,
      coming-is (tick_engine p e now) f,
      coming-is e f,
      many-most (λ entry. is_unknown (tick_engine p e now) entry.0)
          (λ entry. is_unknown e entry.0) f.senders
          (λ entry. unknown-ticked me you p q e f now both linked ascending entry.0),
    )

pub need-ticked_peer : (p : Party) (e f : Engine) (now : ℕ) → NoMore f e f (tick_engine p e now)
need-ticked_peer p e f now = record {
  senders = omega arith;
  receivers = omega (arith, fewer);
  numbers = omega (arith, fewer);
}
  where
    fewer : coming f (tick_engine p e now) ≤ coming f e
    fewer = omega (
      arith,
      coming-is f (tick_engine p e now),
      coming-is f e,
      many-ticked (is_unknown f) (sender_changes p now) e.senders,
    )

pub room-ticked : (me you : End) (p q : Party) (e f : Engine) (now : ℕ) → AreTwo me you
    → Linked p q
    → AreAscending 0 e.receivers → HasRoom e f → HasRoom (tick_engine p e now) f
room-ticked me you p q e f now both linked ascending =
    room-kept e f (tick_engine p e now) f (need-ticked me you p q e f now both linked ascending)

pub room-ticked_peer : (p : Party) (e f : Engine) (now : ℕ) → HasRoom f e
    → HasRoom f (tick_engine p e now)
room-ticked_peer p e f now = room-kept f e f (tick_engine p e now) (need-ticked_peer p e f now)
