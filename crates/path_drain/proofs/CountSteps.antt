-- How much room engines on a path need after some events, and after a block is submitted.

use Rattle.std.proofs.Common.{◌≡◌, ℕ, ◌+◌, ◌≤◌, Bool, true, false, ◌==◌}
use Rattle.std.proofs.Common.{List, [], ◌∷◌}
use Rattle.std.proofs.Common.{refl, ap, arith, nat_lt, if◌then◌else◌}
use Rattle.std.specs.Prelude.{cond}
use Rattle.ltp_session.specs.Engine.{Engine}
use Rattle.ltp_session.specs.Sender.{Sending}
use Rattle.ltp_session.specs.Table.{put}
use Rattle.ltp_drain.specs.Hopeful.{HasRoom, coming, is_unknown}
use Rattle.ltp_drain.proofs.RoomLemmas.{how_many}
use Rattle.ltp_drain.proofs.RoomSteps.{NoMore, coming-is}
use Rattle.path_drain.specs.PathRoom.{HasRoomFor}

pub then-need : (e f e' f' g h : Engine) → NoMore e f e' f' → NoMore e' f' g h → NoMore e f g h
then-need e f e' f' g h first second = record {
  senders = omega (arith, first.senders, second.senders);
  receivers = omega (arith, first.receivers, second.receivers);
  numbers = omega (arith, first.numbers, second.numbers);
}

pub room-left : (own own' peer peer' : ℕ) (e f e' f' : Engine) → NoMore e f e' f' → own' ≤ own
    → peer' ≤ peer → HasRoomFor own peer e f → HasRoomFor own' peer' e' f'
room-left own own' peer peer' e f e' f' need mine yours room = record {
  senders = omega (arith, room.senders, need.senders, mine);
  receivers = omega (arith, room.receivers, need.receivers, yours);
  numbers = omega (arith, room.numbers, need.numbers, yours);
}

-- room on a path is room on its links
pub link-room : (own peer : ℕ) (e f : Engine) → HasRoomFor own peer e f → HasRoom e f
link-room own peer e f room = record {
  senders = omega (arith, room.senders);
  receivers = omega (arith, room.receivers);
  numbers = omega (arith, room.numbers);
}

-- ---- a session that begins

pub many-new : {S : Type 0} (p : ℕ → Bool) (n : ℕ) (s : S) (es : List (ℕ × S))
    → how_many (λ e. p e.0) (put n s es) ≤ how_many (λ e. p e.0) es + 1
unfolding put
many-new p n s [] = at_most_one (p n)
  where
    at_most_one : (b : Bool) → cond b (1 + 0) 0 ≤ 0 + 1
    at_most_one true = omega arith
    at_most_one false = omega arith
many-new p n s (e ∷ es) = by_test (e.0 == n) refl (nat_lt n e.0) (p n) (p e.0) refl refl
    (many-new p n s es)
  where
    by_test : (same : Bool) → (e.0 == n) ≡ same → (less a b : Bool) → p e.0 ≡ b → p n ≡ a
        → how_many (λ e. p e.0) (put n s es) ≤ how_many (λ e. p e.0) es + 1
        → how_many (λ e. p e.0) (if same then (n, s) ∷ es else if less then (n, s) ∷ (e ∷ es)
        else e ∷ put n s es)
        ≤ cond (p e.0) (1 + how_many (λ e. p e.0) es) (how_many (λ e. p e.0) es) + 1
    by_test true is less true true at_e at_n rest = rw (at_e, at_n) (omega arith)
    by_test true is less true false at_e at_n rest = rw (at_e, at_n) (omega arith)
    by_test true is less false true at_e at_n rest = rw (at_e, at_n) (omega arith)
    by_test true is less false false at_e at_n rest = rw (at_e, at_n) (omega arith)
    by_test false is true true true at_e at_n rest = rw (at_e, at_n) (omega arith)
    by_test false is true true false at_e at_n rest = rw (at_e, at_n) (omega arith)
    by_test false is true false true at_e at_n rest = rw (at_e, at_n) (omega arith)
    by_test false is true false false at_e at_n rest = rw (at_e, at_n) (omega arith)
    by_test false is false a true at_e at_n rest = rw at_e (omega (arith, rest))
    by_test false is false a false at_e at_n rest = rw at_e (omega (arith, rest))

-- one more sender at f is one more that comes to e
pub one-more-comes : (e f f' : Engine) (n : ℕ) (s : Sending) → f'.senders ≡ put n s f.senders
    → coming e f' ≤ coming e f + 1
one-more-comes e f f' n s is = omega (
  arith,
  coming-is e f',
  coming-is e f,
  ap (λ (es : List (ℕ × Sending)). how_many (λ entry. is_unknown e entry.0) es) is,
  many-new (is_unknown e) n s f.senders,
)
