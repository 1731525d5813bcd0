-- A block that is submitted where there is a place for its session.

use Rattle.std.proofs.Common.{◌≡◌, ℕ, ◌+◌, ◌^◌, ◌<◌, ◌≤◌, Bool, true, false, ◌==◌, List, length}
use Rattle.std.proofs.Common.{None, Some, Result, Ok, Err, ◌⊎◌, inl, inr, refl, arith, nat_lt}
use Rattle.std.proofs.Common.{nat_le, if◌then◌else◌}
use Rattle.std.proofs.lemmas.Bool.Decides.{nat_tests}
use Rattle.ltp_session.specs.Engine.{Engine, EngineStep, Party, SubmitFault, begun, block_empty}
use Rattle.ltp_session.specs.Engine.{block_too_large, numbers_spent, senders_busy, submit_step}
use Rattle.ltp_session.specs.Engine.{submits, submits_unless}
use Rattle.ltp_session.specs.Sender.{Sending, begin}
use Rattle.ltp_session.specs.Step.{Change, StepValue, ends, keeps, stays}
use Rattle.ltp_session.specs.Table.{settled}
use Rattle.ltp_drain.specs.Hopeful.{coming, is_unknown}
use Rattle.ltp_drain.proofs.RoomLemmas.{how_many, length-put_new, length-without, many-without}
use Rattle.ltp_drain.proofs.RoomSteps.{coming-is}
use Rattle.path_drain.specs.PathRoom.{HasRoomFor}
use Rattle.path_drain.proofs.CountSteps.{many-new}

-- ---- a session more

pub length-more : (n : ℕ) (c : Change Sending) (es : List (ℕ × Sending))
    → length (settled n c es) ≤ length es + 1
length-more n stays es = omega arith
length-more n (keeps s) es = length-put_new n s es
length-more n ends es = omega (arith, length-without n es)

many-more : (p : ℕ → Bool) (n : ℕ) (c : Change Sending) (es : List (ℕ × Sending))
    → how_many (λ e. p e.0) (settled n c es) ≤ how_many (λ e. p e.0) es + 1
many-more p n stays es = omega arith
many-more p n (keeps s) es = many-new p n s es
many-more p n ends es = omega (arith, many-without p n es)

-- the engine that begins a session
abbrev pub with_begun : Engine → StepValue Sending → Engine
with_begun e t = (begun e t).engine

comes-more : (f e : Engine) (t : StepValue Sending) → coming f (with_begun e t) ≤ coming f e + 1
comes-more f e t = omega (
  arith,
  coming-is f (with_begun e t),
  coming-is f e,
  many-more (is_unknown f) e.next t.next e.senders,
)

pub own-begun : (own own' peer peer' : ℕ) (e f : Engine) (t : StepValue Sending) → own' + 1 ≤ own
    → peer' ≤ peer → HasRoomFor own peer e f → HasRoomFor own' peer' (with_begun e t) f
own-begun own own' peer peer' e f t mine yours room = record {
  senders = omega (arith, room.senders, length-more e.next t.next e.senders, mine);
  receivers = omega (arith, room.receivers, yours);
  numbers = omega (arith, room.numbers, yours);
}

pub peer-begun : (own own' peer peer' : ℕ) (e f : Engine) (t : StepValue Sending) → own' ≤ own
    → peer' + 1 ≤ peer → HasRoomFor own peer f e → HasRoomFor own' peer' f (with_begun e t)
peer-begun own own' peer peer' e f t mine yours room = record {
  senders = omega (arith, room.senders, mine);
  receivers = omega (arith, room.receivers, comes-more f e t, yours);
  numbers = omega (arith, room.numbers, comes-more f e t, yours);
}

-- ---- a block that is submitted

-- it is refused, and where there is a place and a number only for what it is; or a session begins
pub data Submitted (p : Party) (e : Engine) (r : Result EngineStep SubmitFault) : Type 0 where
  is_refused : (fault : SubmitFault) → r ≡ Err fault
      → (length e.senders < p.sessions → e.next < 2 ^ 32
      → (fault ≡ block_empty) ⊎ (fault ≡ block_too_large)) → Submitted p e r
  is_accepted : (t : StepValue Sending) (step : EngineStep) → r ≡ Ok step
      → step.engine ≡ with_begun e t → Submitted p e r

pub submitted-is : (p : Party) (e : Engine) (block : List ℕ) (red now : ℕ)
    → Submitted p e (submit_step p e (submits p e block red now))
unfolding submits
submitted-is p e block red now =
    by_tests (length block == 0) (nat_lt p.most (length block)) (nat_le (2 ^ 32) e.next) refl
    (nat_le p.sessions (length e.senders)) refl
  where
    below : (most n : ℕ) → nat_le most n ≡ true → n < most → ⊥
    below most n is low = grind (arith, nat_tests)

    by_tests : (empty large spent : Bool) → nat_le (2 ^ 32) e.next ≡ spent → (busy : Bool)
        → nat_le p.sessions (length e.senders) ≡ busy
        → Submitted p e (submit_step p e
        (submits_unless (if empty then Some block_empty else if large
        then Some block_too_large else if spent then Some numbers_spent else if busy
        then Some senders_busy else None) p e block red now))
    by_tests true large spent is_spent busy is_busy =
        is_refused block_empty refl (λ place number. inl refl)
    by_tests false true spent is_spent busy is_busy =
        is_refused block_too_large refl (λ place number. inr refl)
    by_tests false false true is_spent busy is_busy = is_refused numbers_spent refl
        (λ place number. absurd (below (2 ^ 32) e.next is_spent number))
    by_tests false false false is_spent true is_busy = is_refused senders_busy refl
        (λ place number. absurd (below p.sessions (length e.senders) is_busy place))
    by_tests false false false is_spent false is_busy = is_accepted
        (begin p.policy e.next block red now) _ refl refl
