-- A session of the peer that is kept: after each part of a step it is kept, or its number is in the memory.

use Rattle.std.proofs.Common.{◌≡◌, ◌≢◌, ℕ, ◌==◌, ◌||◌, Bool, true, false, if◌then◌else◌, List, [], ◌∷◌, ◌++◌, Option, Some, None, is_some, Ok, ◌⊎◌, inl, inr, refl, sym, ◌∙◌, ap, subst, arith, eqb-true}
use Rattle.std.proofs.lemmas.Bool.Decides.{nat_tests}
use Rattle.ltp_segment.specs.Values.{SegmentValue}
use Rattle.ltp_session.specs.Step.{Change, stays, keeps, ends, StepValue}
use Rattle.ltp_session.specs.Receiver.{Receiving}
use Rattle.ltp_session.specs.Sender.{Sending}
use Rattle.ltp_session.specs.Table.{find, put, without, then_kept, ticked, then_ended, ended}
use Rattle.ltp_session.specs.Engine.{Party, Engine, Reply, EngineStep, is_closed, is_used, with_receiver, without_evicted, to_sender, sender_replies, replied_or_stranger, tick_step, receiver_changes}
use Rattle.ltp_laws.proofs.TableLemmas.{find-put, find-put_other, find-without_other}
use Rattle.session_memory.specs.Memory.{Memory, closed}
use Rattle.peer_sessions.specs.Keys.{FaceKeys}
use Rattle.peer_sessions.specs.Sessions.{Sessions, with_closed, left_by, closes, peer_replies, answer_to, replies, answers}
use Rattle.peer_once.proofs.MemoryLemmas.{IsLong, Keeps, keeps-same, keeps-then, keeps-with_closed}

-- ---- the engine

-- it is kept, or the engine closed its number
abbrev pub IsHeld : ℕ → Engine → Type 0
IsHeld n e = (is_some (find n e.receivers) ≡ true) ⊎ (is_closed n e.closed ≡ true)

pub apart-of : (m n : ℕ) → (m == n) ≡ false → n ≢ m
apart-of m n is same = absurd (grind (arith, nat_tests))

is-here : (m n : ℕ) (numbers : List ℕ) → (m == n) ≡ true → ((m == n) || is_closed n numbers) ≡ true
is-here m n numbers is = rw is refl

is-later : (m n : ℕ) (numbers : List ℕ) → is_closed n numbers ≡ true → ((m == n) || is_closed n numbers) ≡ true
is-later m n numbers there = by (m == n) where
  by : (b : Bool) → (b || is_closed n numbers) ≡ true
  by true = refl
  by false = there

pub held-change : (n m : ℕ) (e : Engine) (change : Change Receiving) → IsHeld n e → IsHeld n (with_receiver e m change)
unfolding with_receiver
held-change n m e stays held = held
held-change n m e (keeps r) (inr gone) = inr gone
held-change n m e (keeps r) (inl kept) = inl (by (m == n) refl) where
  by : (same : Bool) → (m == n) ≡ same → is_some (find n (put m r e.receivers)) ≡ true
  by true is = ap (λ x. is_some x) (subst (λ j. find j (put m r e.receivers) ≡ Some r) (eqb-true m n is) (find-put m r e.receivers))
  by false is = ap (λ x. is_some x) (find-put_other n m r e.receivers (apart-of m n is)) ∙ kept
held-change n m e ends (inr gone) = inr (is-later m n e.closed gone)
held-change n m e ends (inl kept) = by (m == n) refl where
  by : (same : Bool) → (m == n) ≡ same → (is_some (find n (without m e.receivers)) ≡ true) ⊎ (((m == n) || is_closed n e.closed) ≡ true)
  by true is = inr (is-here m n e.closed is)
  by false is = inl (ap (λ x. is_some x) (find-without_other n m e.receivers (apart-of m n is)) ∙ kept)

pub held-evicted : (n : ℕ) (e : Engine) (gone : Option ℕ) → IsHeld n e → IsHeld n (without_evicted e gone)
held-evicted n e None held = held
held-evicted n e (Some g) held = held-change n g e ends held

pub held-answers : (k : FaceKeys) (s : Sessions) (segment : SegmentValue) (now n : ℕ) → IsHeld n s.engine → IsHeld n (answers k s (Ok segment) now).engine
unfolding replies
held-answers k s segment now n held = by (segment.originator == (k.party).own) (segment.originator == (k.party).peer) where
  step : Option Reply → EngineStep
  step reply = replied_or_stranger s.engine (record { originator = segment.originator; number = segment.session }) reply

  own : (used : Bool) (answer : Option (StepValue Sending)) → IsHeld n (step (if used then sender_replies s.engine segment.session answer else None)).engine
  own false answer = held
  own true None = held
  own true (Some told) = held

  peer : (answer : Option (StepValue Receiving)) → IsHeld n (step (peer_replies k s.engine segment.session answer)).engine
  peer None = held
  peer (Some told) = held-change n segment.session (without_evicted s.engine _) told.next (held-evicted n s.engine _ held)

  by : (is_own is_peer : Bool) → IsHeld n (step (if is_own then (if is_used k.party s.engine segment.session then to_sender k.party s.engine segment now else None) else if is_peer then peer_replies k s.engine segment.session (answer_to k s segment now) else None)).engine
  by true is_peer = own (is_used k.party s.engine segment.session) _
  by false true = peer (answer_to k s segment now)
  by false false = held

ticked-held : (change : Receiving → Change Receiving) (n : ℕ) (es : List (ℕ × Receiving)) → is_some (find n es) ≡ true
    → (is_some (find n (ticked change es)) ≡ true) ⊎ (is_closed n (ended change es) ≡ true)
unfolding find ticked ended
ticked-held change n [] kept = absurd (cc)
ticked-held change n (e ∷ es) kept = by (change e.1) (e.0 == n) refl kept (λ rest. ticked-held change n es rest) where
  Then : Change Receiving → Type 0
  Then c = (is_some (find n (then_kept e c (ticked change es))) ≡ true) ⊎ (is_closed n (then_ended e.0 c (ended change es)) ≡ true)

  found : (x : ℕ × Receiving) (rest : List (ℕ × Receiving)) (same : Bool) → (x.0 == n) ≡ same → is_some (if same then Some x.1 else find n rest) ≡ true → is_some (find n (x ∷ rest)) ≡ true
  found x rest same is kept = rw is kept

  by : (c : Change Receiving) (same : Bool) → (e.0 == n) ≡ same → is_some (if same then Some e.1 else find n es) ≡ true
      → (is_some (find n es) ≡ true → (is_some (find n (ticked change es)) ≡ true) ⊎ (is_closed n (ended change es) ≡ true)) → Then c
  by stays true is kept rest = inl (found e (ticked change es) true is refl)
  by (keeps r) true is kept rest = inl (found (e.0, r) (ticked change es) true is refl)
  by ends true is kept rest = inr (is-here e.0 n (ended change es) is)
  by stays false is kept rest = elim (rest kept) [
    | inl there ↦ inl (found e (ticked change es) false is there)
    | inr gone ↦ inr gone
  ]
  by (keeps r) false is kept rest = elim (rest kept) [
    | inl there ↦ inl (found (e.0, r) (ticked change es) false is there)
    | inr gone ↦ inr gone
  ]
  by ends false is kept rest = elim (rest kept) [
    | inl there ↦ inl there
    | inr gone ↦ inr (is-later e.0 n (ended change es) gone)
  ]

among-either : (n : ℕ) (xs ys : List ℕ) → (is_closed n xs ≡ true) ⊎ (is_closed n ys ≡ true) → is_closed n (xs ++ ys) ≡ true
among-either n [] ys (inl there) = absurd (cc)
among-either n [] ys (inr there) = there
among-either n (x ∷ xs) ys either = by (x == n) either (λ rest. among-either n xs ys rest) where
  by : (b : Bool) → ((b || is_closed n xs) ≡ true) ⊎ (is_closed n ys ≡ true) → ((is_closed n xs ≡ true) ⊎ (is_closed n ys ≡ true) → is_closed n (xs ++ ys) ≡ true) → (b || is_closed n (xs ++ ys)) ≡ true
  by true either further = refl
  by false either further = further either

pub held-tick : (p : Party) (e : Engine) (now n : ℕ) → IsHeld n e → IsHeld n (tick_step p e now).engine
unfolding tick_step
held-tick p e now n (inr gone) = inr (among-either n (ended (receiver_changes p now) e.receivers) e.closed (inr gone))
held-tick p e now n (inl kept) = elim (ticked-held (receiver_changes p now) n e.receivers kept) [
  | inl there ↦ inl there
  | inr gone ↦ inr (among-either n (ended (receiver_changes p now) e.receivers) e.closed (inl gone))
]

-- ---- the memory

-- it is kept, or the memory is such
abbrev pub KeptOr : (Memory → Type 0) → ℕ → Sessions → Type 0
KeptOr Is n s = (is_some (find n (s.engine).receivers) ≡ true) ⊎ Is s.memory

-- a memory that is such stays such where numbers are closed, and is such once this one is
pub record Grows (Is : Memory → Type 0) (n : ℕ) : Type 0 where
  pub more : (k : ℕ) (m : Memory) → Is m → Is (closed k m)
  pub new : (m : Memory) → IsLong m.newer → Is (closed n m)

pub more-closed : (Is : Memory → Type 0) (n : ℕ) → Grows Is n → (numbers : List ℕ) (m : Memory) → Is m → Is (with_closed numbers m)
unfolding with_closed
more-closed Is n grows [] m is = is
more-closed Is n grows (k ∷ numbers) m is = grows.more k (with_closed numbers m) (more-closed Is n grows numbers m is)

new-closed : (Is : Memory → Type 0) (n : ℕ) → Grows Is n → (numbers : List ℕ) (m : Memory) → IsLong m.newer → is_closed n numbers ≡ true → Is (with_closed numbers m)
unfolding with_closed
new-closed Is n grows [] m long there = absurd (cc)
new-closed Is n grows (k ∷ numbers) m long there = by (k == n) refl there (λ rest. new-closed Is n grows numbers m long rest) where
  by : (same : Bool) → (k == n) ≡ same → (same || is_closed n numbers) ≡ true → (is_closed n numbers ≡ true → Is (with_closed numbers m)) → Is (closed k (with_closed numbers m))
  by true is there rest = subst (λ j. Is (closed j (with_closed numbers m))) (sym (eqb-true k n is)) (grows.new (with_closed numbers m) ((keeps-with_closed numbers m).long long))
  by false is there rest = grows.more k (with_closed numbers m) (rest there)

-- what an engine leaves
pub left-held : (Is : Memory → Type 0) (n : ℕ) → Grows Is n → (e : Engine) (m : Memory) (moments : List (ℕ × ℕ)) → IsLong m.newer → IsHeld n e → KeptOr Is n (left_by e m moments)
left-held Is n grows e m moments long (inl kept) = inl kept
left-held Is n grows e m moments long (inr gone) = inr (new-closed Is n grows e.closed m long gone)

pub left-such : (Is : Memory → Type 0) (n : ℕ) → Grows Is n → (e : Engine) (m : Memory) (moments : List (ℕ × ℕ)) → Is m → KeptOr Is n (left_by e m moments)
left-such Is n grows e m moments is = inr (more-closed Is n grows e.closed m is)

pub closes-kept : (Is : Memory → Type 0) (n : ℕ) → Grows Is n → (numbers : List ℕ) (s : Sessions) → IsLong (s.memory).newer → KeptOr Is n s → KeptOr Is n (closes numbers s)
unfolding closes
closes-kept Is n grows [] s long either = either
closes-kept Is n grows (k ∷ numbers) s long either =
    closes-kept Is n grows numbers (left_by (with_receiver s.engine k ends) s.memory s.moments) ((keeps-with_closed (with_receiver s.engine k ends).closed s.memory).long long) (by either) where
      by : KeptOr Is n s → KeptOr Is n (left_by (with_receiver s.engine k ends) s.memory s.moments)
      by (inl kept) = left-held Is n grows (with_receiver s.engine k ends) s.memory s.moments long (held-change n k s.engine ends (inl kept))
      by (inr is) = left-such Is n grows (with_receiver s.engine k ends) s.memory s.moments is

pub keeps-closes : (numbers : List ℕ) (s : Sessions) → Keeps s.memory (closes numbers s).memory
unfolding closes
keeps-closes [] s = keeps-same s.memory
keeps-closes (k ∷ numbers) s =
    keeps-then s.memory (left_by (with_receiver s.engine k ends) s.memory s.moments).memory (closes numbers (left_by (with_receiver s.engine k ends) s.memory s.moments)).memory
    (keeps-with_closed (with_receiver s.engine k ends).closed s.memory) (keeps-closes numbers (left_by (with_receiver s.engine k ends) s.memory s.moments))
