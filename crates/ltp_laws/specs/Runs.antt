-- What one session's steps keep, and what a world keeps of all sessions.

use Rattle.std.specs.Prelude.{◌≡◌, ℕ, ◌≤◌, Bool, true, false, List, length, Option, None, Some}
use Rattle.std.specs.List.{AllByRecursion}
use Rattle.ltp_segment.specs.Policy.{PolicyValue}
use Rattle.ltp_segment.specs.Values.{ContentValue}
use Rattle.ltp_session.specs.Engine.{Party}
use Rattle.ltp_session.specs.Receiver.{Admission, Receiving, receiver_answers, receiver_tick}
use Rattle.ltp_session.specs.Sender.{Sending, begin, sender_answers, sender_tick}
use Rattle.ltp_session.specs.Step.{StepValue}
use Rattle.ltp_session.specs.Table.{AreAscending}
use Rattle.ltp_session.specs.World.{End, World, at_end}
use Rattle.ltp_laws.specs.Blocks.{BlockFacts, IsContentOf}
use Rattle.ltp_laws.specs.Checkpoints.{CheckpointFacts}
use Rattle.ltp_laws.specs.Claims.{ClaimFacts}
use Rattle.ltp_laws.specs.Kept.{IfKeeps}
use Rattle.ltp_laws.specs.Serials.{SerialFacts}
use Rattle.ltp_laws.specs.View.{IsIn, Unused, View, begins, evicted, receiver_moves, sender_moves}
use Rattle.ltp_laws.specs.View.{view}

-- a tick of the sender, and of the receiver, where one is kept
abbrev pub sender_after : (Sending → StepValue Sending) → Option Sending → View → View
sender_after tick None v = v
sender_after tick (Some s) v = sender_moves v (tick s)

abbrev pub receiver_after : (Receiving → StepValue Receiving) → Option Receiving → View → View
receiver_after tick None v = v
receiver_after tick (Some r) v = receiver_moves v (tick r)

-- ---- a predicate of sessions, each with its end and number

-- each step of a session keeps P, where policy and moment are allowed and begun blocks are so
pub record IsInvariant
    (Allowed : PolicyValue → ℕ → Type 0) (Begun : End → ℕ → List ℕ → ℕ → Type 0)
    (P : End → ℕ → View → Type 0)
    : Type 0 where
  pub begins :
      (o : End) (policy : PolicyValue) (n : ℕ) (block : List ℕ) (red now : ℕ) (v : View)
      → Allowed policy now → Begun o n block red → 1 ≤ policy.segment → red ≤ length block
      → v.used ≡ false → P o n v → P o n (begins v (begin policy n block red now))
  pub sender :
      (o : End) (n : ℕ) (policy : PolicyValue) (v : View) (content : ContentValue) (now : ℕ)
      (t : StepValue Sending)
      → Allowed policy now → IsIn content v.by_receiver
      → sender_answers policy v.sender content now ≡ Some t → P o n v → P o n (sender_moves v t)
  pub receiver :
      (o : End) (n : ℕ) (policy : PolicyValue) (admission : Admission) (v : View)
      (content : ContentValue) (now : ℕ) (t : StepValue Receiving)
      → Allowed policy now → admission.closed ≡ v.closed → IsIn content v.by_sender
      → receiver_answers policy admission v.receiver content now ≡ Some t
      → P o n v → P o n (receiver_moves v t)
  pub sender_tick :
      (o : End) (n : ℕ) (policy : PolicyValue) (now : ℕ) (v : View) (s : Sending)
      → Allowed policy now → v.sender ≡ Some s
      → P o n v → P o n (sender_moves v (sender_tick policy s now))
  pub receiver_tick :
      (o : End) (n : ℕ) (policy : PolicyValue) (now : ℕ) (v : View) (r : Receiving)
      → Allowed policy now → v.receiver ≡ Some r
      → P o n v → P o n (receiver_moves v (receiver_tick policy r now))
  pub evicted :
      (o : End) (n : ℕ) (v : View) (r : Receiving) → v.receiver ≡ Some r
      → P o n v → P o n (evicted v)

-- P holds of every session of a world, whose engines are well formed
pub record HoldsIn (P : End → ℕ → View → Type 0) (parties : Party × Party) (w : World)
    : Type 0 where
  pub session : (o : End) (n : ℕ) → P o n (view parties w o n)
  pub senders : (o : End) → AreAscending 0 (at_end w.engines o).senders
  pub receivers : (o : End) → AreAscending 0 (at_end w.engines o).receivers
  pub next : (o : End) → (at_end parties o).first ≤ (at_end w.engines o).next

-- ---- facts of a block and its red length

abbrev pub no_facts : List ℕ → ℕ → View → Type 0
no_facts block red v = Unit {0}

abbrev pub both_facts :
    (List ℕ → ℕ → View → Type 0) → (List ℕ → ℕ → View → Type 0) → List ℕ → ℕ → View → Type 0
both_facts F G block red v = F block red v × G block red v

-- a session that was begun has, for some block and red length, these facts
pub record Has (F : List ℕ → ℕ → View → Type 0) (v : View) : Type 0 where
  pub block : List ℕ
  pub red : ℕ
  pub facts : F block red v

abbrev pub SessionBy : (List ℕ → ℕ → View → Type 0) → Bool → View → Type 0
SessionBy F false v = Unused v
SessionBy F true v = Has F v

abbrev pub Session : (List ℕ → ℕ → View → Type 0) → View → Type 0
Session F v = SessionBy F v.used v

-- where the facts F hold before and after, each step keeps the facts G
pub record KeepsUnder (F G : List ℕ → ℕ → View → Type 0) : Type 0 where
  pub begins :
      (policy : PolicyValue) (n : ℕ) (block : List ℕ) (red now : ℕ) (v : View)
      → 1 ≤ policy.segment → red ≤ length block → Unused v
      → F block red (begins v (begin policy n block red now))
      → G block red (begins v (begin policy n block red now))
  pub sender :
      (block : List ℕ) (red : ℕ) (policy : PolicyValue) (v : View) (content : ContentValue)
      (now : ℕ) (t : StepValue Sending)
      → IsIn content v.by_receiver → sender_answers policy v.sender content now ≡ Some t
      → F block red v → F block red (sender_moves v t)
      → G block red v → G block red (sender_moves v t)
  pub receiver :
      (block : List ℕ) (red : ℕ) (policy : PolicyValue) (admission : Admission) (v : View)
      (content : ContentValue) (now : ℕ) (t : StepValue Receiving)
      → admission.closed ≡ v.closed → IsIn content v.by_sender
      → receiver_answers policy admission v.receiver content now ≡ Some t
      → F block red v → F block red (receiver_moves v t)
      → G block red v → G block red (receiver_moves v t)
  pub sender_tick :
      (block : List ℕ) (red : ℕ) (policy : PolicyValue) (now : ℕ) (v : View) (s : Sending)
      → v.sender ≡ Some s
      → F block red v → F block red (sender_moves v (sender_tick policy s now))
      → G block red v → G block red (sender_moves v (sender_tick policy s now))
  pub receiver_tick :
      (block : List ℕ) (red : ℕ) (policy : PolicyValue) (now : ℕ) (v : View) (r : Receiving)
      → v.receiver ≡ Some r
      → F block red v → F block red (receiver_moves v (receiver_tick policy r now))
      → G block red v → G block red (receiver_moves v (receiver_tick policy r now))
  pub evicted :
      (block : List ℕ) (red : ℕ) (v : View) (r : Receiving) → v.receiver ≡ Some r
      → F block red v → F block red (evicted v) → G block red v → G block red (evicted v)

-- what a step does keeps to the block
pub record KeepsTo (block : List ℕ) (red : ℕ) {S : Type 0} (P : S → Type 0) (t : StepValue S)
    : Type 0 where
  pub next : IfKeeps P t.next
  pub out : AllByRecursion (IsContentOf block red) t.out

-- ---- the layers in which facts hold one another

abbrev pub ReportedFacts : List ℕ → ℕ → View → Type 0
ReportedFacts = both_facts (both_facts BlockFacts SerialFacts) ClaimFacts

abbrev pub AskedFacts : List ℕ → ℕ → View → Type 0
AskedFacts = both_facts ReportedFacts CheckpointFacts
