-- What a run submits and hands up, in order.

use Rattle.std.specs.Prelude.{◌≡◌, ℕ, Bool, true, false, nat_le, List, [], ◌∷◌, ◌++◌, length, take}
use Rattle.std.specs.Prelude.{slice_get, Option, None, Some, if◌then◌else◌}
use Rattle.std.specs.List.{AllByRecursion}
use Rattle.ltp_session.specs.Engine.{Party, Reply}
use Rattle.ltp_session.specs.World.{End, Event, Sent, World, at_end, clock, deliver, happens}
use Rattle.ltp_session.specs.World.{other, submit, submit_reply}
use Rattle.ltp_laws.specs.HandUps.{up_by}
use Rattle.ltp_laws.specs.View.{IsIn, Unused, View, view}

-- ---- blocks that are submitted

-- a block that an end submitted, the length of its red part, and the number of its session
pub record Submission : Type 0 where
  pub from : End
  pub session : ℕ
  pub block : List ℕ
  pub red : ℕ

-- a submit that isn't refused takes the engine's next number
abbrev pub submission_of : End → ℕ → List ℕ → ℕ → Option Reply → List Submission
submission_of end next block red None = []
submission_of end next block red (Some reply) =
    record { from = end; session = next; block = block; red = red } ∷ []

-- what an event submits
abbrev pub submissions_at : Party × Party → World → Event → List Submission
submissions_at parties w (submit end block red) =
    if nat_le red (length block)
    then
    submission_of end (at_end w.engines end).next block red (submit_reply parties w end block red)
    else []
submissions_at parties w (deliver k) = []
submissions_at parties w (clock now) = []

-- what a run submits
unfoldable pub submissions : Party × Party → World → List Event → List Submission
submissions parties w [] = []
submissions parties w (event ∷ events) =
    submissions_at parties w event ++ submissions parties (happens parties w event) events

-- ---- red parts that are handed up

-- a red part that an end handed up, and the session that it is of
pub record HandUp : Type 0 where
  pub end : End
  pub originator : ℕ
  pub session : ℕ
  pub body : List ℕ

abbrev pub hand_up_of : Sent → Option (List ℕ) → List HandUp
hand_up_of d None = []
hand_up_of d (Some body) = record {
  end = other d.from;
  originator = d.segment.originator;
  session = d.segment.session;
  body = body;
} ∷ []

abbrev pub hand_ups_by : Party × Party → World → Option Sent → List HandUp
hand_ups_by parties w None = []
hand_ups_by parties w (Some d) = hand_up_of d (up_by parties w d)

-- what an event hands up
abbrev pub hand_ups_at : Party × Party → World → Event → List HandUp
hand_ups_at parties w (submit end block red) = []
hand_ups_at parties w (deliver k) = hand_ups_by parties w (slice_get w.sent k)
hand_ups_at parties w (clock now) = []

-- what a run hands up
unfoldable pub hand_ups : Party × Party → World → List Event → List HandUp
hand_ups parties w [] = []
hand_ups parties w (event ∷ events) =
    hand_ups_at parties w event ++ hand_ups parties (happens parties w event) events

-- ---- what holds of them

-- one end handed up both, of one session
pub record IsSame (a b : HandUp) : Type 0 where
  pub end : a.end ≡ b.end
  pub originator : a.originator ≡ b.originator
  pub session : a.session ≡ b.session

-- no end hands two red parts of one session up
abbrev pub AtMostOnce : List HandUp → Type 0
AtMostOnce [] = Unit {0}
AtMostOnce (u ∷ us) = AllByRecursion (λ v. IsSame u v → ⊥) us × AtMostOnce us

-- a red part is the front of the block that its originator submitted, up to the red length
pub record IsFront (parties : Party × Party) (submitted : List Submission) (u : HandUp)
    : Type 0 where
  pub submission : Submission
  pub among : IsIn submission submitted
  pub from : u.end ≡ other submission.from
  pub originator : u.originator ≡ (at_end parties submission.from).own
  pub session : u.session ≡ submission.session
  pub front : u.body ≡ take submission.red submission.block

-- two blocks have one end's session
pub record IsSameNumber (p q : Submission) : Type 0 where
  pub from : p.from ≡ q.from
  pub session : p.session ≡ q.session

-- no number is given twice, so that a session has one block
abbrev pub EachOnce : List Submission → Type 0
EachOnce [] = Unit {0}
EachOnce (p ∷ ps) = AllByRecursion (λ q. IsSameNumber p q → ⊥) ps × EachOnce ps

-- each red part that is handed up is the front of its block, and none is handed up twice
pub record HandsUpFronts
    (parties : Party × Party) (submitted : List Submission) (handed : List HandUp)
    : Type 0 where
  pub numbers : EachOnce submitted
  pub fronts : AllByRecursion (IsFront parties submitted) handed
  pub once : AtMostOnce handed

-- ---- facts of the blocks that were submitted

-- session n of an end was begun with one of these blocks, and has the facts F of its block and
-- red length
pub record IsSubmitted
    (F : List ℕ → ℕ → View → Type 0) (all : List Submission) (o : End) (n : ℕ) (v : View)
    : Type 0 where
  pub submission : Submission
  pub among : IsIn submission all
  pub from : submission.from ≡ o
  pub session : submission.session ≡ n
  pub facts : F submission.block submission.red v

abbrev pub HasFactsBy :
    (List ℕ → ℕ → View → Type 0) → List Submission → End → ℕ → Bool → View → Type 0
HasFactsBy F all o n false v = Unused v
HasFactsBy F all o n true v = IsSubmitted F all o n v

-- it was begun so, or nothing was done in it
abbrev pub HasFacts : (List ℕ → ℕ → View → Type 0) → List Submission → End → ℕ → View → Type 0
HasFacts F all o n v = HasFactsBy F all o n v.used v

-- ---- sessions of segments

-- a segment is of a session that was begun at one of the ends
pub record HasSession (parties : Party × Party) (w : World) (d : Sent) : Type 0 where
  pub of : End
  pub originator : d.segment.originator ≡ (at_end parties of).own
  pub used : (view parties w of d.segment.session).used ≡ true
