-- The moments of a face don't fall in a run.

use Rattle.std.proofs.Common.{◌≡◌, ℕ, ◌≤◌, Bool, List, [], ◌∷◌, Option, None, Some, refl, sym, subst, arith}
use Rattle.std.specs.List.{AllByRecursion}
use Rattle.gate_cases.specs.declared.face.Face.{Face}
use Rattle.gate_cases.specs.declared.face.Face.TheVariants.{Old, New}
use Rattle.gate_cases.specs.Faces.{other_of}
use Rattle.gateway_core.specs.Gate.{if_same, at_face}
use Rattle.outbox.specs.declared.reading.Reading.{Reading}
use Rattle.outbox.specs.FaceTime.{FaceMoment, gone_on}
use Rattle.gate_face.specs.Faces.{FaceStanding}
use Rattle.peer_sessions.specs.Runs as faces
use Rattle.peer_once.specs.Runs.{TimedEvent, AreInOrder}
use Rattle.peer_gateway.specs.Gate.{BegunAt, PeerMoments}
use Rattle.peer_gateway.specs.Steps.{PeerEvent, a_datagram, a_kept_piece, a_tick}
use Rattle.peer_half.specs.Moments.{moments_at}
use Rattle.peer_half.specs.Standing.{Standing, face_of}
use Rattle.peer_half.specs.Half.{Came, half}
use Rattle.peer_half.specs.Runs.{EventIn, after_events, after_halves, begins_at, events_in}
use Rattle.peer_run_laws.specs.Faces.{TimeIsOfHalf, moments_in}
use Rattle.peer_session_laws.specs.Events.{Beginning, events_at, heard_first, step_with, with_begun}
use Rattle.peer_session_laws.specs.Runs.{beginning_of}
use Rattle.peer_session_laws.specs.Once.{MomentsInOrder}

-- ---- events at one moment

-- they don't fall, and none is after this moment
record IsTill (now : ℕ) (events : List TimedEvent) : Type 0 where
  order : AreInOrder events
  till : AllByRecursion (λ (e : TimedEvent). e.0 ≤ now) events

till-one : (now : ℕ) (event : faces.SessionsEvent) (events : List TimedEvent) → IsTill now events → IsTill now ((now, event) ∷ events)
till-one now event events so = record { order = (so.till, so.order); till = (omega arith, so.till) }

till-same : (face at : Face) (now : ℕ) (event : faces.SessionsEvent) (events : List TimedEvent) → IsTill now events
    → IsTill now (if_same face at ((now, event) ∷ events) events)
till-same Old Old now event events so = till-one now event events so
till-same Old New now event events so = so
till-same New Old now event events so = so
till-same New New now event events so = till-one now event events so

till-begun : (at : Face) (now : ℕ) (begun : List BegunAt) (events : List TimedEvent) → IsTill now events → IsTill now (with_begun at now begun events)
unfolding with_begun
till-begun at now [] events so = so
till-begun at now (b ∷ more) events so =
    till-begun at now more (if_same b.face at ((now, faces.a_block b.block) ∷ events) events) (till-same b.face at now (faces.a_block b.block) events so)

till-heard : (at : Face) (event : PeerEvent) (now : ℕ) (events : List TimedEvent) → IsTill now events → IsTill now (heard_first at event now events)
till-heard at (a_datagram face read) now events so = till-same face at now (faces.a_datagram read) events so
till-heard at a_tick now events so = till-one now faces.a_tick events so
till-heard at (a_kept_piece face octets came) now events so = so

-- ---- the events of a half

till-events : (b : Beginning) (at : Face) (m : PeerMoments) (new earlier : List EventIn) → AllByRecursion (λ (event : EventIn). event.1.0 ≡ m) new
    → IsTill (m.at at) (events_at b at earlier) → IsTill (m.at at) (events_at b at (after_events new earlier))
unfolding events_at
till-events b at m [] earlier all so = so
till-events b at m (event ∷ more) earlier all so = till-events b at m more (event ∷ earlier) all.1 one where
  one : IsTill (m.at at) (events_at b at (event ∷ earlier))
  one = subst (λ (x : PeerMoments). IsTill (m.at at) (with_begun at (x.at at) (step_with b event earlier).effects.begun (heard_first at event.0 (x.at at) (events_at b at earlier)))) (sym all.0)
      (till-begun at (m.at at) (step_with b event earlier).effects.begun (heard_first at event.0 (m.at at) (events_at b at earlier))
      (till-heard at event.0 (m.at at) (events_at b at earlier) so))

-- by the face's time: before the first reading nothing happened
abbrev IsBy : Option FaceMoment → List TimedEvent → Type 0
IsBy None events = events ≡ []
IsBy (Some before) events = IsTill before.moment events

goes-on : (moment time : ℕ) → moment ≤ gone_on moment time
goes-on moment time = omega arith

moments-up : (now : Reading) (both : FaceStanding × FaceStanding) (at : Face) (before : FaceMoment) → (at_face both at).time ≡ Some before
    → before.moment ≤ (moments_at now both).at at
moments-up now both Old before is = rw is (goes-on before.moment _)
moments-up now both New before is = rw is (goes-on before.moment _)

later-all : (low high : ℕ) (events : List TimedEvent) → low ≤ high → AllByRecursion (λ (e : TimedEvent). e.0 ≤ low) events → AllByRecursion (λ (e : TimedEvent). e.0 ≤ high) events
later-all low high [] most all = tt
later-all low high (e ∷ events) most all = (omega (arith, most, all.0), later-all low high events most all.1)

till-half : (at : Face) (came : Came) (s : Standing) (events : List TimedEvent) → IsBy (face_of at s).time events → IsTill ((moments_in came s).at at) events
till-half at came s events so = by (face_of at s).time refl so where
  by : (time : Option FaceMoment) → (face_of at s).time ≡ time → IsBy time events → IsTill ((moments_in came s).at at) events
  by None is none = subst (IsTill ((moments_in came s).at at)) (sym none) (record { order = tt; till = tt })
  by (Some before) is so = record { order = so.order; till = later-all before.moment ((moments_in came s).at at) events (moments-up came.reading s.faces at before is) so.till }

halves-by : TimeIsOfHalf → (b : Beginning) (at : Face) (board : Bool) (face : Face) (comes : List Came) (s : Standing) (earlier : List EventIn)
    → IsBy (face_of at s).time (events_at b at earlier) → AreInOrder (events_at b at (after_halves board face comes s earlier))
unfolding after_halves
halves-by law b at board face [] s earlier so = by (face_of at s).time so where
  by : (time : Option FaceMoment) → IsBy time (events_at b at earlier) → AreInOrder (events_at b at earlier)
  by None none = subst AreInOrder (sym none) tt
  by (Some before) so = so.order
halves-by law b at board face (came ∷ more) s earlier so =
    let is = law board face came s at in
    halves-by law b at board (other_of face) more (half board face came s).standing (after_events (events_in face came s) earlier)
    (subst (λ (time : Option FaceMoment). IsBy time (events_at b at (after_events (events_in face came s) earlier))) (sym is.time)
    (till-events b at (moments_in came s) (events_in face came s) earlier is.events (till-half at came s (events_at b at earlier) so)))

pub moments-in-order : TimeIsOfHalf → MomentsInOrder
unfolding events_at
moments-in-order law r at =
    halves-by law (beginning_of r) at r.board Old r.comes (begins_at r) [] (by (face_of at (begins_at r)).time)
  where
    by : (time : Option FaceMoment) → IsBy time (events_at (beginning_of r) at [])
    by None = refl
    by (Some before) = record { order = tt; till = tt }
