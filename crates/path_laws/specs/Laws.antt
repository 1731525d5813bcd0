-- The laws of a path, over every list of sends, deliveries and clocks.

use Rattle.std.specs.Prelude.{◌≡◌, ℕ, ◌+◌, List, [], ◌∷◌, ◌++◌, map, None, Some, slice_get, ◌⊎◌}
use Rattle.std.specs.List.{AllByRecursion}
use Rattle.ltp_session.specs.World.{ArePeers, clock, run, starts_world}
use Rattle.ltp_laws.specs.View.{IsIn}
use Rattle.translate.specs.Refusals.{first_that_holds}
use Rattle.gate_cases.specs.declared.case.Room.{Room}
use Rattle.gate_cases.specs.declared.face.Face.{Face}
use Rattle.gate_cases.specs.declared.report.AskedReport.{AskedReport}
use Rattle.gate_cases.specs.Faces.{other_of, octets_at}
use Rattle.gate_cases.specs.Blocks.{Arrival, one, found_at}
use Rattle.gate_cases.specs.Passage.{passage, pieces_on}
use Rattle.gate_cases.specs.Cases.{judged}
use Rattle.gate_cases.specs.Bundles.{status_bundle}
use Rattle.path_laws.specs.declared.effects.UpAt.{UpAt}
use Rattle.path_laws.specs.declared.places.PathEnd.{PathEnd}
use Rattle.path_laws.specs.declared.places.PathEnd.TheVariants as ends
use Rattle.path_laws.specs.declared.places.Place.{Place}
use Rattle.path_laws.specs.Places.{face_of, face_place, node_place, across, other_path_end}
use Rattle.path_laws.specs.Path.{PathSetup, PathEvent, at_path_end, starts_path, path_run}
use Rattle.path_laws.specs.Log.{Begun, Origin, a_send, a_piece, a_report, begun_in, ups_in}
use Rattle.path_laws.specs.Links.{link_parties, link_at, link_events}

-- ---- the links

-- after every run each link is where two engines on a link are, whose clock is set, after what
-- happened on it
abbrev pub LinksRun : Type 0
LinksRun =
    (s : PathSetup) (start : ℕ) (events : List PathEvent) (face : Face)
    → link_at face (path_run s (starts_path s start) events)
    ≡ run (link_parties s face) (starts_world (link_parties s face))
    (clock start ∷ link_events face s (starts_path s start) events)

-- on each link two engines name each other
pub record IsLinked (s : PathSetup) : Type 0 where
  pub each : (face : Face) → ArePeers (link_parties s face)

-- ---- what is handed up was sent, whole and once

-- it is the whole block of the session that was begun across the link under its number
pub record IsAsSent (begun : List Begun) (u : UpAt) : Type 0 where
  pub session : Begun
  pub among : IsIn session begun
  pub place : session.place ≡ across u.place
  pub number : session.session ≡ u.session
  pub whole : session.block ≡ u.body

-- both came at one place in one session
pub record IsSameUp (u v : UpAt) : Type 0 where
  pub place : u.place ≡ v.place
  pub session : u.session ≡ v.session

-- no two of a list, at different places in it, are related so
abbrev pub NoTwo : {X : Type 0} → (X → X → Type 0) → List X → Type 0
NoTwo R [] = Unit {0}
NoTwo R (x ∷ xs) = AllByRecursion (λ y. R x y → ⊥) xs × NoTwo R xs

-- both were begun at one place under one number
pub record IsSameNumber (b c : Begun) : Type 0 where
  pub place : b.place ≡ c.place
  pub session : b.session ≡ c.session

-- ---- where a session's block comes from

-- an end sent this bundle, as its n-th that wasn't refused
pub record IsSent (begun : List Begun) (end : PathEnd) (n : ℕ) (bundle : List ℕ) : Type 0 where
  pub send : Begun
  pub among : IsIn send begun
  pub place : send.place ≡ node_place end
  pub number : send.session ≡ n
  pub block : send.block ≡ bundle

-- The i-th piece of what becomes of an end's n-th send: the bundle is exactly one of the end's
-- version, which isn't refused; the record that it reads as makes its hop and is cut; and the piece
-- is spelled in the other end's version.
pub record IsPieceOf
    (s : PathSetup) (begun : List Begun) (end : PathEnd) (n i : ℕ) (body : List ℕ) : Type 0 where
  pub bundle : List ℕ
  pub sent : IsSent begun end n bundle
  pub arrival : Arrival
  pub reads : found_at (face_of end) bundle ≡ one arrival
  pub translated : first_that_holds arrival.refusals ≡ None
  pub piece :
      slice_get
      (map (octets_at (other_of (face_of end))) (pieces_on (passage arrival.full) s.gate.cut)) i
      ≡ Some body

-- A report on an end's n-th send, which came whole to the gate: the report that is asked for where
-- this bundle comes at some moment to a gate with some room at its other face, spelled with that
-- moment and some number. They are the clock, the room and the counter of the gate as the event
-- comes that hands the bundle up; but what was begun and handed up doesn't tell them, so it isn't
-- said here. `IsReportAt` of `path_drain` says it of each event that begins a report.
pub record IsReportOn
    (s : PathSetup) (begun : List Begun) (ups : List UpAt) (end : PathEnd) (n : ℕ)
    (body : List ℕ) : Type 0 where
  pub bundle : List ℕ
  pub sent : IsSent begun end n bundle
  pub came :
      IsIn (record { place = face_place (face_of end); session = n; body = bundle }) ups
  pub moment : ℕ
  pub room : Room
  pub asked : AskedReport
  pub asks : (judged (face_of end) bundle moment s.gate.cut room).report ≡ Some asked
  pub number : ℕ
  pub spelled : body ≡ status_bundle s.gate.gate number moment asked

-- what it is that stands in a session of this origin, and where that is begun
abbrev pub ComesFrom :
    PathSetup → List Begun → List UpAt → Origin → Place → List ℕ → Type 0
ComesFrom s begun ups (a_send end n) place block = place ≡ node_place end
ComesFrom s begun ups (a_piece end n i) place block =
    (place ≡ face_place (other_of (face_of end))) × IsPieceOf s begun end n i block
ComesFrom s begun ups (a_report end n) place block =
    (place ≡ face_place (face_of end)) × IsReportOn s begun ups end n block

-- both come from one
abbrev pub IsSameOrigin : Begun → Begun → Type 0
IsSameOrigin b c = b.origin ≡ c.origin

-- the number of a send of an end, where an origin is one
abbrev pub send_of : PathEnd → Origin → List ℕ
send_of ends.Old (a_send ends.Old n) = n ∷ []
send_of ends.New (a_send ends.New n) = n ∷ []
send_of ends.Old (a_send ends.New n) = []
send_of ends.New (a_send ends.Old n) = []
send_of end (a_piece from n i) = []
send_of end (a_report from n) = []

-- the numbers of an end's sends that weren't refused, in order
unfoldable pub sends_of : PathEnd → List Begun → List ℕ
sends_of end [] = []
sends_of end (b ∷ begun) = send_of end b.origin ++ sends_of end begun

-- each number is one more than that before it
abbrev pub CountFrom : ℕ → List ℕ → Type 0
CountFrom first [] = Unit {0}
CountFrom first (n ∷ numbers) = (n ≡ first) × CountFrom (first + 1) numbers

-- ---- what an end receives

-- it is the block of a session that was begun at the face across the link; and this is a piece of
-- what becomes of one bundle that the other end sent, or a report on one bundle that this end sent
pub record IsReceived
    (s : PathSetup) (begun : List Begun) (ups : List UpAt) (end : PathEnd) (u : UpAt) : Type 0
  where
    pub session : Begun
    pub among : IsIn session begun
    pub place : session.place ≡ face_place (face_of end)
    pub number : session.session ≡ u.session
    pub block : session.block ≡ u.body
    pub is_one :
        ((n : ℕ) × (i : ℕ) × (session.origin ≡ a_piece (other_path_end end) n i)
        × IsPieceOf s begun (other_path_end end) n i u.body)
        ⊎ ((n : ℕ) × (session.origin ≡ a_report end n)
        × IsReportOn s begun ups end n u.body)

abbrev pub IsReceivedAt : PathSetup → List Begun → List UpAt → UpAt → Type 0
IsReceivedAt s begun ups u =
    (end : PathEnd) → u.place ≡ node_place end → IsReceived s begun ups end u

-- Two blocks that came to one end have the numbers of two sessions of one origin. Where these were
-- begun isn't said, so that `different`, by which no two blocks are so, says the more: it covers the
-- sessions across the link, in which the blocks came.
pub record ShareOrigin (begun : List Begun) (u v : UpAt) : Type 0 where
  pub end : PathEnd
  pub first_place : u.place ≡ node_place end
  pub second_place : v.place ≡ node_place end
  pub first : Begun
  pub first_among : IsIn first begun
  pub first_number : first.session ≡ u.session
  pub second : Begun
  pub second_among : IsIn second begun
  pub second_number : second.session ≡ v.session
  pub same : first.origin ≡ second.origin

-- all of it, of what was begun and handed up
pub record HandsOn (s : PathSetup) (begun : List Begun) (ups : List UpAt) : Type 0 where
  pub as_sent : AllByRecursion (IsAsSent begun) ups
  pub once : NoTwo IsSameUp ups
  pub received : AllByRecursion (IsReceivedAt s begun ups) ups
  pub numbers : NoTwo IsSameNumber begun
  pub origins : NoTwo IsSameOrigin begun
  pub different : NoTwo (ShareOrigin begun) ups
  pub sends :
      (end : PathEnd) → CountFrom (at_path_end s.nodes end).first (sends_of end begun)

-- Over every list of sends, deliveries, losses, repeats and clocks: each block is handed up whole,
-- once in its session, and as it was sent; so that what either end receives is a piece of what
-- becomes of one bundle that the other end sent, or a report on one that it sent itself. No number
-- is given twice at a place, and the n-th send of an end, of those that aren't refused, has the n-th
-- number. No two sessions have one origin, so that different blocks at one end have different ones.
abbrev pub ReceivedAsSent : Type 0
ReceivedAsSent =
    (s : PathSetup) (start : ℕ) (events : List PathEvent) → IsLinked s
    → HandsOn s (begun_in s (starts_path s start) events)
    (ups_in s (starts_path s start) events)
