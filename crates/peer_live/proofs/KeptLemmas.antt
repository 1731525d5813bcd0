-- What a part of a half does to a run, it does to what is kept of it.

use Rattle.std.proofs.Common.{◌≡◌, ℕ, Bool, List, [], ◌∷◌, ◌++◌, flat_map, Option, None, Some, refl, ap, sym, ◌∙◌}
use Rattle.std.proofs.lemmas.Grind.{flat_map-append}
use Rattle.std.proofs.lemmas.List.{append-nil}
use Rattle.gate_cases.specs.declared.face.Face.{Face}
use Rattle.gate_cases.specs.declared.face.Face.TheVariants as faces
use Rattle.gate_log.specs.declared.event.Event.{Event}
use Rattle.gate_log.specs.declared.event.Event.TheVariants as events
use Rattle.gate_log.specs.declared.event.LinkEvent.{LinkEvent}
use Rattle.gate_log.specs.Lines.{line_of}
use Rattle.outbox.specs.declared.reading.Reading.{Reading}
use Rattle.gate_events.specs.Own.{OpenAt}
use Rattle.gate_events.specs.Counts.{event_counted}
use Rattle.gate_events.specs.Log.{after_saying_all}
use Rattle.gate_face.specs.Contacts.{told_at}
use Rattle.gate_face.specs.Halves.{full_event, lost_event}
use Rattle.peer_events.specs.Counts.{begun_counted}
use Rattle.peer_events.specs.Events.{events_of, own_after_step}
use Rattle.peer_gateway.specs.Answers.{Answered}
use Rattle.peer_gateway.specs.Gate.{PeerGate, PeerMoments}
use Rattle.peer_gateway.specs.Keys.{PeerSetup}
use Rattle.peer_half.specs.Journals.{Journalled}
use Rattle.peer_half.specs.Standing.{Standing, face_of, saying, saying_all, saying_of, wall_of}
use Rattle.peer_half.specs.Steps.{putting_all, telling}
use Rattle.peer_half.specs.Parts.{reading_clocks, troubled}
use Rattle.peer_live.specs.Telling.{KeptValue, kept_of, reads, says, says_of, tells, troubles}
use Rattle.peer_live.specs.Shows.{reads_clocks}

-- ---- lines

lines-more : (f : Event → List ℕ) (said : List Event) (event : Event) → flat_map f said ++ f event ≡ flat_map f (said ++ event ∷ [])
lines-more f said event =
    sym (flat_map-append f said (event ∷ []) ∙ ap (λ line. flat_map f said ++ line) (append-nil (f event)))

pub kept-says : (event : Event) (s : Standing) → says event (kept_of s) ≡ kept_of (saying event s)
kept-says event s =
    ap (λ text. record { faces = s.faces; own = s.own; log = record { at = wall_of s; text = text; counters = event_counted event s.counters } })
    (lines-more (line_of (wall_of s)) s.said event)

pub kept-says-of : (face : Face) (what : Option LinkEvent) (s : Standing) → says_of face what (kept_of s) ≡ kept_of (saying_of face what s)
kept-says-of face None s = refl
kept-says-of face (Some what) s = kept-says (events.Link face what) s

kept-says-all : (es : List Event) (s : Standing) → record (kept_of s) { log = after_saying_all es (kept_of s).log } ≡ kept_of (saying_all es s)
unfolding after_saying_all saying_all
kept-says-all [] s = refl
kept-says-all (event ∷ more) s =
    ap (λ (k : KeptValue). record k { log = after_saying_all more k.log }) (kept-says event s) ∙ kept-says-all more (saying event s)

-- ---- parts

-- a step was done, and nothing is said yet
abbrev pub stepped : OpenAt → Answered → Standing → Standing
stepped opened answer s = record s {
  faces = putting_all answer.puts answer.out s.faces;
  own = own_after_step opened answer.told answer.begun s.own;
  counters = begun_counted answer.begun s.counters;
}

pub kept-tells : (opened : OpenAt) (answer : Answered) (s : Standing)
    → tells opened answer (kept_of s) ≡ kept_of (telling opened answer s)
kept-tells opened answer s = kept-says-all (events_of opened s.own answer.told) (stepped opened answer s)

pub kept-reads : (now : Reading) (s : Standing) → reads now (kept_of s) ≡ kept_of (reads_clocks now s)
kept-reads now s =
    ap (says_of faces.New (told_at (s.faces.1).outbox now)) (kept-says-of faces.Old (told_at (s.faces.0).outbox now) (reading_clocks now s))
    ∙ kept-says-of faces.New (told_at (s.faces.1).outbox now) (saying_of faces.Old (told_at (s.faces.0).outbox now) (reading_clocks now s))

pub kept-troubles : (face : Face) (s : Standing) → troubles face (kept_of s) ≡ kept_of (troubled face s)
kept-troubles face s =
    ap (says_of face (lost_event (face_of face s))) (kept-says-of face (full_event (face_of face s)) s)
    ∙ kept-says-of face (lost_event (face_of face s)) (saying_of face (full_event (face_of face s)) s)

-- ---- what stays

-- all that isn't kept here
pub record Rest : Type 0 where
  pub setup : PeerSetup
  pub gate : PeerGate
  pub moments : PeerMoments
  pub started : Bool
  pub shown : Option ℕ
  pub journal : Option Journalled

abbrev pub rest_of : Standing → Rest
rest_of s = record { setup = s.setup; gate = s.gate; moments = s.moments; started = s.started; shown = s.shown; journal = s.journal }

pub rest-says-of : (face : Face) (what : Option LinkEvent) (s : Standing) → rest_of (saying_of face what s) ≡ rest_of s
rest-says-of face None s = refl
rest-says-of face (Some what) s = refl

rest-says-all : (es : List Event) (s : Standing) → rest_of (saying_all es s) ≡ rest_of s
unfolding saying_all
rest-says-all [] s = refl
rest-says-all (event ∷ more) s = rest-says-all more (saying event s)

pub rest-tells : (opened : OpenAt) (answer : Answered) (s : Standing) → rest_of (telling opened answer s) ≡ rest_of s
rest-tells opened answer s = rest-says-all (events_of opened s.own answer.told) (stepped opened answer s)

pub rest-reads : (now : Reading) (s : Standing) → rest_of (reads_clocks now s) ≡ rest_of (reading_clocks now s)
rest-reads now s =
    rest-says-of faces.New (told_at (s.faces.1).outbox now) (saying_of faces.Old (told_at (s.faces.0).outbox now) (reading_clocks now s))
    ∙ rest-says-of faces.Old (told_at (s.faces.0).outbox now) (reading_clocks now s)

pub rest-troubles : (face : Face) (s : Standing) → rest_of (troubled face s) ≡ rest_of s
rest-troubles face s =
    rest-says-of face (lost_event (face_of face s)) (saying_of face (full_event (face_of face s)) s)
    ∙ rest-says-of face (full_event (face_of face s)) s

-- ---- a step of the gateway is told
