-- Where a part of a half finds nothing to do, it needs no memory.

use Rattle.std.proofs.Common.{◌≡◌, ℕ, zero, suc, Bool, true, false, List, [], ◌∷◌, ◌++◌, Option, None, Some, if◌then◌else◌, refl, ap, sym, subst, ◌∙◌}
use Rattle.std.specs.Option.{is_some}
use Rattle.gate_cases.specs.declared.face.Face.{Face}
use Rattle.gate_cases.specs.declared.face.Face.TheVariants as faces
use Rattle.gate_log.specs.declared.event.LinkEvent.{LinkEvent}
use Rattle.gateway_core.specs.Gate.{at_face}
use Rattle.gate_face.specs.Contacts.{told_at}
use Rattle.gate_face.specs.Faces.{FaceStanding}
use Rattle.gate_face.specs.Halves.{full_event, lost_event}
use Rattle.outbox.specs.declared.reading.Reading.{Reading}
use Rattle.peer_gateway.specs.Gate.{PeerGate}
use Rattle.peer_half.specs.Journals.{Journalled, records_in}
use Rattle.peer_half.specs.Standing.{Standing}
use Rattle.peer_half.specs.Parts as parts
use Rattle.peer_half.specs.Parts.{resumes_within}
use Rattle.peer_parts.specs.Quiet.{NothingKept, NothingLost, NothingRecorded, NothingSaid}
use Rattle.peer_live.specs.declared.work.Work.{Work}
use Rattle.peer_live.specs.Telling.{KeptValue, says_of, troubles}
use Rattle.peer_live.specs.Shows.{Does, IsWhole, ShowsWork}

-- ---- the clocks are read

pub none-told-old : (w : Work) (now : Reading) (s : Standing) → ShowsWork w s → NothingSaid now s → told_at ((w.kept).faces.0).outbox now ≡ None
none-told-old w now s shows quiet = ap (λ (k : KeptValue). told_at (k.faces.0).outbox now) shows.kept ∙ quiet.old

pub none-told-new : (w : Work) (now : Reading) (s : Standing) → ShowsWork w s → NothingSaid now s → told_at ((w.kept).faces.1).outbox now ≡ None
none-told-new w now s shows quiet = ap (λ (k : KeptValue). told_at (k.faces.1).outbox now) shows.kept ∙ quiet.new

-- ---- pieces of earlier runs

none-some : {A : Type 0} (o : Option A) → is_some o ≡ false → o ≡ None
none-some None not = refl
none-some (Some x) not = absurd (cc)

where-none : {X Y : Type 0} (o : Option X) (does : X → Y) (otherwise : Y) → o ≡ None → parts.where_some o does otherwise ≡ otherwise
where-none None does otherwise none = refl
where-none (Some x) does otherwise none = absurd (cc)

none-resumed : (n : ℕ) (face : Face) (s : Standing) → parts.next_resumed face s ≡ None → resumes_within n face s ≡ s
unfolding resumes_within
none-resumed zero face s none = refl
none-resumed (suc n) face s none =
    where-none (parts.next_resumed face s) (λ p. if parts.is_added p s then resumes_within n face (parts.resumed p s) else parts.tries p s) s none

-- where none is still to be added at a face, nothing is done there
pub does-not-resume : (w : Work) (face : Face) → IsWhole w → is_some (parts.first_waiting face w.journal) ≡ false → Does w w (parts.resumes_at face)
does-not-resume w face whole none = record {
  whole = whole;
  goes_on = λ s shows. subst (λ (t : Standing). ShowsWork w t)
      (sym (none-resumed (parts.pending_in s.journal) face s (ap (parts.first_waiting face) (sym shows.journal) ∙ none-some (parts.first_waiting face w.journal) none)))
      shows;
}

pub none-kept : (w : Work) (face : Face) (s : Standing) → ShowsWork w s → NothingKept s → parts.first_waiting face w.journal ≡ None
none-kept w face s shows quiet = ap (parts.first_waiting face) shows.journal ∙ quiet face

-- also after the other face
pub none-kept-then : (w mid : Work) (at face : Face) (s : Standing) → Does w mid (parts.resumes_at at) → ShowsWork w s → NothingKept s → parts.first_waiting face mid.journal ≡ None
none-kept-then w mid at face s does shows quiet =
    none-kept mid face s
    (subst (λ (t : Standing). ShowsWork mid t) (none-resumed (parts.pending_in s.journal) at s (quiet at)) (does.goes_on s shows)) quiet

-- ---- the records of the half

none-last : {A : Type 0} (xs ys : List A) → xs ++ ys ≡ [] → ys ≡ []
none-last [] ys none = none
none-last (x ∷ xs) ys none = absurd (cc)

abbrev next_of_old : PeerGate → ℕ
next_of_old g = (((g.faces.0).sessions).engine).next

abbrev next_of_new : PeerGate → ℕ
next_of_new g = (((g.faces.1).sessions).engine).next

pub none-reserved : (w : Work) (old new : ℕ) (s : Standing) → old ≡ next_of_old (w.gate).gate → new ≡ next_of_new (w.gate).gate
    → ShowsWork w s → NothingRecorded s → records_in (parts.reserved_in old new w.journal) ≡ []
none-reserved w old new s old_is new_is shows quiet =
    ap (λ n. records_in (parts.reserved_in n new w.journal)) old_is
    ∙ (ap (λ n. records_in (parts.reserved_in (next_of_old (w.gate).gate) n w.journal)) new_is
    ∙ (ap (λ (g : PeerGate). records_in (parts.reserved_in (next_of_old g) (next_of_new g) w.journal)) shows.gate
    ∙ (ap (λ (j : Option Journalled). records_in (parts.reserved_in (parts.next_at faces.Old s) (parts.next_at faces.New s) j)) shows.journal ∙ quiet)))

-- ---- what went wrong

faces-says : (face : Face) (what : Option LinkEvent) (k : KeptValue) → (says_of face what k).faces ≡ k.faces
faces-says face None k = refl
faces-says face (Some what) k = refl

faces-troubles : (face : Face) (k : KeptValue) → (troubles face k).faces ≡ k.faces
faces-troubles face k =
    faces-says face (lost_event (at_face k.faces face)) (says_of face (full_event (at_face k.faces face)) k)
    ∙ faces-says face (full_event (at_face k.faces face)) k

pub record Unlost (f : FaceStanding × FaceStanding) (face : Face) : Type 0 where
  pub full : full_event (at_face f face) ≡ None
  pub lost : lost_event (at_face f face) ≡ None

pub none-lost : (w : Work) (face : Face) (s : Standing) → ShowsWork w s → NothingLost s → Unlost (w.kept).faces face
none-lost w face s shows quiet = record {
  full = ap (λ (k : KeptValue). full_event (at_face k.faces face)) shows.kept ∙ (quiet face).0;
  lost = ap (λ (k : KeptValue). lost_event (at_face k.faces face)) shows.kept ∙ (quiet face).1;
}

-- also once it was said of the other face
pub none-lost-then : (w : Work) (kept : KeptValue) (at face : Face) (s : Standing) → kept ≡ troubles at w.kept → ShowsWork w s → NothingLost s → Unlost kept.faces face
none-lost-then w kept at face s is shows quiet =
    subst (λ (f : FaceStanding × FaceStanding). Unlost f face) (sym (ap (λ (k : KeptValue). k.faces) is ∙ faces-troubles at w.kept)) (none-lost w face s shows quiet)
