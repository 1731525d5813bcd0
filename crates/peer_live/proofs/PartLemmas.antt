-- The parts of a half, each as the gateway at work does it.

use Rattle.std.proofs.Common.{◌≡◌, ℕ, ◌<◌, ◌^◌, List, length, Option, None, IfSome, refl, ap, sym, subst, ◌∙◌}
use Rattle.ltp_segment.specs.Reading.{segment_of}
use Rattle.gate_cases.specs.declared.face.Face.{Face}
use Rattle.gate_cases.specs.declared.face.Face.TheVariants as faces
use Rattle.gate_log.specs.declared.event.Event.{Event}
use Rattle.gate_metrics.specs.declared.counters.Counted.{Counted}
use Rattle.gate_metrics.specs.declared.counters.Counted.TheVariants as things
use Rattle.journal_file.specs.Length.{entries_length, gate_of}
use Rattle.outbox.specs.declared.reading.Reading.{Reading}
use Rattle.gate_face.specs.Halves.{taking}
use Rattle.peer_gateway.specs.declared.moments.FaceMoments.{FaceMoments}
use Rattle.peer_gateway.specs.declared.moments.Moments.{Moments}
use Rattle.peer_gateway.specs.Answers.{Answered}
use Rattle.peer_gateway.specs.Gate.{PeerGate, PeerMoments}
use Rattle.peer_gateway.specs.Steps.{a_datagram, a_tick}
use Rattle.peer_gateway.specs.Ties.{PeerGatewayValue, PeerSteps}
use Rattle.peer_gateway.specs.Views.{moments_of}
use Rattle.peer_half.specs.Standing.{Standing, counting, doing_at, saying}
use Rattle.peer_half.specs.Journals.{Journalled, anew_in, kept_in, past_commit, records_in}
use Rattle.peer_half.specs.Parts as parts
use Rattle.peer_half.specs.Moments.{face_moments, moments_at}
use Rattle.peer_half.specs.Steps.{happens}
use Rattle.peer_live.specs.declared.work.Work.{Work}
use Rattle.peer_live.specs.Telling.{KeptValue, kept_of, counts, does_at, outboxes_of, reads, says, troubles}
use Rattle.peer_live.specs.Shows.{Does, IsWhole, ShowsWork, reads_clocks, settles}
use Rattle.peer_live.proofs.KeptLemmas.{kept-reads, kept-says, kept-troubles, rest-reads, rest-troubles}
use Rattle.peer_live.proofs.ShowsLemmas.{does-event, does-then, kept-goes}

pub whole-kept : (w : Work) (kept : KeptValue) → IsWhole w → IsWhole (record w { kept = kept })
whole-kept w kept whole =
    record { gate = whole.gate; moments = whole.moments }

-- ---- the clocks are read

-- the moments that the faces had before are those of the reading
abbrev moments_by : Reading → KeptValue → PeerMoments
moments_by now k = moments_at now k.faces

abbrev moments_with : ℕ → FaceMoments → FaceMoments → Moments
moments_with wall old new = record { wall = wall; old = old; new = new }

pub read-goes : (w : Work) (kept : KeptValue) (old new : FaceMoments) (now : Reading) (s : Standing)
    → old ≡ face_moments now (w.kept).faces.0 → new ≡ face_moments now (w.kept).faces.1
    → kept ≡ reads now w.kept → ShowsWork w s
    → ShowsWork (record w { kept = kept; moments = moments_with now.wall old new }) (reads_clocks now s)
read-goes w kept old new now s old_is new_is is shows =
    let moments_are : moments_of (moments_with now.wall old new) ≡ moments_at now s.faces =
    ap (λ (m : FaceMoments). moments_of (moments_with now.wall m new)) old_is
    ∙ ap (λ (m : FaceMoments). moments_of (moments_with now.wall (face_moments now (w.kept).faces.0) m)) new_is
    ∙ ap (moments_by now) shows.kept in
    kept-goes (record w { kept = kept_of (parts.reading_clocks now s); moments = moments_with now.wall old new }) kept (parts.reading_clocks now s) (reads_clocks now s)
    (record {
      setup = shows.setup;
      gate = shows.gate;
      moments = moments_are;
      kept = refl;
      old_first = shows.old_first;
      new_first = shows.new_first;
      started = shows.started;
      shown = shows.shown;
      journal = shows.journal;
    })
    (is ∙ (ap (reads now) shows.kept ∙ kept-reads now s)) (rest-reads now s)

pub does-read : (w : Work) (kept : KeptValue) (old new : FaceMoments) (now : Reading) → IsWhole w → now.wall < 2 ^ 62 → old.at < 2 ^ 62 → new.at < 2 ^ 62
    → old ≡ face_moments now (w.kept).faces.0 → new ≡ face_moments now (w.kept).faces.1
    → kept ≡ reads now w.kept → Does w (record w { kept = kept; moments = moments_with now.wall old new }) (reads_clocks now)
does-read w kept old new now whole wall_low old_low new_low old_is new_is is = record {
  whole = record {
    gate = whole.gate;
    moments = record { wall = wall_low; old = old_low; new = new_low };
  };
  goes_on = λ s shows. read-goes w kept old new now s old_is new_is is shows;
}

-- ---- time passes, and datagrams come

pub does-tick : (w new : Work) (gate : PeerGatewayValue) (octets : ℕ × ℕ) (answer : Answered) → IsWhole w
    → octets ≡ outboxes_of (w.kept).faces → PeerSteps w.gate gate a_tick (moments_of w.moments) octets answer
    → new ≡ settles None answer (record w { gate = gate })
    → Does w new parts.ticks
does-tick w new gate octets answer whole octets_are steps is = does-event w new gate None a_tick octets answer whole octets_are steps is

count-goes : (w : Work) (face : Face) (what : Counted) (s : Standing) → ShowsWork w s → ShowsWork (record w { kept = counts face what w.kept }) (counting face what s)
count-goes w face what s shows = kept-goes w (counts face what w.kept) s (counting face what s) shows (ap (counts face what) shows.kept) refl

does-count : (w : Work) (kept : KeptValue) (face : Face) (what : Counted) → IsWhole w → kept ≡ counts face what w.kept
    → Does w (record w { kept = kept }) (counting face what)
does-count w kept face what whole is =
    subst (λ (k : KeptValue). Does w (record w { kept = k }) (counting face what)) (sym is)
    (record { whole = whole-kept w (counts face what w.kept) whole; goes_on = λ s shows. count-goes w face what s shows })

abbrev received : Face → List ℕ → Standing → Standing
received face datagram s = counting face (things.Received (length datagram)) s

pub does-arrive : (w new : Work) (counted : KeptValue) (gate : PeerGatewayValue) (face : Face) (datagram : List ℕ) (octets : ℕ × ℕ) (answer : Answered) → IsWhole w
    → counted ≡ counts face (things.Received (length datagram)) w.kept
    → octets ≡ outboxes_of counted.faces
    → PeerSteps w.gate gate (a_datagram face (segment_of datagram)) (moments_of w.moments) octets answer
    → new ≡ settles None answer (record w { kept = counted; gate = gate })
    → Does w new (parts.arrives face datagram)
does-arrive w new counted gate face datagram octets answer whole counted_is octets_are steps is =
    does-then w (record w { kept = counted }) new (received face datagram) (λ s. happens (a_datagram face (segment_of datagram)) s)
    (does-count w counted face (things.Received (length datagram)) whole counted_is)
    (does-event (record w { kept = counted }) new gate None (a_datagram face (segment_of datagram)) octets answer (whole-kept w counted whole) octets_are steps is)

-- ---- an event is said

says-goes : (w : Work) (kept : KeptValue) (event : Event) (s : Standing) → kept ≡ says event w.kept → ShowsWork w s → ShowsWork (record w { kept = kept }) (saying event s)
says-goes w kept event s is shows = kept-goes w kept s (saying event s) shows (is ∙ (ap (says event) shows.kept ∙ kept-says event s)) refl

pub does-says : (w : Work) (kept : KeptValue) (event : Event) → IsWhole w → kept ≡ says event w.kept → Does w (record w { kept = kept }) (saying event)
does-says w kept event whole is = record { whole = whole-kept w kept whole; goes_on = λ s shows. says-goes w kept event s is shows }

-- ---- a face sends

pub take-goes : (w : Work) (kept : KeptValue) (face : Face) (s : Standing) → kept ≡ does_at face taking w.kept → ShowsWork w s → ShowsWork (record w { kept = kept }) (doing_at face taking s)
take-goes w kept face s is shows = kept-goes w kept s (doing_at face taking s) shows (is ∙ ap (does_at face taking) shows.kept) refl

pub does-take : (w : Work) (kept : KeptValue) (face : Face) → IsWhole w → kept ≡ does_at face taking w.kept → Does w (record w { kept = kept }) (doing_at face taking)
does-take w kept face whole is = record { whole = whole-kept w kept whole; goes_on = λ s shows. take-goes w kept face s is shows }

troubles-goes : (w : Work) (kept : KeptValue) (face : Face) (s : Standing) → kept ≡ troubles face w.kept → ShowsWork w s → ShowsWork (record w { kept = kept }) (parts.troubled face s)
troubles-goes w kept face s is shows = kept-goes w kept s (parts.troubled face s) shows (is ∙ (ap (troubles face) shows.kept ∙ kept-troubles face s)) (rest-troubles face s)

ends-goes : (w : Work) (old new : KeptValue) (s : Standing) → old ≡ troubles faces.Old w.kept → new ≡ troubles faces.New old → ShowsWork w s
    → ShowsWork (record w { kept = new }) (parts.ends_sending s)
ends-goes w old new s old_is new_is shows =
    troubles-goes (record w { kept = old }) new faces.New (parts.troubled faces.Old s) new_is (troubles-goes w old faces.Old s old_is shows)

pub does-end : (w : Work) (old new : KeptValue) → IsWhole w → old ≡ troubles faces.Old w.kept → new ≡ troubles faces.New old → Does w (record w { kept = new }) parts.ends_sending
does-end w old new whole old_is new_is = record { whole = whole-kept w new whole; goes_on = λ s shows. ends-goes w old new s old_is new_is shows }

-- ---- the records of the half

journal-goes : (w : Work) (journal : Option Journalled) (s : Standing) (known : Option Journalled) → journal ≡ known → ShowsWork w s
    → ShowsWork (record w { journal = journal }) (record s { journal = known })
journal-goes w journal s known is shows = record {
  setup = shows.setup;
  gate = shows.gate;
  moments = shows.moments;
  kept = shows.kept;
  old_first = shows.old_first;
  new_first = shows.new_first;
  started = shows.started;
  shown = shows.shown;
  journal = is;
}

pub whole-journal : (w : Work) (journal : Option Journalled) → IsWhole w → IsWhole (record w { journal = journal })
whole-journal w journal whole =
    record { gate = whole.gate; moments = whole.moments }

abbrev next_of_old : PeerGate → ℕ
next_of_old g = (((g.faces.0).sessions).engine).next

abbrev next_of_new : PeerGate → ℕ
next_of_new g = (((g.faces.1).sessions).engine).next

-- session numbers are reserved
pub does-reserve : (w : Work) (journal : Option Journalled) → IsWhole w
    → journal ≡ parts.reserved_in (next_of_old (w.gate).gate) (next_of_new (w.gate).gate) w.journal
    → Does w (record w { journal = journal }) parts.reserves
does-reserve w journal whole is = record {
  whole = whole-journal w journal whole;
  goes_on = λ s shows. journal-goes w journal s (parts.reserved_in (parts.next_at faces.Old s) (parts.next_at faces.New s) s.journal)
      (is ∙ ap (λ (g : PeerGate). parts.reserved_in (next_of_old g) (next_of_new g) w.journal) shows.gate
      ∙ ap (λ (j : Option Journalled). parts.reserved_in (parts.next_at faces.Old s) (parts.next_at faces.New s) j) shows.journal) shows;
}

-- they were committed
pub commits-goes : (w : Work) (journal : Option Journalled) (octets : ℕ) (s : Standing)
    → (octets ≡ entries_length (records_in w.journal) → journal ≡ past_commit w.journal)
    → ShowsWork w s → octets ≡ entries_length (records_in s.journal)
    → ShowsWork (record w { journal = journal }) (record s { journal = past_commit s.journal })
commits-goes w journal octets s commits shows octets_are =
    journal-goes w journal s (past_commit s.journal)
    (commits (octets_are ∙ ap (λ (j : Option Journalled). entries_length (records_in j)) (sym shows.journal)) ∙ ap past_commit shows.journal) shows

-- the file was made anew
pub installs-goes : (w : Work) (journal : Option Journalled) (place : ℕ) (s : Standing)
    → (IfSome (kept_in w.journal) (λ kept. place ≡ gate_of kept) → journal ≡ anew_in w.journal)
    → ShowsWork w s → IfSome (kept_in s.journal) (λ kept. place ≡ gate_of kept)
    → ShowsWork (record w { journal = journal }) (record s { journal = anew_in s.journal })
installs-goes w journal place s installs shows place_is =
    journal-goes w journal s (anew_in s.journal)
    (installs (subst (λ (j : Option Journalled). IfSome (kept_in j) (λ kept. place ≡ gate_of kept)) (sym shows.journal) place_is)
    ∙ ap anew_in shows.journal) shows
