-- The parts of a half, in their order.

use Rattle.std.specs.Prelude.{ℕ, zero, suc, ◌+◌, ◌-◌, ◌^◌, min, Bool, true, false, nat_le, List, [], ◌∷◌, length, map}
use Rattle.std.specs.Prelude.{Option, None, Some, if◌then◌else◌}
use Rattle.edge_traits.specs.Faults.{fails_next, after_next}
use Rattle.ltp_segment.specs.Reading.{segment_of}
use Rattle.gate_cases.specs.declared.face.Face.{Face}
use Rattle.gate_cases.specs.declared.face.Face.TheVariants.{Old, New}
use Rattle.gate_log.specs.declared.event.Event.{Event}
use Rattle.gate_log.specs.declared.event.Event.TheVariants as events
use Rattle.gate_log.specs.declared.event.LinkEvent.TheVariants as links
use Rattle.gate_log.specs.declared.event.BundleEvent.TheVariants as blocks
use Rattle.gate_log.specs.Lines.{line_of}
use Rattle.gate_log.specs.Subjects.{subject_of}
use Rattle.gate_metrics.specs.declared.counters.Counted.TheVariants as things
use Rattle.gate_metrics.specs.declared.gauges.FaceGauges.{FaceGauges}
use Rattle.gate_metrics.specs.declared.gauges.Gauges.{Gauges}
use Rattle.gate_metrics.specs.Text.{peer_text}
use Rattle.gateway_core.specs.Gate.{at_face}
use Rattle.journal_file.specs.declared.kept.Pending.{Pending}
use Rattle.journal_file.specs.Values.{KeptValue, RecordValue}
use Rattle.outbox.specs.declared.reading.Reading.{Reading}
use Rattle.outbox.specs.Outbox.{next_of, octets_in}
use Rattle.gate_face.specs.Contacts.{told_at}
use Rattle.gate_face.specs.Halves.{after_clocks, full_event, link_at, losing, lost_event, taking}
use Rattle.piece_gathering.specs.Gathered.{octets_waiting}
use Rattle.peer_gateway.specs.Gate.{AddedAt, PeerFace}
use Rattle.peer_gateway.specs.Steps.{PeerEvent, a_datagram, a_kept_piece, a_tick, next_if}
use Rattle.peer_records.specs.Keeping.{to_add_at}
use Rattle.peer_records.specs.Halves.{ends_half}
use Rattle.peer_half.specs.Moments.{moments_at}
use Rattle.peer_half.specs.Standing.{Standing, counting, doing_at, face_of, saying, saying_of, wall_of}
use Rattle.peer_half.specs.Journals.{Journalled, anew_in, is_large, kept_in, past_commit, records_in}
use Rattle.peer_half.specs.Steps.{happens, happens_again, step_of}
use Rattle.peer_half.specs.Acts.{Act, sent, lost, said, shown, committed, installed, Acted, stands, after_acts}

abbrev pub where_some : {X Y : Type 0} → Option X → (X → Y) → Y → Y
where_some None does otherwise = otherwise
where_some (Some x) does otherwise = does x

-- ---- the clocks are read

-- the moments of the half, and both faces at this reading; no line is to be written yet
abbrev pub reading_clocks : Reading → Standing → Standing
reading_clocks now s = record s {
  moments = moments_at now s.faces;
  faces = (after_clocks now s.faces.0, after_clocks now s.faces.1);
  said = [];
}

-- how many marks and how many pieces the journal keeps; none without one
abbrev pub marks_in : Option Journalled → ℕ
marks_in None = 0
marks_in (Some j) = length (((j.recorded).keeping).kept).marks

abbrev pub pending_in : Option Journalled → ℕ
pending_in None = 0
pending_in (Some j) = length (((j.recorded).keeping).kept).pending

-- the line `start`, in the first half: the numbers of the first sessions, and how much is kept of
-- earlier runs
abbrev pub starting : Standing → Standing
starting s =
    if s.started then s
    else saying (events.Start ((s.setup).keys.0.party).first ((s.setup).keys.1.party).first
    (marks_in s.journal) (pending_in s.journal))
    (record s { started = true })

-- what is told of the contacts of the old face, then of the new one, then `start`
unfoldable pub reads : Reading → Standing → Standing
reads now s =
    starting (saying_of New (told_at (s.faces.1).outbox now)
    (saying_of Old (told_at (s.faces.0).outbox now) (reading_clocks now s)))

-- ---- pieces of earlier runs are added

-- the first block of earlier runs that is still to be added at a face
abbrev pub first_pending : List Pending → Option Pending
first_pending [] = None
first_pending (p ∷ more) = Some p

abbrev pub first_waiting : Face → Option Journalled → Option Pending
first_waiting face None = None
first_waiting face (Some j) = first_pending (to_add_at face (j.recorded).keeping)

abbrev pub next_resumed : Face → Standing → Option Pending
next_resumed face s = first_waiting face s.journal

-- it is to be added at its face, by its octets and what its record says of when it came
abbrev pub begin_of : Pending → PeerEvent
begin_of p = a_kept_piece p.face p.block p.came

-- it was, where there was room for it
abbrev pub any_added : List AddedAt → Bool
any_added [] = false
any_added (a ∷ more) = true

abbrev pub is_added : Pending → Standing → Bool
is_added p s = any_added ((step_of (begin_of p) s).effects).added

-- the session that it will have, after those of the pieces that wait at its face; not known where they gather
abbrev pub next_number : Face → Standing → Option ℕ
next_number face s = next_if s.setup face s.gate

abbrev pub resumed_event : Pending → Option ℕ → Event
resumed_event p None = events.Waiting p.face (subject_of p.block)
resumed_event p (Some session) =
    events.Bundle p.face session (subject_of p.block) blocks.Resumed

-- it is known by its id from before, so that takes no record
unfoldable pub tries : Pending → Standing → Standing
tries p s = happens_again (Some p.id) (begin_of p) s

abbrev pub resumed : Pending → Standing → Standing
resumed p s = saying (resumed_event p (next_number p.face s)) (tries p s)

-- at a face, one after the other, at most so many; where there is no room for one, those after it wait too
unfoldable pub resumes_within : ℕ → Face → Standing → Standing
resumes_within zero face s = s
resumes_within (suc n) face s =
    where_some (next_resumed face s)
    (λ p. if is_added p s then resumes_within n face (resumed p s) else tries p s) s

-- each that is pending at most once
abbrev pub resumes_at : Face → Standing → Standing
resumes_at face s = resumes_within (pending_in s.journal) face s

-- at the old face, and then at the new one
abbrev pub resumes : Standing → Standing
resumes s = resumes_at New (resumes_at Old s)

-- ---- time passes, and datagrams come

abbrev pub ticks : Standing → Standing
ticks s = happens a_tick s

abbrev pub arrives : Face → List ℕ → Standing → Standing
arrives face datagram s =
    happens (a_datagram face (segment_of datagram))
    (counting face (things.Received (length datagram)) s)

unfoldable pub arrives_all : Face → List (List ℕ) → Standing → Standing
arrives_all face [] s = s
arrives_all face (datagram ∷ more) s = arrives_all face more (arrives face datagram s)

-- a poll failed, which is the last of the half
abbrev pub fails_polling : Face → Standing → Standing
fails_polling face s = saying (events.Link face links.PollFailed) s

abbrev pub ends_polling : Face → (failed : Bool) → Standing → Standing
ends_polling face failed s = if failed then fails_polling face s else s

-- the polls dropped so many datagrams from elsewhere: no line tells of them
abbrev pub drops_foreign : Face → ℕ → Standing → Standing
drops_foreign face datagrams s = counting face (things.Foreign datagrams) s

-- ---- the records of the half are committed

-- the last of them reserve numbers ahead of those that the engines have given
abbrev pub reserved_in : ℕ → ℕ → Option Journalled → Option Journalled
reserved_in old_next new_next None = None
reserved_in old_next new_next (Some j) =
    Some (record { recorded = ends_half old_next new_next j.recorded; place = j.place })

-- the number of a face's next session
abbrev pub next_at : Face → Standing → ℕ
next_at face s = (((at_face (s.gate).faces face).sessions).engine).next

abbrev pub reserves : Standing → Standing
reserves s = record s {
  journal = reserved_in (next_at Old s) (next_at New s) s.journal;
}

-- there are none where nothing is to be recorded
abbrev pub commits_those : List RecordValue → List Act
commits_those [] = []
commits_those (first ∷ more) = committed (first ∷ more) ∷ []

abbrev pub commits_reserved : Standing → Acted
commits_reserved s = record {
  standing = record s { journal = past_commit s.journal };
  acts = commits_those (records_in s.journal);
}

abbrev pub commits : Standing → Acted
commits s = commits_reserved (reserves s)

-- ---- a face sends

-- its send fails, or not
abbrev pub tried : Face → (fails : Bool) → List ℕ → Act
tried face true datagram = lost face datagram
tried face false datagram = sent face datagram

-- the first datagram was taken out, and is lost or sent
abbrev pub goes : Face → (fails : Bool) → List ℕ → Standing → Standing
goes face true datagram s = counting face things.SendFailed (doing_at face losing s)
goes face false datagram s = counting face (things.Sent (length datagram)) s

-- the datagrams that may go now, in order, at most so many; which of their sends fail is told for each,
-- and past the end none does
unfoldable pub sends_within : ℕ → Face → List Bool → Standing → Acted
sends_within zero face failing s = stands s
sends_within (suc n) face failing s =
    where_some (next_of (face_of face s).outbox)
    (λ datagram. after_acts (tried face (fails_next failing) datagram ∷ [])
    (sends_within n face (after_next failing)
    (goes face (fails_next failing) datagram (doing_at face taking s))))
    (stands s)

-- all that may go now
abbrev pub sends : Face → List Bool → Standing → Acted
sends face failing s =
    sends_within (length ((face_of face s).outbox).waiting) face failing s

-- what went wrong at a face in this half: datagrams that were dropped, and sends that failed
abbrev pub troubled : Face → Standing → Standing
troubled face s =
    saying_of face (lost_event (face_of face s)) (saying_of face (full_event (face_of face s)) s)

abbrev pub ends_sending : Standing → Standing
ends_sending s = troubled New (troubled Old s)

-- ---- the lines are written

abbrev pub line_at : ℕ → Event → Act
line_at wall event = said (line_of wall event)

abbrev pub writes : Standing → Acted
writes s = record { standing = s; acts = map (line_at (wall_of s)) s.said }

-- ---- the journal's file is made anew

abbrev pub installs_those : Option KeptValue → List Act
installs_those None = []
installs_those (Some kept) = installed kept ∷ []

-- of what is kept, where a journal is kept
abbrev pub makes_anew : Standing → Acted
makes_anew s = record {
  standing = record s { journal = anew_in s.journal };
  acts = installs_those (kept_in s.journal);
}

-- where its file is large
abbrev pub installs : Standing → Acted
installs s = if is_large s.journal then makes_anew s else stands s

-- ---- the metrics

abbrev pub face_gauges : Face → Standing → FaceGauges
face_gauges face s = record {
  sending_sessions = length (((at_face (s.gate).faces face).sessions).engine).senders;
  receiving_sessions = length (((at_face (s.gate).faces face).sessions).engine).receivers;
  outbox_datagrams = length ((face_of face s).outbox).waiting;
  outbox_octets = octets_in ((face_of face s).outbox).waiting;
  link = link_at (face_of face s).outbox (wall_of s);
}

abbrev pub gauges_in : Standing → Gauges
gauges_in s = record {
  old = face_gauges Old s;
  new = face_gauges New s;
  pending_pieces = pending_in s.journal;
}

-- the octets of the pieces that wait at a face, up to the greatest number that 64 bits show
abbrev pub gathered_in : PeerFace → ℕ
gathered_in f = min (octets_waiting (f.gathering).waiting) (2 ^ 64 - 1)

abbrev pub gathered_at : Face → Standing → ℕ
gathered_at face s = gathered_in (at_face (s.gate).faces face)

abbrev pub text_in : Standing → List ℕ
text_in s = peer_text s.counters (gauges_in s) (gathered_at Old s) (gathered_at New s)

-- they are written in the first half, and 10 seconds of the wall clock or more after the last time
abbrev pub is_due : (last : Option ℕ) → ℕ → Bool
is_due None wall = true
is_due (Some last) wall = nat_le (last + 10000) wall

-- they are put in place, or a line says that they couldn't be
abbrev pub shows_now : (fails : Bool) → Standing → List Act
shows_now true s = line_at (wall_of s) events.MetricsFailed ∷ []
shows_now false s = shown (text_in s) ∷ []

abbrev pub shows_if : (due fails : Bool) → Standing → Acted
shows_if false fails s = stands s
shows_if true fails s =
    record { standing = record s { shown = Some (wall_of s) }; acts = shows_now fails s }

-- where there is a board for them
abbrev pub shows : (board fails : Bool) → Standing → Acted
shows true fails s = shows_if (is_due s.shown (wall_of s)) fails s
shows false fails s = stands s
