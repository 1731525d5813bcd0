-- What each part of a half does to the journal.

use Rattle.std.proofs.Common.{◌≡◌, ℕ, zero, suc, Bool, true, false, List, [], ◌∷◌, length, Option, None, Some, if◌then◌else◌, refl, ap, ◌∙◌, sym, subst}
use Rattle.edge_traits.specs.Faults.{fails_next, after_next}
use Rattle.ltp_segment.specs.Reading.{segment_of}
use Rattle.gate_cases.specs.declared.face.Face.{Face}
use Rattle.gate_cases.specs.declared.face.Face.TheVariants as faces
use Rattle.gate_log.specs.declared.event.LinkEvent.{LinkEvent}
use Rattle.gate_metrics.specs.declared.counters.Counted.TheVariants as things
use Rattle.journal_file.specs.declared.kept.Pending.{Pending}
use Rattle.outbox.specs.declared.reading.Reading.{Reading}
use Rattle.outbox.specs.Outbox.{next_of}
use Rattle.gate_face.specs.Halves.{full_event, lost_event, taking}
use Rattle.peer_gateway.specs.Gate.{PeerGate}
use Rattle.peer_gateway.specs.Steps.{PeerEvent, a_datagram, a_tick}
use Rattle.peer_records.specs.Happened.{PeerHappened}
use Rattle.peer_half.specs.Journals.{Journalled, anew_in, is_large, past_commit, starts_journal}
use Rattle.peer_half.specs.Standing.{Standing, counting, doing_at, face_of, saying_of, wall_of}
use Rattle.peer_half.specs.Starts.{starts_at}
use Rattle.peer_half.specs.Steps.{happened_in, happens_again, recorded_with}
use Rattle.peer_half.specs.Acts.{Acted, after_acts, stands}
use Rattle.peer_half.specs.Parts as parts
use Rattle.peer_half.specs.Parts.{arrives_all, resumes_within, sends_within, tries}
use Rattle.peer_half.specs.Half.{Came, answers, hears}
use Rattle.peer_half.specs.Runs.{Run, begins_at}
use Rattle.peer_half.proofs.StandingLemmas.{happens-rest, reads-rest}

-- ---- a step

pub journal-happens : (again : Option ℕ) (event : PeerEvent) (s : Standing) → (happens_again again event s).journal ≡ recorded_with (happened_in again event s) s.journal
journal-happens again event s = ap (λ (t : Standing). t.journal) (happens-rest event (recorded_with (happened_in again event s) s.journal) s)

pub journal-tries : (p : Pending) (s : Standing) → (tries p s).journal ≡ recorded_with (happened_in (Some p.id) (parts.begin_of p) s) s.journal
unfolding tries
journal-tries p s = journal-happens (Some p.id) (parts.begin_of p) s

pub journal-arrives : (face : Face) (datagram : List ℕ) (s : Standing)
    → (parts.arrives face datagram s).journal ≡ recorded_with (happened_in None (a_datagram face (segment_of datagram)) s) s.journal
journal-arrives face datagram s = journal-happens None (a_datagram face (segment_of datagram)) (counting face (things.Received (length datagram)) s)

-- ---- what touches neither it nor the gate

abbrev pub core : Standing → PeerGate × Option Journalled
core s = (s.gate, s.journal)

core-of : (face : Face) (what : Option LinkEvent) (s : Standing) → core (saying_of face what s) ≡ core s
core-of face None s = refl
core-of face (Some what) s = refl

pub core-reads : (now : Reading) (s : Standing) → core (parts.reads now s) ≡ core s
core-reads now s = ap core (reads-rest now s)

pub core-polled : (face : Face) (failed : Bool) (s : Standing) → core (parts.ends_polling face failed s) ≡ core s
core-polled face true s = refl
core-polled face false s = refl

core-goes : (face : Face) (fails : Bool) (datagram : List ℕ) (s : Standing) → core (parts.goes face fails datagram (doing_at face taking s)) ≡ core s
core-goes face true datagram s = refl
core-goes face false datagram s = refl

core-next : (face : Face) (fails : Bool) (next : Option (List ℕ)) (does : List ℕ → Acted) (s : Standing)
    → ((datagram : List ℕ) → core (does datagram).standing ≡ core s)
    → core (parts.where_some next (λ datagram. after_acts (parts.tried face fails datagram ∷ []) (does datagram)) (stands s)).standing ≡ core s
core-next face fails None does s later = refl
core-next face fails (Some datagram) does s later = later datagram

core-sends : (n : ℕ) (face : Face) (failing : List Bool) (s : Standing) → core (parts.sends_within n face failing s).standing ≡ core s
unfolding sends_within
core-sends zero face failing s = refl
core-sends (suc n) face failing s =
    core-next face (fails_next failing) (next_of (face_of face s).outbox)
    (λ datagram. parts.sends_within n face (after_next failing) (parts.goes face (fails_next failing) datagram (doing_at face taking s))) s
    (λ datagram. core-sends n face (after_next failing) (parts.goes face (fails_next failing) datagram (doing_at face taking s))
    ∙ core-goes face (fails_next failing) datagram s)

core-ends : (s : Standing) → core (parts.ends_sending s) ≡ core s
core-ends s =
    let a = saying_of faces.Old (full_event (face_of faces.Old s)) s in
    let b = parts.troubled faces.Old s in
    let c = saying_of faces.New (full_event (face_of faces.New b)) b in
    core-of faces.New (lost_event (face_of faces.New b)) c ∙ (core-of faces.New (full_event (face_of faces.New b)) b
    ∙ (core-of faces.Old (lost_event (face_of faces.Old s)) a ∙ core-of faces.Old (full_event (face_of faces.Old s)) s))

core-if : (due fails : Bool) (s : Standing) → core (parts.shows_if due fails s).standing ≡ core s
core-if false fails s = refl
core-if true fails s = refl

core-shows : (board fails : Bool) (s : Standing) → core (parts.shows board fails s).standing ≡ core s
core-shows true fails s = core-if (parts.is_due s.shown (wall_of s)) fails s
core-shows false fails s = refl

core-sent : (came : Came) (s : Standing)
    → core (parts.ends_sending (parts.sends faces.New came.new_failing (parts.sends faces.Old came.old_failing s).standing).standing) ≡ core s
core-sent came s =
    let old = parts.sends faces.Old came.old_failing s in
    let new = parts.sends faces.New came.new_failing old.standing in
    core-ends new.standing
    ∙ (core-sends (length ((face_of faces.New old.standing).outbox).waiting) faces.New came.new_failing old.standing
    ∙ core-sends (length ((face_of faces.Old s).outbox).waiting) faces.Old came.old_failing s)

pub journal-reads : (now : Reading) (s : Standing) → (parts.reads now s).journal ≡ s.journal
journal-reads now s = ap (λ (c : PeerGate × Option Journalled). c.1) (core-reads now s)

pub journal-polled : (face : Face) (failed : Bool) (s : Standing) → (parts.ends_polling face failed s).journal ≡ s.journal
journal-polled face failed s = ap (λ (c : PeerGate × Option Journalled). c.1) (core-polled face failed s)

pub journal-sent : (came : Came) (s : Standing)
    → (parts.ends_sending (parts.sends faces.New came.new_failing (parts.sends faces.Old came.old_failing s).standing).standing).journal ≡ s.journal
journal-sent came s = ap (λ (c : PeerGate × Option Journalled). c.1) (core-sent came s)

pub journal-shows : (board fails : Bool) (s : Standing) → (parts.shows board fails s).standing.journal ≡ s.journal
journal-shows board fails s = ap (λ (c : PeerGate × Option Journalled). c.1) (core-shows board fails s)

-- ---- after all steps of a half

-- its file may be made anew
abbrev pub installed_in : Option Journalled → Option Journalled
installed_in journal = if is_large journal then anew_in journal else journal

core-installs : (large : Bool) (s : Standing) → core (if large then parts.makes_anew s else stands s).standing ≡ (s.gate, if large then anew_in s.journal else s.journal)
core-installs true s = refl
core-installs false s = refl

core-answers : (board : Bool) (came : Came) (s : Standing) → core (answers board came s).standing ≡ (s.gate, installed_in (past_commit (parts.reserves s).journal))
core-answers board came s =
    let c = (parts.commits s).standing in
    let old = parts.sends faces.Old came.old_failing c in
    let new = parts.sends faces.New came.new_failing old.standing in
    let w = parts.ends_sending new.standing in
    core-shows board came.show_fails (parts.installs w).standing
    ∙ (core-installs (is_large w.journal) w ∙ ap (λ (d : PeerGate × Option Journalled). (d.0, installed_in d.1)) (core-sent came c))

pub journal-answers : (board : Bool) (came : Came) (s : Standing) → (answers board came s).standing.journal ≡ installed_in (past_commit (parts.reserves s).journal)
journal-answers board came s = ap (λ (c : PeerGate × Option Journalled). c.1) (core-answers board came s)

pub gate-answers : (board : Bool) (came : Came) (s : Standing) → (answers board came s).standing.gate ≡ s.gate
gate-answers board came s = ap (λ (c : PeerGate × Option Journalled). c.0) (core-answers board came s)

-- ---- at a start

pub journal-begins : (r : Run) → (begins_at r).journal ≡ anew_in (starts_journal r.file r.wall r.kept)
unfolding starts_at
journal-begins r = refl

-- ---- whatever each step keeps, the steps of a half keep

abbrev pub Keeps : (Option Journalled → Type 0) → Type 0
Keeps holds = (h : PeerHappened) (journal : Option Journalled) → holds journal → holds (recorded_with h journal)

kept-happens : (holds : Option Journalled → Type 0) → Keeps holds → (again : Option ℕ) (event : PeerEvent) (s : Standing) → holds s.journal → holds (happens_again again event s).journal
kept-happens holds keeps again event s so = subst holds (sym (journal-happens again event s)) (keeps (happened_in again event s) s.journal so)

kept-next : (holds : Option Journalled → Type 0) (next : Option Pending) (goes_on refused : Pending → Standing) (added : Pending → Bool) (s : Standing)
    → ((p : Pending) → holds (goes_on p).journal) → ((p : Pending) → holds (refused p).journal) → holds s.journal
    → holds (parts.where_some next (λ p. if added p then goes_on p else refused p) s).journal
kept-next holds None goes_on refused added s more none so = so
kept-next holds (Some p) goes_on refused added s more none so = by (added p)
  where
    by : (t : Bool) → holds (if t then goes_on p else refused p).journal
    by true = more p
    by false = none p

pub kept-resumes : (holds : Option Journalled → Type 0) → Keeps holds → (n : ℕ) (face : Face) (s : Standing) → holds s.journal → holds (resumes_within n face s).journal
unfolding resumes_within
kept-resumes holds keeps zero face s so = so
kept-resumes holds keeps (suc n) face s so =
    kept-next holds (parts.next_resumed face s) (λ p. resumes_within n face (parts.resumed p s)) (λ p. tries p s) (λ p. parts.is_added p s) s
    (λ p. kept-resumes holds keeps n face (parts.resumed p s) (tried p)) tried so
  where
    tried : (p : Pending) → holds (tries p s).journal
    tried p = subst holds (sym (journal-tries p s)) (keeps (happened_in (Some p.id) (parts.begin_of p) s) s.journal so)

kept-arrives : (holds : Option Journalled → Type 0) → Keeps holds → (face : Face) (datagrams : List (List ℕ)) (s : Standing) → holds s.journal → holds (arrives_all face datagrams s).journal
unfolding arrives_all
kept-arrives holds keeps face [] s so = so
kept-arrives holds keeps face (datagram ∷ more) s so =
    kept-arrives holds keeps face more (parts.arrives face datagram s)
    (subst holds (sym (journal-arrives face datagram s)) (keeps (happened_in None (a_datagram face (segment_of datagram)) s) s.journal so))

pub kept-hears : (holds : Option Journalled → Type 0) → Keeps holds → (face : Face) (came : Came) (s : Standing) → holds s.journal → holds (hears face came s).journal
kept-hears holds keeps face came s so =
    let read : Standing = parts.reads came.reading s in
    let old : Standing = parts.resumes_at faces.Old read in
    let new : Standing = parts.resumes_at faces.New old in
    subst holds (sym (journal-polled face came.poll_failed (parts.arrives_all face came.datagrams (parts.ticks new))))
    (kept-arrives holds keeps face came.datagrams (parts.ticks new)
    (kept-happens holds keeps None a_tick new
    (kept-resumes holds keeps (parts.pending_in old.journal) faces.New old
    (kept-resumes holds keeps (parts.pending_in read.journal) faces.Old read (subst holds (sym (journal-reads came.reading s)) so)))))
