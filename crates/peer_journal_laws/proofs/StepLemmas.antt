-- The steps of a run, one after the other: what is known before each is what is known after the one before, but for
-- numbers that were reserved.

use Rattle.std.proofs.Common.{◌≡◌, ℕ, zero, suc, Bool, true, false, nat_lt, List, [], ◌∷◌, ◌++◌, Option, None, Some, IfSome, if◌then◌else◌, ◌&&◌, refl, ap, ◌∙◌, sym, subst, unwrap_or, inl, inr}
use Rattle.std.proofs.lemmas.Bool.{eqb-true}
use Rattle.std.proofs.lemmas.List.{append-nil}
use Rattle.std.specs.List.{filter}
use Rattle.ltp_segment.specs.Reading.{segment_of}
use Rattle.gate_cases.specs.declared.face.Face.{Face}
use Rattle.gate_cases.specs.declared.face.Face.TheVariants as faces
use Rattle.gate_cases.specs.Faces.{other_of}
use Rattle.journal_file.specs.declared.kept.Pending.{Pending}
use Rattle.journal_file.specs.Values.{KeptValue, RecordValue, a_begun, a_done, a_mark, a_clear, a_reserved}
use Rattle.journal_file.specs.Keeping.{kept_after, same_face}
use Rattle.journal_file.proofs.AnewLemmas.{after-append}
use Rattle.gate_records.specs.Keeping.{reserve_to}
use Rattle.gate_records.specs.Records.{reserved_records, reserving}
use Rattle.peer_gateway.specs.Steps.{PeerEvent, a_datagram, a_tick}
use Rattle.peer_records.specs.Happened.{PeerHappened}
use Rattle.peer_records.specs.Keeping.{PeerKeeping, held, is_to_add, times, to_add_at}
use Rattle.peer_records.specs.Records.{after_reserving}
use Rattle.peer_half.specs.Journals.{Journalled, anew_in, is_large, kept_in, past_commit}
use Rattle.peer_half.specs.Standing.{Standing}
use Rattle.peer_half.specs.Steps.{happened_in, happens, recorded_with}
use Rattle.peer_half.specs.Parts as parts
use Rattle.peer_half.specs.Parts.{arrives_all, resumes_within, tries}
use Rattle.peer_half.specs.Half.{Came, answers, half, hears}
use Rattle.peer_half.specs.Run.{halves}
use Rattle.peer_half.specs.Runs.{Run, begins_at, stands_at}
use Rattle.peer_journal_laws.specs.Keeps.{known_after}
use Rattle.peer_journal_laws.specs.Pieces.{IsAmong}
use Rattle.peer_journal_laws.specs.Steps.{JournalStep, known_then, step_at, step_with, steps_adding, steps_arriving, steps_again, steps_heard, steps_in, steps_of, steps_over}
use Rattle.peer_journal_laws.proofs.JournalLemmas.{installed_in, journal-answers, journal-arrives, journal-happens, journal-polled, journal-reads, journal-tries}

-- ---- between two steps: numbers are reserved, and nothing else is

abbrev pub AreReserved : List RecordValue → Type 0
AreReserved [] = Unit {0}
AreReserved (a_begun p ∷ rs) = ⊥
AreReserved (a_done id how ∷ rs) = ⊥
AreReserved (a_mark m ∷ rs) = ⊥
AreReserved (a_clear face session ∷ rs) = ⊥
AreReserved (a_reserved face n ∷ rs) = AreReserved rs

reserved-join : (rs qs : List RecordValue) → AreReserved rs → AreReserved qs → AreReserved (rs ++ qs)
reserved-join [] qs are be = be
reserved-join (a_begun p ∷ rs) qs are be = absurd are
reserved-join (a_done id how ∷ rs) qs are be = absurd are
reserved-join (a_mark m ∷ rs) qs are be = absurd are
reserved-join (a_clear face session ∷ rs) qs are be = absurd are
reserved-join (a_reserved face n ∷ rs) qs are be = reserved-join rs qs are be

reserving-reserved : (face : Face) (next reserved : ℕ) → AreReserved (reserving face next reserved)
reserving-reserved face next reserved = by (nat_lt reserved next)
  where
    by : (t : Bool) → AreReserved (if t then a_reserved face (reserve_to next) ∷ [] else [])
    by true = tt
    by false = tt

pub record Moves (from to : PeerKeeping) : Type 0 where
  pub records : List RecordValue
  pub reserved : AreReserved records
  pub kept_is : to.kept ≡ kept_after from.kept records
  pub waiting_is : to.waiting ≡ from.waiting
  pub named_is : to.named ≡ from.named

moves-not : (k : PeerKeeping) → Moves k k
moves-not k = record { records = []; reserved = tt; kept_is = refl; waiting_is = refl; named_is = refl }

moves-then : (a b c : PeerKeeping) → Moves a b → Moves b c → Moves a c
moves-then a b c first more = record {
  records = first.records ++ more.records;
  reserved = reserved-join first.records more.records first.reserved more.reserved;
  kept_is = more.kept_is ∙ (ap (λ (k : KeptValue). kept_after k more.records) first.kept_is ∙ sym (after-append a.kept first.records more.records));
  waiting_is = more.waiting_is ∙ first.waiting_is;
  named_is = more.named_is ∙ first.named_is;
}

-- ---- steps

-- a piece that a step is to add again is pending before it, and neither waits nor is in a session
pub record IsFree (k : PeerKeeping) (id : ℕ) : Type 0 where
  pub piece : Pending
  pub there : IsAmong piece (k.kept).pending
  pub same : piece.id ≡ id
  pub free : times id (held k) ≡ 0

abbrev pub AddsFree : JournalStep → Type 0
AddsFree step = IfSome (step.happened).again (IsFree step.keeping)

abbrev pub Chain : PeerKeeping → List JournalStep → PeerKeeping → Type 0
Chain from [] to = Moves from to
Chain from (step ∷ more) to = Moves from step.keeping × (AddsFree step × Chain (known_then step) more to)

chain-before : (a b c : PeerKeeping) (steps : List JournalStep) → Moves a b → Chain b steps c → Chain a steps c
chain-before a b c [] first so = moves-then a b c first so
chain-before a b c (step ∷ more) first so = (moves-then a b step.keeping first so.0, so.1)

chain-join : (from middle to : PeerKeeping) (xs ys : List JournalStep) → Chain from xs middle → Chain middle ys to → Chain from (xs ++ ys) to
chain-join from middle to [] ys first more = chain-before from middle to ys first more
chain-join from middle to (x ∷ xs) ys first more = (first.0, (first.1.0, chain-join (known_then x) middle to xs ys first.1.1 more))

pub chain-after : (from to : PeerKeeping) (earlier : List JournalStep) (step : JournalStep) (later : List JournalStep) → Chain from (earlier ++ step ∷ later) to
    → Chain (known_then step) later to
chain-after from to [] step later so = so.1.1
chain-after from to (x ∷ earlier) step later so = chain-after (known_then x) to earlier step later so.1.1

-- ---- where a journal is kept; without one there are none

abbrev pub keeping_of : Journalled → PeerKeeping
keeping_of j = (j.recorded).keeping

abbrev pub Over : Option Journalled → List JournalStep → Option Journalled → Type 0
Over None steps to = (steps ≡ []) × (to ≡ None)
Over (Some j) steps None = ⊥
Over (Some j) steps (Some i) = Chain (keeping_of j) steps (keeping_of i)

over-join : (from middle to : Option Journalled) (xs ys : List JournalStep) → Over from xs middle → Over middle ys to → Over from (xs ++ ys) to
over-join None middle to xs ys first more =
    let rest : Over None ys to = subst (λ (m : Option Journalled). Over m ys to) first.1 more in
    (ap (λ zs. zs ++ ys) first.0 ∙ rest.0, rest.1)
over-join (Some j) None to xs ys first more = absurd first
over-join (Some j) (Some m) None xs ys first more = absurd more
over-join (Some j) (Some m) (Some i) xs ys first more = chain-join (keeping_of j) (keeping_of m) (keeping_of i) xs ys first more

over-to : (from to also : Option Journalled) (steps : List JournalStep) → also ≡ to → Over from steps to → Over from steps also
over-to from to also steps same so = subst (Over from steps) (sym same) so

over-not : (journal : Option Journalled) → Over journal [] journal
over-not None = (refl, refl)
over-not (Some j) = moves-not (keeping_of j)

over-end : (from middle to : Option Journalled) (steps : List JournalStep) → Over from steps middle → Over middle [] to → Over from steps to
over-end from middle to steps first more = subst (λ xs. Over from xs to) (append-nil steps) (over-join from middle to steps [] first more)

over-recorded : (h : PeerHappened) (journal : Option Journalled) → IfSome journal (λ j. IfSome h.again (IsFree (keeping_of j)))
    → Over journal (step_with h journal) (recorded_with h journal)
over-recorded h None adds = (refl, refl)
over-recorded h (Some j) adds = (moves-not (keeping_of j), (adds, moves-not (known_then (record { happened = h; keeping = keeping_of j }))))

new : (h : PeerHappened) (journal : Option Journalled) → h.again ≡ None → IfSome journal (λ j. IfSome h.again (IsFree (keeping_of j)))
new h None is = tt
new h (Some j) is = rw is tt

pub reserved-moves : (old_next new_next : ℕ) (j : Journalled) → Moves (keeping_of j) (after_reserving old_next new_next (keeping_of j))
reserved-moves old_next new_next j =
    let kept = (keeping_of j).kept in
    record {
      records = reserved_records old_next new_next kept;
      reserved = reserved-join (reserving faces.Old old_next kept.old_reserved) (reserving faces.New new_next kept.new_reserved)
          (reserving-reserved faces.Old old_next kept.old_reserved) (reserving-reserved faces.New new_next kept.new_reserved);
      kept_is = refl;
      waiting_is = refl;
      named_is = refl;
    }

over-reserved : (old_next new_next : ℕ) (journal : Option Journalled) → Over journal [] (parts.reserved_in old_next new_next journal)
over-reserved old_next new_next None = (refl, refl)
over-reserved old_next new_next (Some j) = reserved-moves old_next new_next j

over-committed : (journal : Option Journalled) → Over journal [] (past_commit journal)
over-committed None = (refl, refl)
over-committed (Some j) = moves-not (keeping_of j)

over-installed : (large : Bool) (journal : Option Journalled) → Over journal [] (if large then anew_in journal else journal)
over-installed true None = (refl, refl)
over-installed true (Some j) = moves-not (keeping_of j)
over-installed false journal = over-not journal

-- ---- the steps of a half

pub passes-among : (test : Pending → Bool) (ps more : List Pending) (p : Pending) → filter test ps ≡ p ∷ more → IsAmong p ps × (test p ≡ true)
passes-among test [] more p is = absurd (cc)
passes-among test (q ∷ ps) more p is = by (test q) refl is (λ rest. passes-among test ps more p rest)
  where
    by : (t : Bool) → test q ≡ t → (if t then q ∷ filter test ps else filter test ps) ≡ p ∷ more → (filter test ps ≡ p ∷ more → IsAmong p ps × (test p ≡ true))
        → IsAmong p (q ∷ ps) × (test p ≡ true)
    by true passes first later = let same : q ≡ p = cc in (inl (sym same), subst (λ (x : Pending). test x ≡ true) same passes)
    by false passes first later = let rest = later first in (inr rest.0, rest.1)

next-among : (face : Face) (journal : Option Journalled) (p : Pending) → parts.first_waiting face journal ≡ Some p
    → IfSome journal (λ j. IsFree (keeping_of j) p.id)
next-among face None p is = tt
next-among face (Some j) p is = by (to_add_at face k) refl is
  where
    k : PeerKeeping
    k = keeping_of j

    second : (a b : Bool) → (a && b) ≡ true → b ≡ true
    second true b is = is
    second false b is = absurd (cc)

    by : (ps : List Pending) → to_add_at face k ≡ ps → parts.first_pending ps ≡ Some p → IsFree k p.id
    by [] whole first = absurd (cc)
    by (q ∷ more) whole first =
        let same : q ≡ p = cc in
        let passes = passes-among (λ (x : Pending). same_face x.face face && is_to_add k x) (k.kept).pending more p (whole ∙ ap (λ (x : Pending). x ∷ more) same) in
        record { piece = p; there = passes.0; same = refl; free = eqb-true (times p.id (held k)) 0 (second (same_face p.face face) (is_to_add k p) passes.1) }

over-tries : (face : Face) (p : Pending) (s : Standing) → parts.next_resumed face s ≡ Some p → Over s.journal (step_at (Some p.id) (parts.begin_of p) s) (tries p s).journal
over-tries face p s next =
    let h = happened_in (Some p.id) (parts.begin_of p) s in
    over-to s.journal (recorded_with h s.journal) (tries p s).journal (step_with h s.journal) (journal-tries p s) (over-recorded h s.journal (next-among face s.journal p next))

over-next : (next : Option Pending) (goes_on refused : Pending → Standing) (first rest : Pending → List JournalStep) (added : Pending → Bool) (s : Standing)
    → ((p : Pending) → next ≡ Some p → Over s.journal (first p ++ rest p) (goes_on p).journal) → ((p : Pending) → next ≡ Some p → Over s.journal (first p) (refused p).journal)
    → Over s.journal (parts.where_some next (λ p. first p ++ (if added p then rest p else [])) []) (parts.where_some next (λ p. if added p then goes_on p else refused p) s).journal
over-next None goes_on refused first rest added s more none = over-not s.journal
over-next (Some p) goes_on refused first rest added s more none = by (added p)
  where
    by : (t : Bool) → Over s.journal (first p ++ (if t then rest p else [])) (if t then goes_on p else refused p).journal
    by true = more p refl
    by false = subst (λ xs. Over s.journal xs (refused p).journal) (sym (append-nil (first p))) (none p refl)

over-resumes : (n : ℕ) (face : Face) (s : Standing) → Over s.journal (steps_adding n face s) (resumes_within n face s).journal
unfolding resumes_within steps_adding
over-resumes zero face s = over-not s.journal
over-resumes (suc n) face s =
    over-next (parts.next_resumed face s) (λ p. resumes_within n face (parts.resumed p s)) (λ p. tries p s) (λ p. step_at (Some p.id) (parts.begin_of p) s)
    (λ p. steps_adding n face (parts.resumed p s)) (λ p. parts.is_added p s) s
    (λ p next. over-join s.journal (tries p s).journal (resumes_within n face (parts.resumed p s)).journal (step_at (Some p.id) (parts.begin_of p) s) (steps_adding n face (parts.resumed p s))
    (over-tries face p s next) (over-resumes n face (parts.resumed p s)))
    (λ p next. over-tries face p s next)

over-happens : (event : PeerEvent) (s : Standing) → Over s.journal (step_at None event s) (happens event s).journal
over-happens event s =
    let h = happened_in None event s in
    over-to s.journal (recorded_with h s.journal) (happens event s).journal (step_with h s.journal) (journal-happens None event s) (over-recorded h s.journal (new h s.journal refl))

over-arrives : (face : Face) (datagrams : List (List ℕ)) (s : Standing) → Over s.journal (steps_arriving face datagrams s) (arrives_all face datagrams s).journal
unfolding arrives_all steps_arriving
over-arrives face [] s = over-not s.journal
over-arrives face (datagram ∷ more) s =
    let event : PeerEvent = a_datagram face (segment_of datagram) in
    let h = happened_in None event s in
    let next = parts.arrives face datagram s in
    over-join s.journal next.journal (arrives_all face more next).journal (step_with h s.journal) (steps_arriving face more next)
    (over-to s.journal (recorded_with h s.journal) next.journal (step_with h s.journal) (journal-arrives face datagram s) (over-recorded h s.journal (new h s.journal refl)))
    (over-arrives face more next)

over-hears : (face : Face) (came : Came) (s : Standing) → Over s.journal (steps_in face came s) (hears face came s).journal
over-hears face came s =
    let read : Standing = parts.reads came.reading s in
    let old : Standing = parts.resumes_at faces.Old read in
    let new : Standing = parts.resumes_at faces.New old in
    let ticked : Standing = parts.ticks new in
    let came_all : Standing = arrives_all face came.datagrams ticked in
    let passing = step_at None a_tick new ++ steps_arriving face came.datagrams ticked in
    let later = steps_again faces.New old ++ passing in
    over-to s.journal came_all.journal (hears face came s).journal (steps_in face came s) (journal-polled face came.poll_failed came_all)
    (over-join s.journal read.journal came_all.journal [] (steps_heard face came read)
    (over-to s.journal s.journal read.journal [] (journal-reads came.reading s) (over-not s.journal))
    (over-join read.journal old.journal came_all.journal (steps_again faces.Old read) later (over-resumes (parts.pending_in read.journal) faces.Old read)
    (over-join old.journal new.journal came_all.journal (steps_again faces.New old) passing (over-resumes (parts.pending_in old.journal) faces.New old)
    (over-join new.journal ticked.journal came_all.journal (step_at None a_tick new) (steps_arriving face came.datagrams ticked)
    (over-happens a_tick new) (over-arrives face came.datagrams ticked)))))

over-reserves : (face : Face) (came : Came) (s : Standing) → Over s.journal (steps_in face came s) (parts.reserves (hears face came s)).journal
over-reserves face came s =
    let h : Standing = hears face came s in
    over-end s.journal h.journal (parts.reserves h).journal (steps_in face came s) (over-hears face came s)
    (over-reserved (parts.next_at faces.Old h) (parts.next_at faces.New h) h.journal)

-- ---- halves, and a run

over-half : (board : Bool) (face : Face) (came : Came) (s : Standing) → Over s.journal (steps_in face came s) (half board face came s).standing.journal
unfolding half
over-half board face came s =
    let h : Standing = hears face came s in
    let reserved = (parts.reserves h).journal in
    let committed = past_commit reserved in
    over-to s.journal (installed_in committed) (answers board came h).standing.journal (steps_in face came s) (journal-answers board came h)
    (over-end s.journal committed (installed_in committed) (steps_in face came s)
    (over-end s.journal reserved committed (steps_in face came s) (over-reserves face came s) (over-committed reserved))
    (over-installed (is_large committed) committed))

over-halves : (board : Bool) (face : Face) (comes : List Came) (s : Standing) → Over s.journal (steps_over board face comes s) (halves board face comes s).standing.journal
unfolding halves steps_over
over-halves board face [] s = over-not s.journal
over-halves board face (came ∷ more) s =
    let now = (half board face came s).standing in
    over-join s.journal now.journal (halves board (other_of face) more now).standing.journal (steps_in face came s) (steps_over board (other_of face) more now)
    (over-half board face came s) (over-halves board (other_of face) more now)

pub over-run : (r : Run) (face : Face) (came : Came) → Over (begins_at r).journal (steps_of face came r) (parts.reserves (hears face came (stands_at r))).journal
over-run r face came =
    let s : Standing = stands_at r in
    over-join (begins_at r).journal s.journal (parts.reserves (hears face came s)).journal (steps_over r.board faces.Old r.comes (begins_at r)) (steps_in face came s)
    (over-halves r.board faces.Old r.comes (begins_at r)) (over-reserves face came s)

-- ---- what is known at the end

pub same-some : (a b : KeptValue) → Some a ≡ Some b → a ≡ b
same-some a b is = ap (λ (o : Option KeptValue). unwrap_or o a) is

-- a run with a journal: what it knows when it begins, its steps, and what it knows then
pub record Known (r : Run) (steps : List JournalStep) (kept : KeptValue) : Type 0 where
  pub first : Journalled
  pub begins : (begins_at r).journal ≡ Some first
  pub last : PeerKeeping
  pub chain : Chain (keeping_of first) steps last
  pub kept_is : last.kept ≡ kept

pub known-run : (r : Run) (face : Face) (came : Came) (kept : KeptValue) → known_after face came r ≡ Some kept → Known r (steps_of face came r) kept
known-run r face came kept is = by (begins_at r).journal refl (parts.reserves (hears face came (stands_at r))).journal is (over-run r face came)
  where
    by : (from : Option Journalled) → (begins_at r).journal ≡ from → (to : Option Journalled) → kept_in to ≡ Some kept → Over from (steps_of face came r) to → Known r (steps_of face came r) kept
    by None begins None is over = absurd (cc)
    by None begins (Some i) is over = absurd (cc (over.1))
    by (Some j) begins None is over = absurd over
    by (Some j) begins (Some i) is over = record {
      first = j;
      begins = begins;
      last = keeping_of i;
      chain = over;
      kept_is = same-some (keeping_of i).kept kept is;
    }
