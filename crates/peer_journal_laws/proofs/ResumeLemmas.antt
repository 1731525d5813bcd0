-- What a half adds of earlier runs: pieces that are pending, each once, and without a record.

use Rattle.std.proofs.Common.{◌≡◌, ℕ, zero, suc, ◌+◌, Bool, true, false, ◌==◌, ◌&&◌, List, [], ◌∷◌, ◌++◌, map, Option, None, Some, if◌then◌else◌, refl, ap, ◌∙◌, sym, subst, arith}
use Rattle.std.proofs.lemmas.Bool.{eqb-true}
use Rattle.std.proofs.lemmas.List.{append-nil, map-append}
use Rattle.std.specs.List.{AllByRecursion}
use Rattle.gate_cases.specs.declared.face.Face.{Face}
use Rattle.gate_cases.specs.declared.face.Face.TheVariants as faces
use Rattle.journal_file.specs.declared.kept.Pending.{Pending}
use Rattle.journal_file.specs.Values.{KeptValue}
use Rattle.journal_file.specs.Keeping.{kept_after, same_face}
use Rattle.peer_records.specs.Happened.{PeerHappened}
use Rattle.peer_records.specs.Keeping.{PeerKeeping, held, is_to_add, one_if, times, to_add_at}
use Rattle.peer_records.specs.Records.{after_step, step_records}
use Rattle.peer_half.specs.Journals.{Journalled, kept_in, records_in}
use Rattle.peer_half.specs.Standing.{Standing}
use Rattle.peer_half.specs.Steps.{happened_in, recorded_with}
use Rattle.peer_half.specs.Parts.{begin_of, first_pending, first_waiting, is_added, next_resumed, pending_in, reads, resumed, resumes, resumes_at, resumes_within, tries, where_some}
use Rattle.peer_half.specs.Runs.{EventIn, event_at, resumed_in, resumed_at, stands_at}
use Rattle.peer_half.proofs.ResumeLemmas.{no-more, one-more}
use Rattle.peer_journal_laws.specs.Pieces.{IsAmong, pending_of}
use Rattle.peer_journal_laws.specs.Resumes.{AddsAgain, AreOnce, ResumesWhatIsKept, added_at, added_in, event_of, tried_at, tried_in}
use Rattle.peer_journal_laws.proofs.JournalLemmas.{journal-tries}
use Rattle.peer_journal_laws.proofs.QuietLemmas.{none-recorded}
use Rattle.peer_journal_laws.proofs.StepLemmas.{keeping_of, passes-among}

-- ---- one that is to be added

abbrev held_in : ℕ → Option Journalled → ℕ
held_in id None = 0
held_in id (Some j) = times id (held (keeping_of j))

abbrev kept_pending : Option Journalled → List Pending
kept_pending journal = pending_of (kept_in journal)

-- nothing is recorded, and the same is kept
record Quiet (from to : Option Journalled) : Type 0 where
  kept : kept_in to ≡ kept_in from
  records : records_in to ≡ records_in from

quiet-not : (journal : Option Journalled) → Quiet journal journal
quiet-not journal = record { kept = refl; records = refl }

quiet-then : (a b c : Option Journalled) → Quiet a b → Quiet b c → Quiet a c
quiet-then a b c first next = record { kept = next.kept ∙ first.kept; records = next.records ∙ first.records }

record Try (p : Pending) (s : Standing) : Type 0 where
  there : IsAmong p (kept_pending s.journal)
  free : held_in p.id s.journal ≡ 0
  quiet : Quiet s.journal (tries p s).journal
  still_free : (id : ℕ) → held_in id (tries p s).journal ≡ 0 → held_in id s.journal ≡ 0
  others : is_added p s ≡ true → (id : ℕ) → held_in id (tries p s).journal ≡ 0 → (p.id == id) ≡ false

abbrev happened : Pending → Standing → PeerHappened
happened p s = happened_in (Some p.id) (begin_of p) s

no-one : (t : Bool) (n : ℕ) → n + one_if t ≡ 0 → (n ≡ 0) × (t ≡ false)
no-one true n none = absurd (omega (arith, none))
no-one false n none = (omega (arith, none), refl)

both-second : (a b : Bool) → (a && b) ≡ true → b ≡ true
both-second true b is = is
both-second false b is = absurd (cc)

same-kept : (h : PeerHappened) (k : PeerKeeping) → step_records h k ≡ [] → (after_step h k).kept ≡ k.kept
unfolding after_step
same-kept h k is = ap (kept_after k.kept) is

try-it : (face : Face) (s : Standing) (p : Pending) → next_resumed face s ≡ Some p → Try p s
try-it face s p next = by s.journal refl next
  where
    by : (journal : Option Journalled) → s.journal ≡ journal → first_waiting face journal ≡ Some p → Try p s
    by None is next = absurd (cc)
    by (Some j) is next = by_first (to_add_at face k) refl next
      where
        k : PeerKeeping
        k = keeping_of j

        h : PeerHappened
        h = happened p s

        after : Journalled
        after = record { recorded = record { keeping = after_step h k; records = (j.recorded).records ++ step_records h k }; place = j.place }

        then_is : (tries p s).journal ≡ Some after
        then_is = journal-tries p s ∙ ap (recorded_with h) is

        no_record : step_records h k ≡ []
        no_record = none-recorded p s k

        held_then : (id : ℕ) → held_in id (tries p s).journal ≡ times id (held (after_step h k))
        held_then id = ap (held_in id) then_is

        held_now : (id : ℕ) → held_in id s.journal ≡ times id (held k)
        held_now id = ap (held_in id) is

        is_quiet : Quiet s.journal (tries p s).journal
        is_quiet = subst (λ (from : Option Journalled). Quiet from (tries p s).journal) (sym is)
            (subst (Quiet (Some j)) (sym then_is) (record {
              kept = ap (λ (x : KeptValue). Some x) (same-kept h k no_record);
              records = ap (λ rs. (j.recorded).records ++ rs) no_record ∙ append-nil (j.recorded).records;
            }))

        by_added : (t : Bool) → is_added p s ≡ t → (id : ℕ) → times id (held (after_step h k)) ≡ 0 → times id (held k) ≡ 0
        by_added true any id none = (no-one (p.id == id) (times id (held k)) (sym ((one-more p s k any).held_is id) ∙ none)).0
        by_added false any id none = sym ((no-more p s k any).held_is id) ∙ none

        by_first : (ps : List Pending) → to_add_at face k ≡ ps → first_pending ps ≡ Some p → Try p s
        by_first [] whole first = absurd (cc)
        by_first (q ∷ more) whole first =
            let same : q ≡ p = cc in
            let in_them = passes-among (λ (x : Pending). same_face x.face face && is_to_add k x) (k.kept).pending more p (whole ∙ ap (λ (x : Pending). x ∷ more) same) in
            record {
              there = subst (λ (o : Option Journalled). IsAmong p (kept_pending o)) (sym is) in_them.0;
              free = held_now p.id ∙ eqb-true (times p.id (held k)) 0 (both-second (same_face p.face face) (is_to_add k p) in_them.1);
              quiet = is_quiet;
              still_free = λ id none. held_now id ∙ by_added (is_added p s) refl id (sym (held_then id) ∙ none);
              others = λ any id none. (no-one (p.id == id) (times id (held k)) (sym ((one-more p s k any).held_is id) ∙ (sym (held_then id) ∙ none))).1;
            }

-- ---- one after the other: what comes to the gate, and what is left

map-next : (next : Option Pending) (events : Pending → List EventIn) (pieces : Pending → List Pending)
    → ((p : Pending) → map event_of (events p) ≡ map begin_of (pieces p)) → map event_of (where_some next events []) ≡ map begin_of (where_some next pieces [])
map-next None events pieces later = refl
map-next (Some p) events pieces later = later p

events-within : (n : ℕ) (face : Face) (s : Standing) → map event_of (resumed_in n face s) ≡ map begin_of (tried_in n face s)
unfolding resumed_in tried_in
events-within zero face s = refl
events-within (suc n) face s =
    map-next (next_resumed face s) (λ p. event_at (begin_of p) s ∷ (if is_added p s then resumed_in n face (resumed p s) else []))
    (λ p. p ∷ (if is_added p s then tried_in n face (resumed p s) else [])) (λ p. by p (is_added p s) (events-within n face (resumed p s)))
  where
    by : (p : Pending) (t : Bool) → map event_of (resumed_in n face (resumed p s)) ≡ map begin_of (tried_in n face (resumed p s))
        → map event_of (event_at (begin_of p) s ∷ (if t then resumed_in n face (resumed p s) else [])) ≡ map begin_of (p ∷ (if t then tried_in n face (resumed p s) else []))
    by p true rest = ap (λ es. begin_of p ∷ es) rest
    by p false rest = refl

abbrev AllPending : Option Journalled → List Pending → Type 0
AllPending journal ps = AllByRecursion (λ (p : Pending). IsAmong p (kept_pending journal)) ps

record Leaves (s after : Standing) (ps : List Pending) : Type 0 where
  quiet : Quiet s.journal after.journal
  pending : AllPending s.journal ps

pending-from : (a b : Option Journalled) (ps : List Pending) → kept_pending b ≡ kept_pending a → AllPending b ps → AllPending a ps
pending-from a b ps same all = subst (λ (among : List Pending). AllByRecursion (λ (p : Pending). IsAmong p among) ps) same all

leaves-next : (s : Standing) (next : Option Pending) (goes_on refused : Pending → Standing) (more : Pending → List Pending) (added : Pending → Bool)
    → ((p : Pending) → next ≡ Some p → Leaves s (goes_on p) (p ∷ more p)) → ((p : Pending) → next ≡ Some p → Leaves s (refused p) (p ∷ []))
    → Leaves s (where_some next (λ p. if added p then goes_on p else refused p) s) (where_some next (λ p. p ∷ (if added p then more p else [])) [])
leaves-next s None goes_on refused more added some none = record { quiet = quiet-not s.journal; pending = tt }
leaves-next s (Some p) goes_on refused more added some none = by (added p)
  where
    by : (t : Bool) → Leaves s (if t then goes_on p else refused p) (p ∷ (if t then more p else []))
    by true = some p refl
    by false = none p refl

leaves-within : (n : ℕ) (face : Face) (s : Standing) → Leaves s (resumes_within n face s) (tried_in n face s)
unfolding resumes_within tried_in
leaves-within zero face s = record { quiet = quiet-not s.journal; pending = tt }
leaves-within (suc n) face s =
    leaves-next s (next_resumed face s) (λ p. resumes_within n face (resumed p s)) (λ p. tries p s) (λ p. tried_in n face (resumed p s)) (λ p. is_added p s)
    (λ p next.
    let one = try-it face s p next in
    let rest = leaves-within n face (resumed p s) in
    record {
      quiet = quiet-then s.journal (tries p s).journal (resumes_within n face (resumed p s)).journal one.quiet rest.quiet;
      pending = (one.there, pending-from s.journal (tries p s).journal (tried_in n face (resumed p s)) (ap pending_of (one.quiet).kept) rest.pending);
    })
    (λ p next. let one = try-it face s p next in record { quiet = one.quiet; pending = (one.there, tt) })

-- ---- each once

abbrev AllFree : Option Journalled → List Pending → Type 0
AllFree journal ps = AllByRecursion (λ (q : Pending). held_in q.id journal ≡ 0) ps

record Goes (s : Standing) (ps : List Pending) : Type 0 where
  free : AllFree s.journal ps
  once : AreOnce ps

goes-none : (s : Standing) → Goes s []
goes-none s = record { free = tt; once = tt }

free-before : (p : Pending) (s : Standing) → Try p s → (ps : List Pending) → AllFree (tries p s).journal ps → AllFree s.journal ps
free-before p s one [] free = tt
free-before p s one (q ∷ ps) free = (one.still_free q.id free.0, free-before p s one ps free.1)

others-before : (p : Pending) (s : Standing) → Try p s → is_added p s ≡ true → (ps : List Pending) → AllFree (tries p s).journal ps
    → AllByRecursion (λ (q : Pending). (p.id == q.id) ≡ false) ps
others-before p s one any [] free = tt
others-before p s one any (q ∷ ps) free = (one.others any q.id free.0, others-before p s one any ps free.1)

goes-next : (s : Standing) (next : Option Pending) (goes_on refused : Pending → Standing) (adds : Pending → List Pending) (added : Pending → Bool) (more : List Pending)
    → Goes (where_some next (λ p. if added p then goes_on p else refused p) s) more
    → ((p : Pending) → next ≡ Some p → added p ≡ true → Goes (goes_on p) more → Goes s (p ∷ (adds p ++ more)))
    → ((p : Pending) → next ≡ Some p → Goes (refused p) more → Goes s more)
    → Goes s (where_some next (λ p. if added p then p ∷ adds p else []) [] ++ more)
goes-next s None goes_on refused adds added more so some none = so
goes-next s (Some p) goes_on refused adds added more so some none = by (added p) refl so
  where
    by : (t : Bool) → added p ≡ t → Goes (if t then goes_on p else refused p) more → Goes s ((if t then p ∷ adds p else []) ++ more)
    by true any rest = some p refl any rest
    by false any rest = none p refl rest

goes-within : (n : ℕ) (face : Face) (s : Standing) (more : List Pending) → Goes (resumes_within n face s) more → Goes s (added_in n face s ++ more)
unfolding resumes_within added_in
goes-within zero face s more so = so
goes-within (suc n) face s more so =
    goes-next s (next_resumed face s) (λ p. resumes_within n face (resumed p s)) (λ p. tries p s) (λ p. added_in n face (resumed p s)) (λ p. is_added p s) more so
    (λ p next any rest.
    let one = try-it face s p next in
    let all = goes-within n face (resumed p s) more rest in
    let ps = added_in n face (resumed p s) ++ more in
    record {
      free = (one.free, free-before p s one ps all.free);
      once = (others-before p s one any ps all.free, all.once);
    })
    (λ p next rest. let one = try-it face s p next in record { free = free-before p s one more rest.free; once = rest.once })

-- ---- at both faces

all-join : (journal : Option Journalled) (xs ys : List Pending) → AllPending journal xs → AllPending journal ys → AllPending journal (xs ++ ys)
all-join journal [] ys all more = more
all-join journal (x ∷ xs) ys (first, all) more = (first, all-join journal xs ys all more)

adds-again : (s : Standing) → AddsAgain s
adds-again s =
    let middle = resumes_at faces.Old s in
    let old = leaves-within (pending_in s.journal) faces.Old s in
    let new = leaves-within (pending_in middle.journal) faces.New middle in
    let both = quiet-then s.journal middle.journal (resumes s).journal old.quiet new.quiet in
    let second = subst (Goes middle) (append-nil (added_at faces.New middle)) (goes-within (pending_in middle.journal) faces.New middle [] (goes-none (resumes s))) in
    record {
      events = map-append event_of (resumed_at faces.Old s) (resumed_at faces.New middle)
          ∙ (ap (λ es. es ++ map event_of (resumed_at faces.New middle)) (events-within (pending_in s.journal) faces.Old s)
          ∙ (ap (λ es. map begin_of (tried_at faces.Old s) ++ es) (events-within (pending_in middle.journal) faces.New middle)
          ∙ sym (map-append begin_of (tried_at faces.Old s) (tried_at faces.New middle))));
      pending = all-join s.journal (tried_at faces.Old s) (tried_at faces.New middle) old.pending
          (pending-from s.journal middle.journal (tried_at faces.New middle) (ap pending_of (old.quiet).kept) new.pending);
      once = (goes-within (pending_in s.journal) faces.Old s (added_at faces.New middle) second).once;
      kept = both.kept;
      records = both.records;
    }

pub resumes-what-is-kept : ResumesWhatIsKept
resumes-what-is-kept r came = adds-again (reads came.reading (stands_at r))
