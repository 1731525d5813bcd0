-- An id of a run is at one place, and its piece is pending while it is.

use Rattle.std.proofs.Common.{◌≡◌, ℕ, ◌+◌, ◌-◌, ◌<◌, ◌≤◌, Bool, true, false, ◌==◌, List, [], ◌∷◌, ◌++◌, Option, None, Some, IfSome, if◌then◌else◌, refl, ap, ◌∙◌, sym, subst, arith, inl, inr}
use Rattle.std.proofs.lemmas.Bool.{eq-eqb, eqb-true, ne_eqb}
use Rattle.gate_cases.specs.declared.face.Face.{Face}
use Rattle.gateway_core.specs.declared.effects.FaceNote.{FaceNote}
use Rattle.gate_events.specs.Own.{OpenAt}
use Rattle.journal_file.specs.declared.kept.Pending.{Pending}
use Rattle.journal_file.specs.declared.record.How.{How}
use Rattle.journal_file.specs.Values.{KeptValue, a_begun, a_done}
use Rattle.journal_file.specs.Keeping.{kept_after, kept_with}
use Rattle.journal_file.specs.Legal.{IsLegal}
use Rattle.journal_file.proofs.AnewLemmas.{after-append}
use Rattle.gate_records.specs.declared.named.Named.{Named}
use Rattle.gate_records.specs.Happened.{note_ends}
use Rattle.peer_gateway.specs.Gate.{AddedAt}
use Rattle.peer_records.specs.Happened.{PeerHappened, notes_in}
use Rattle.peer_records.specs.Keeping.{PeerKeeping, Waiting, held, ids_named, ids_pending, one_if, starts_peer_keeping, times}
use Rattle.peer_records.specs.Laws.{IsHeld}
use Rattle.peer_records.specs.Records.{added_records, added_waiting, after_step, all_done, begun_records, done_records, end_done, end_leaves, ids_of, named_left, others_than, pending_with, step_records, waits_at, waiting_again, waiting_with}
use Rattle.peer_records.specs.Said.{AreRising}
use Rattle.peer_records.proofs.AddedLemmas.{waits, waits-none, waits-some}
use Rattle.peer_records.proofs.CountLemmas.{named-apart}
use Rattle.peer_records.proofs.MarkLemmas.{mark_part, marks-pending}
use Rattle.peer_records.proofs.PendingLemmas.{one-gone, pending-append, some-pending}
use Rattle.peer_records.proofs.StepLemmas.{held-parts}
use Rattle.peer_records.proofs.ToAddLemmas.{held-after}
use Rattle.peer_half.specs.Journals.{Journalled, anew_in, recovered_in, starts_journal}
use Rattle.peer_half.specs.Half.{hears}
use Rattle.peer_half.specs.Parts.{reserves}
use Rattle.peer_half.specs.Runs.{Run, begins_at, stands_at}
use Rattle.peer_journal_laws.specs.Pieces.{HeldOnceInRuns, IsAmong}
use Rattle.peer_journal_laws.specs.Steps.{JournalStep, known_then, steps_of}
use Rattle.peer_journal_laws.proofs.GoneLemmas.{IsSound, sound-moves, sound-step, starts-sound}
use Rattle.peer_journal_laws.proofs.JournalLemmas.{journal-begins}
use Rattle.peer_journal_laws.proofs.PieceLemmas.{moves-pending}
use Rattle.peer_journal_laws.proofs.StepLemmas.{AddsFree, Chain, IsFree, Moves, Over, keeping_of, over-run}

-- how often an id is pending
abbrev kept_times : ℕ → KeptValue → ℕ
kept_times id kept = times id (ids_pending kept.pending)

-- ---- pieces that end

done-less : (id : ℕ) (how : How) (ids : List ℕ) (kept : KeptValue) → kept_times id (kept_after kept (all_done how ids)) ≡ kept_times id kept - times id ids
unfolding kept_with times
done-less id how [] kept = omega arith
done-less id how (x ∷ ids) kept =
    let rest = done-less id how ids (kept_with kept (a_done x how)) in
    let one = one-gone id x kept.pending in omega (arith, rest, one)

-- with others that are held besides, none is held more often than it is pending
ends-one : (id besides : ℕ) (is_open : OpenAt) (at : Face) (end : Option (ℕ × How)) (named : List Named) (kept : KeptValue) → times id (ids_named named) + besides ≤ kept_times id kept
    → times id (ids_named (end_leaves is_open at end named)) + besides ≤ kept_times id (kept_after kept (end_done is_open at end named))
ends-one id besides is_open at None named kept low = low
ends-one id besides is_open at (Some end) named kept low = by (is_open at end.0)
  where
    by : (t : Bool) → times id (ids_named (if t then named else others_than at end.0 named)) + besides
        ≤ kept_times id (kept_after kept (if t then [] else all_done end.1 (ids_of at end.0 named)))
    by true = low
    by false =
        let parts = named-apart id at end.0 named in
        let less = done-less id end.1 (ids_of at end.0 named) kept in omega (arith, parts, less, low)

ends-all : (id besides : ℕ) (is_open : OpenAt) (notes : List FaceNote) (named : List Named) (kept : KeptValue) → times id (ids_named named) + besides ≤ kept_times id kept
    → times id (ids_named (named_left is_open notes named)) + besides ≤ kept_times id (kept_after kept (done_records is_open notes named))
unfolding done_records named_left
ends-all id besides is_open [] named kept low = low
ends-all id besides is_open (n ∷ notes) named kept low =
    let rs = end_done is_open n.face (note_ends n.note) named in
    let mid = end_leaves is_open n.face (note_ends n.note) named in
    subst (λ (k : KeptValue). times id (ids_named (named_left is_open notes mid)) + besides ≤ kept_times id k) (sym (after-append kept rs (done_records is_open notes mid)))
    (ends-all id besides is_open notes mid (kept_after kept rs) (ends-one id besides is_open n.face (note_ends n.note) named kept low))

-- ---- pieces that are added

begun-more : (id : ℕ) (added : List AddedAt) (given : ℕ) (kept : KeptValue) (w : Waiting × Waiting)
    → waits id (waiting_with given added w) + kept_times id kept ≡ waits id w + kept_times id (kept_after kept (begun_records given added))
unfolding begun_records waiting_with kept_with times
begun-more id [] given kept w = refl
begun-more id (a ∷ added) given kept w =
    by a.is_report (begun-more id added given kept (waits_at a.face None w)) (begun-more id added (given + 1) begun (waits_at a.face (Some (given + 1)) w))
  where
    p : Pending
    p = pending_with (given + 1) a

    begun : KeptValue
    begun = kept_with kept (a_begun p)

    by : (t : Bool)
        → waits id (waiting_with given added (waits_at a.face None w)) + kept_times id kept ≡ waits id (waits_at a.face None w) + kept_times id (kept_after kept (begun_records given added))
        → waits id (waiting_with (given + 1) added (waits_at a.face (Some (given + 1)) w)) + kept_times id begun
        ≡ waits id (waits_at a.face (Some (given + 1)) w) + kept_times id (kept_after begun (begun_records (given + 1) added))
        → waits id (if t then waiting_with given added (waits_at a.face None w) else waiting_with (given + 1) added (waits_at a.face (Some (given + 1)) w)) + kept_times id kept
        ≡ waits id w + kept_times id (kept_after kept (if t then begun_records given added else a_begun p ∷ begun_records (given + 1) added))
    by true report piece = let same = waits-none id a.face w in omega (arith, report, same)
    by false report piece =
        let one = waits-some id (given + 1) a.face w in
        let last = pending-append id kept.pending (p ∷ []) in omega (arith, piece, one, last)

again-most : (id x : ℕ) (added : List AddedAt) (w : Waiting × Waiting) → waits id (waiting_again x added w) ≤ waits id w + one_if (x == id)
again-most id x [] w = omega arith
again-most id x (a ∷ added) w = let one = waits-some id x a.face w in omega (arith, one)

-- ---- a step

pub record IsOnce (k : PeerKeeping) : Type 0 where
  pub sound : IsSound k
  pub within : (id : ℕ) → times id (held k) ≤ kept_times id k.kept

among-times : (p : Pending) (ps : List Pending) → IsAmong p ps → 0 < times p.id (ids_pending ps)
unfolding times
among-times p [] is = absurd is
among-times p (q ∷ ps) (inl here) = by (q.id == p.id) refl
  where
    same : q.id ≡ p.id
    same = ap (λ (x : Pending). x.id) (sym here)

    by : (t : Bool) → (q.id == p.id) ≡ t → 0 < one_if t + times p.id (ids_pending ps)
    by true is = omega arith
    by false is = absurd (unlike (q.id) (p.id) is same)
      where
        unlike : (a b : ℕ) → (a == b) ≡ false → a ≡ b → ⊥
        unlike a b apart e = let yes = eq-eqb a b e in cc
among-times p (q ∷ ps) (inr there) = let more = among-times p ps there in omega (arith, more)

-- with one that is to be added again
again-within : (k : PeerKeeping) (x id : ℕ) → ((i : ℕ) → times i (held k) ≤ kept_times i k.kept) → IsFree k x → times id (held k) + one_if (x == id) ≤ kept_times id k.kept
again-within k x id within free = by (x == id) refl
  where
    by : (t : Bool) → (x == id) ≡ t → times id (held k) + one_if t ≤ kept_times id k.kept
    by true is =
        let e = eqb-true x id is in
        let none : times id (held k) ≡ 0 = subst (λ (n : ℕ). times n (held k) ≡ 0) e free.free in
        let some : 0 < kept_times id k.kept = subst (λ (n : ℕ). 0 < kept_times n k.kept) (free.same ∙ e) (among-times free.piece (k.kept).pending free.there) in
        omega (arith, none, some)
    by false is = let low = within id in omega (arith, low)

added-within : (id : ℕ) (again : Option ℕ) (added : List AddedAt) (k : PeerKeeping) (left : List Named) (kept : KeptValue)
    → ((besides : ℕ) → times id (ids_named k.named) + besides ≤ kept_times id k.kept → times id (ids_named left) + besides ≤ kept_times id kept)
    → ((i : ℕ) → times i (held k) ≤ kept_times i k.kept) → IfSome again (IsFree k)
    → times id (ids_named left) + waits id (added_waiting again (k.kept).greatest added k.waiting) ≤ kept_times id (kept_after kept (added_records again (k.kept).greatest added))
added-within id None added k left kept ends within adds =
    let parts = held-parts id k.named k.waiting in
    let low = within id in
    let before = ends (waits id k.waiting) (omega (arith, parts, low)) in
    let more = begun-more id added (k.kept).greatest kept k.waiting in omega (arith, before, more)
added-within id (Some x) added k left kept ends within free =
    let parts = held-parts id k.named k.waiting in
    let low = again-within k x id within free in
    let before = ends (waits id k.waiting + one_if (x == id)) (omega (arith, parts, low)) in
    let most = again-most id x added k.waiting in omega (arith, before, most)

step-pending : (h : PeerHappened) (k : PeerKeeping) → ((after_step h k).kept).pending
    ≡ (kept_after (kept_after k.kept (done_records h.is_open (notes_in h.told) k.named)) (added_records h.again (k.kept).greatest h.added)).pending
unfolding after_step step_records
step-pending h k =
    let ended = done_records h.is_open (notes_in h.told) k.named in
    let pieces = added_records h.again (k.kept).greatest h.added in
    ap (λ (j : KeptValue). j.pending) (after-append k.kept ended (pieces ++ mark_part h k.kept) ∙ after-append (kept_after k.kept ended) pieces (mark_part h k.kept))
    ∙ marks-pending h k.kept (kept_after (kept_after k.kept ended) pieces)

once-step : (step : JournalStep) → AddsFree step → IsOnce step.keeping → IsOnce (known_then step)
once-step step adds is = record {
  sound = sound-step step adds is.sound;
  within = λ id.
      let h = step.happened in
      let k = step.keeping in
      let all = held-after h k id in
      let kept = kept_after k.kept (done_records h.is_open (notes_in h.told) k.named) in
      let most = added-within id h.again h.added k (named_left h.is_open (notes_in h.told) k.named) kept
      (λ besides low. ends-all id besides h.is_open (notes_in h.told) k.named k.kept low) is.within adds in
      let pending = ap (λ (ps : List Pending). times id (ids_pending ps)) (step-pending h k) in
      omega (arith, all, most, pending);
}

once-moves : (from to : PeerKeeping) → Moves from to → IsOnce from → IsOnce to
once-moves from to so is = record {
  sound = sound-moves from to so is.sound;
  within = λ id.
      let same : times id (held to) ≡ times id (held from) = rw (so.named_is, so.waiting_is) refl in
      let pending = ap (λ (ps : List Pending). times id (ids_pending ps)) (moves-pending from to so) in
      let low = is.within id in omega (arith, same, pending, low);
}

once-after : (from to : PeerKeeping) (earlier : List JournalStep) (step : JournalStep) (later : List JournalStep) → Chain from (earlier ++ step ∷ later) to → IsOnce from → IsOnce (known_then step)
once-after from to [] step later so is = once-step step so.1.0 (once-moves from step.keeping so.0 is)
once-after from to (x ∷ earlier) step later so is = once-after (known_then x) to earlier step later so.1.1 (once-step x so.1.0 (once-moves from x.keeping so.0 is))

-- ---- so each is at one place

rising-few : (n id : ℕ) (ps : List Pending) → AreRising n ps → id ≤ n → times id (ids_pending ps) ≡ 0
unfolding times
rising-few n id [] rise le = refl
rising-few n id (p ∷ ps) (above, rise) le =
    let apart : (p.id == id) ≡ false = ne_eqb p.id id (λ e. omega (arith, e, le, above)) in
    let none = rising-few p.id id ps rise (omega (arith, le, above)) in rw apart (omega (arith, none))

rising-most : (n id : ℕ) (ps : List Pending) → AreRising n ps → times id (ids_pending ps) ≤ 1
unfolding times
rising-most n id [] rise = omega arith
rising-most n id (p ∷ ps) (above, rise) = by (p.id == id) refl (rising-most p.id id ps rise)
  where
    by : (t : Bool) → (p.id == id) ≡ t → times id (ids_pending ps) ≤ 1 → one_if t + times id (ids_pending ps) ≤ 1
    by true is most = let e = eqb-true p.id id is in let none = rising-few p.id id ps rise (omega (arith, e)) in omega (arith, none)
    by false is most = omega (arith, most)

once-held : (k : PeerKeeping) → IsOnce k → (id : ℕ) → IsHeld k id
once-held k is id =
    let low = is.within id in
    let most = rising-most 0 id (k.kept).pending ((is.sound).ordered).rising in record {
      once = omega (arith, low, most);
      pending = λ some. some-pending id (k.kept).pending (omega (arith, low, some));
    }

-- ---- a run

none-held : (kept : KeptValue) (id : ℕ) → times id (held (starts_peer_keeping kept)) ≤ kept_times id kept
unfolding times
none-held kept id = omega arith

starts-once : (r : Run) (j : Journalled) → IfSome r.kept IsLegal → (begins_at r).journal ≡ Some j → IsOnce (keeping_of j)
starts-once r j legal begins = record { sound = starts-sound r j legal begins; within = by r.kept (sym (journal-begins r) ∙ begins) }
  where
    within_in : Option Journalled → Type 0
    within_in o = IfSome o (λ i. (id : ℕ) → times id (held (keeping_of i)) ≤ kept_times id (keeping_of i).kept)

    by : (kept : Option KeptValue) → anew_in (starts_journal r.file r.wall kept) ≡ Some j → (id : ℕ) → times id (held (keeping_of j)) ≤ kept_times id (keeping_of j).kept
    by None is = absurd (cc)
    by (Some kept) is = subst within_in is (λ id. none-held (recovered_in r.file r.wall kept) id)

no-step : (earlier : List JournalStep) (step : JournalStep) (later : List JournalStep) → earlier ++ step ∷ later ≡ [] → ⊥
no-step [] step later is = cc
no-step (x ∷ earlier) step later is = cc

pub held-once-in-runs : HeldOnceInRuns
held-once-in-runs r face came legal earlier step later steps_are id =
    by (begins_at r).journal refl (reserves (hears face came (stands_at r))).journal (over-run r face came)
  where
    by : (from : Option Journalled) → (begins_at r).journal ≡ from → (to : Option Journalled) → Over from (steps_of face came r) to → IsHeld (known_then step) id
    by None begins to over = absurd (no-step earlier step later (sym steps_are ∙ over.0))
    by (Some j) begins None over = absurd over
    by (Some j) begins (Some i) over =
        once-held (known_then step)
        (once-after (keeping_of j) (keeping_of i) earlier step later (subst (λ xs. Chain (keeping_of j) xs (keeping_of i)) steps_are over) (starts-once r j legal begins)) id
