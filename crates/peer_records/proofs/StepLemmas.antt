-- The records of a step may follow what is kept, and what is known is right after them.
use Rattle.std.proofs.Common.{◌≡◌, ℕ, ◌+◌, ◌^◌, ◌<◌, ◌≤◌, ◌==◌, Bool, true, false, List, [], ◌∷◌, ◌++◌, length, Option, None, Some, IfSome, refl, sym, ap, ◌∙◌, subst, arith}
use Rattle.std.proofs.lemmas.Bool.{eqb-true}
use Rattle.journal_file.specs.declared.kept.Pending.{Pending}
use Rattle.journal_file.specs.declared.kept.Mark.{Mark}
use Rattle.journal_file.specs.Values.{KeptValue, RecordValue}
use Rattle.journal_file.specs.Keeping.{kept_after}
use Rattle.journal_file.specs.Spelling.{MayFollow}
use Rattle.journal_file.proofs.AnewLemmas.{after-append, may-append}
use Rattle.journal_file.proofs.SoundLemmas.{legal-after}
use Rattle.gate_records.specs.declared.named.Named.{Named}
use Rattle.gate_records.specs.Records.{mark_records, marks_after, clear_records}
use Rattle.peer_gateway.specs.Gate.{AddedAt}
use Rattle.peer_records.specs.Happened.{PeerHappened, notes_in, marking}
use Rattle.peer_records.specs.Keeping.{Waiting, PeerKeeping, ids_in, ids_named, ids_pending, one_if, times}
use Rattle.peer_records.specs.Records.{added_records, added_waiting, waits_at, done_records, named_left, begun_records, waiting_with, before_going, all_go, step_records, after_step}
use Rattle.peer_records.specs.Laws.{IsKeeping, AreShort, IsToAdd, AddsWell, Fits, IsHeld}
use Rattle.peer_records.proofs.CountLemmas.{times-append}
use Rattle.peer_records.proofs.PendingLemmas.{pending-some, some-pending, rising-once}
use Rattle.peer_records.proofs.DoneLemmas.{Leaves, ends-follow}
use Rattle.peer_records.proofs.AddedLemmas.{waits, waits-some, adds-follow}
use Rattle.peer_records.proofs.GoingLemmas.{holds, all-hold}
use Rattle.peer_records.proofs.MarkLemmas.{mark_part, marks-may, marks-pending}

-- ---- how often an id is held

pub held-parts : (id : ℕ) (named : List Named) (w : Waiting × Waiting) → times id (ids_named named ++ (ids_in w.0 ++ ids_in w.1)) ≡ times id (ids_named named) + waits id w
held-parts id named w =
    times-append id (ids_named named) (ids_in w.0 ++ ids_in w.1) ∙ ap (λ (n : ℕ). times id (ids_named named) + n) (times-append id (ids_in w.0) (ids_in w.1))

pub held-once : (k : PeerKeeping) → IsKeeping k → (id : ℕ) → IsHeld k id
held-once k is id =
    let within = is.held_once id in
    let once = rising-once 0 id (k.kept).pending (is.legal).pending in record {
      once = omega (arith, within, once);
      pending = λ some. some-pending id (k.kept).pending (omega (arith, within, some));
    }

-- ---- what is added

-- after ends, and with what is added
record Added (kept : KeptValue) (records : List RecordValue) (left : List Named) (v : Waiting × Waiting) : Type 0 where
  may : MayFollow kept records
  marks : (kept_after kept records).marks ≡ kept.marks
  within : (id : ℕ) → times id (ids_named left) + waits id v ≤ times id (ids_pending (kept_after kept records).pending)

added-new : (kept : KeptValue) (added : List AddedAt) (left : List Named) (w : Waiting × Waiting) → kept.greatest + length added < 2 ^ 64 → AreShort added
    → ((id : ℕ) → times id (ids_named left) + waits id w ≤ times id (ids_pending kept.pending))
    → Added kept (begun_records kept.greatest added) left (waiting_with kept.greatest added w)
added-new kept added left w small short within =
    let adds = adds-follow kept added w small short in record {
      may = adds.may;
      marks = adds.marks;
      within = λ id. let more = adds.besides id in let before = within id in omega (arith, more, before);
    }

added-again : (kept : KeptValue) (id : ℕ) (added : List AddedAt) (left : List Named) (w : Waiting × Waiting)
    → ((i : ℕ) → times i (ids_named left) + waits i w ≤ times i (ids_pending kept.pending))
    → times id (ids_named left) + waits id w + 1 ≤ times id (ids_pending kept.pending)
    → Added kept [] left (added_waiting (Some id) kept.greatest added w)
added-again kept id [] left w within free = record { may = tt; marks = refl; within = within }
added-again kept id (a ∷ more) left w within free = record { may = tt; marks = refl; within = one }
  where
    by : (i : ℕ) (t : Bool) → (id == i) ≡ t → times i (ids_named left) + (waits i w + one_if t) ≤ times i (ids_pending kept.pending)
    by i true same = let is = eqb-true id i same in let all = rw is at free in omega (arith, all)
    by i false other = let before = within i in omega (arith, before)

    one : (i : ℕ) → times i (ids_named left) + waits i (waits_at a.face (Some id) w) ≤ times i (ids_pending kept.pending)
    one i = let all = by i (id == i) refl in let more = waits-some i id a.face w in omega (arith, all, more)

free-still : (k : PeerKeeping) (again : Option ℕ) (left : List Named) (pending : List Pending) → IfSome again (IsToAdd k)
    → ((id besides : ℕ) → times id (ids_named k.named) + besides ≤ times id (ids_pending (k.kept).pending) → times id (ids_named left) + besides ≤ times id (ids_pending pending))
    → IfSome again (λ id. times id (ids_named left) + waits id k.waiting + 1 ≤ times id (ids_pending pending))
free-still k None left pending is within = tt
free-still k (Some id) left pending is within =
    let parts = held-parts id k.named k.waiting in
    let free = is.free in
    let there = pending-some id (k.kept).pending is.pending in
    let still = within id (waits id k.waiting + 1) (omega (arith, parts, free, there)) in omega (arith, still)

added-any : (again : Option ℕ) (k : PeerKeeping) (kept : KeptValue) (added : List AddedAt) (left : List Named) → kept.greatest ≡ (k.kept).greatest → AddsWell again added k
    → ((id : ℕ) → times id (ids_named left) + waits id k.waiting ≤ times id (ids_pending kept.pending))
    → ((id besides : ℕ) → times id (ids_named k.named) + besides ≤ times id (ids_pending (k.kept).pending) → times id (ids_named left) + besides ≤ times id (ids_pending kept.pending))
    → Added kept (added_records again kept.greatest added) left (added_waiting again kept.greatest added k.waiting)
added-any None k kept added left same well within still =
    added-new kept added left k.waiting (subst (λ (g : ℕ). g + length added < 2 ^ 64) (sym same) well.0) well.1 within
added-any (Some id) k kept added left same well within still =
    added-again kept id added left k.waiting within (free-still k (Some id) left kept.pending well still)

-- ---- all of them

record Steps (h : PeerHappened) (k : PeerKeeping) : Type 0 where
  may : MayFollow k.kept (step_records h k)
  within : (id : ℕ) → holds id (before_going h k) ≤ times id (ids_pending (kept_after k.kept (step_records h k)).pending)

step-follows : (h : PeerHappened) (k : PeerKeeping) → IsKeeping k → Fits h k → Steps h k
unfolding step_records
step-follows h k is fits =
    let ended = done_records h.is_open (notes_in h.told) k.named in
    let left : List Named = named_left h.is_open (notes_in h.told) k.named in
    let pieces = added_records h.again (k.kept).greatest h.added in
    let marks = mark_part h k.kept in
    let one : Leaves k.kept ended k.named left = ends-follow k.kept h.is_open (notes_in h.told) k.named is.legal
    (λ id. let within = is.held_once id in let parts = held-parts id k.named k.waiting in omega (arith, within, parts)) in
    let kept1 : KeptValue = kept_after k.kept ended in
    let legal1 = legal-after k.kept ended is.legal one.may in
    let two : Added kept1 pieces left (added_waiting h.again (k.kept).greatest h.added k.waiting) =
    subst (λ (g : ℕ). Added kept1 (added_records h.again g h.added) left (added_waiting h.again g h.added k.waiting)) one.greatest
    (added-any h.again k kept1 h.added left one.greatest fits.added
    (λ id. one.within id (waits id k.waiting) (let within = is.held_once id in let parts = held-parts id k.named k.waiting in omega (arith, within, parts))) one.within) in
    let kept2 : KeptValue = kept_after kept1 pieces in
    let legal2 = legal-after kept1 pieces legal1 two.may in
    let three : MayFollow kept2 marks = marks-same h k.kept kept2 (two.marks ∙ one.marks) (marks-may h kept2 legal2 fits.wall fits.sessions) in
    let rest : kept_after k.kept (ended ++ (pieces ++ marks)) ≡ kept_after kept2 marks = after-append k.kept ended (pieces ++ marks) ∙ after-append kept1 pieces marks in
    let pending : (kept_after k.kept (ended ++ (pieces ++ marks))).pending ≡ kept2.pending = ap (λ (j : KeptValue). j.pending) rest ∙ marks-pending h k.kept kept2 in record {
      may = may-append k.kept ended (pieces ++ marks) one.may (may-append kept1 pieces marks two.may three);
      within = λ id. subst (λ (ps : List Pending). times id (ids_named left) + waits id (added_waiting h.again (k.kept).greatest h.added k.waiting) ≤ times id (ids_pending ps)) (sym pending) (two.within id);
    }
  where
    marks-same : (h : PeerHappened) (a b : KeptValue) → b.marks ≡ a.marks → MayFollow b (mark_part h b) → MayFollow b (mark_part h a)
    marks-same h a b same may =
        subst (λ (ms : List Mark). MayFollow b (mark_records (marking h) h.out ms ++ clear_records (marking h) (marks_after (marking h) h.out ms))) same may

pub step-may-follow : (h : PeerHappened) (k : PeerKeeping) → IsKeeping k → Fits h k → MayFollow k.kept (step_records h k) × IsKeeping (after_step h k)
unfolding after_step
step-may-follow h k is fits =
    let steps = step-follows h k is fits in
    let after = all_go h.begun (before_going h k) in (
      steps.may,
      record {
        legal = legal-after k.kept (step_records h k) is.legal steps.may;
        held_once = λ id.
            let parts = held-parts id after.named after.waiting in
            let same = all-hold id h.begun (before_going h k) in
            let within = steps.within id in omega (arith, parts, same, within);
      },
    )
