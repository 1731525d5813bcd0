-- Each piece that is added is pending after the step, and held.
use Rattle.std.proofs.Common.{◌≡◌, ℕ, ◌+◌, ◌<◌, Bool, true, false, if◌then◌else◌, List, [], ◌∷◌, ◌++◌, None, Some, refl, sym, ap, ◌∙◌, append_assoc, arith}
use Rattle.std.proofs.lemmas.Bool.{eq-eqb}
use Rattle.std.proofs.lemmas.List.{append-nil}
use Rattle.journal_file.specs.declared.kept.Pending.{Pending}
use Rattle.journal_file.specs.Values.{KeptValue, a_begun}
use Rattle.journal_file.specs.Keeping.{kept_with, kept_after}
use Rattle.journal_file.proofs.AnewLemmas.{after-append}
use Rattle.peer_gateway.specs.Gate.{AddedAt}
use Rattle.peer_records.specs.Happened.{PeerHappened, notes_in}
use Rattle.peer_records.specs.Keeping.{Waiting, PeerKeeping, one_if}
use Rattle.peer_records.specs.Records.{pending_with, begun_records, added_waiting, waits_at, waiting_with, done_records, before_going, all_go, step_records, after_step}
use Rattle.peer_records.specs.Laws.{IsKeptPiece}
use Rattle.peer_records.proofs.AddedLemmas.{waits, waits-some, waits-grow}
use Rattle.peer_records.proofs.GoingLemmas.{all-hold}
use Rattle.peer_records.proofs.MarkLemmas.{mark_part, marks-pending}
use Rattle.peer_records.proofs.StepLemmas.{held-parts}

-- the pieces that are added, in order
unfoldable pieces : ℕ → List AddedAt → List Pending
pieces greatest [] = []
pieces greatest (a ∷ more) =
    if a.is_report then pieces greatest more else pending_with (greatest + 1) a ∷ pieces (greatest + 1) more

added-pending : (kept : KeptValue) (greatest : ℕ) (added : List AddedAt)
    → (kept_after kept (begun_records greatest added)).pending ≡ kept.pending ++ pieces greatest added
unfolding begun_records pieces kept_with
added-pending kept greatest [] = sym (append-nil kept.pending)
added-pending kept greatest (a ∷ more) =
    by a.is_report (added-pending kept greatest more)
    (added-pending (kept_with kept (a_begun (pending_with (greatest + 1) a))) (greatest + 1) more
    ∙ append_assoc kept.pending (pending_with (greatest + 1) a ∷ []) (pieces (greatest + 1) more))
  where
    by : (t : Bool) → (kept_after kept (begun_records greatest more)).pending ≡ kept.pending ++ pieces greatest more
        → (kept_after kept (a_begun (pending_with (greatest + 1) a) ∷ begun_records (greatest + 1) more)).pending
        ≡ kept.pending ++ pending_with (greatest + 1) a ∷ pieces (greatest + 1) more
        → (kept_after kept (if t then begun_records greatest more else a_begun (pending_with (greatest + 1) a) ∷ begun_records (greatest + 1) more)).pending
        ≡ kept.pending ++ (if t then pieces greatest more else pending_with (greatest + 1) a ∷ pieces (greatest + 1) more)
    by true report piece = report
    by false report piece = piece

-- ---- a piece among them

record Among (a : AddedAt) (ps : List Pending) (waited : Waiting × Waiting → Waiting × Waiting) : Type 0 where
  id : ℕ
  earlier : List Pending
  later : List Pending
  pending : ps ≡ earlier ++ pending_with id a ∷ later
  waits_on : (w : Waiting × Waiting) → 0 < waits id (waited w)

waits-self : (x greatest : ℕ) (a : AddedAt) (more : List AddedAt) (w : Waiting × Waiting) → 0 < waits x (waiting_with greatest more (waits_at a.face (Some x) w))
waits-self x greatest a more w =
    let grow = waits-grow x greatest more (waits_at a.face (Some x) w) in
    let one = waits-some x x a.face w in
    let self = ap (λ (b : Bool). one_if b) (eq-eqb x x refl) in omega (arith, grow, one, self)

among : (greatest : ℕ) (before : List AddedAt) (a : AddedAt) (after : List AddedAt) → a.is_report ≡ false
    → Among a (pieces greatest (before ++ a ∷ after)) (waiting_with greatest (before ++ a ∷ after))
unfolding pieces waiting_with
among greatest [] a after piece = rw piece (record {
  id = greatest + 1;
  earlier = [];
  later = pieces (greatest + 1) after;
  pending = refl;
  waits_on = λ w. waits-self (greatest + 1) (greatest + 1) a after w;
})
among greatest (b ∷ before) a after piece =
    by b.is_report (among greatest before a after piece) (among (greatest + 1) before a after piece)
  where
    by : (t : Bool) → Among a (pieces greatest (before ++ a ∷ after)) (waiting_with greatest (before ++ a ∷ after))
        → Among a (pieces (greatest + 1) (before ++ a ∷ after)) (waiting_with (greatest + 1) (before ++ a ∷ after))
        → Among a (if t then pieces greatest (before ++ a ∷ after) else pending_with (greatest + 1) b ∷ pieces (greatest + 1) (before ++ a ∷ after))
        (λ w. if t then waiting_with greatest (before ++ a ∷ after) (waits_at b.face None w)
        else waiting_with (greatest + 1) (before ++ a ∷ after) (waits_at b.face (Some (greatest + 1)) w))
    by true report other = record { id = report.id; earlier = report.earlier; later = report.later; pending = report.pending; waits_on = λ w. report.waits_on (waits_at b.face None w) }
    by false report other = record {
      id = other.id;
      earlier = pending_with (greatest + 1) b ∷ other.earlier;
      later = other.later;
      pending = ap (λ (l : List Pending). pending_with (greatest + 1) b ∷ l) other.pending;
      waits_on = λ w. other.waits_on (waits_at b.face (Some (greatest + 1)) w);
    }

-- ---- after the step

step-pending : (h : PeerHappened) (k : PeerKeeping) → h.again ≡ None
    → (kept_after k.kept (step_records h k)).pending
    ≡ (kept_after k.kept (done_records h.is_open (notes_in h.told) k.named)).pending ++ pieces (k.kept).greatest h.added
unfolding step_records
step-pending h k none = rw none (
    let ended = done_records h.is_open (notes_in h.told) k.named in
    let begun = begun_records (k.kept).greatest h.added in
    let marks = mark_part h k.kept in
    ap (λ (j : KeptValue). j.pending) (after-append k.kept ended (begun ++ marks) ∙ after-append (kept_after k.kept ended) begun marks)
    ∙ marks-pending h k.kept (kept_after (kept_after k.kept ended) begun)
    ∙ added-pending (kept_after k.kept ended) (k.kept).greatest h.added)

pub pieces-are-pending : (h : PeerHappened) (k : PeerKeeping) (before : List AddedAt) (a : AddedAt) (after : List AddedAt)
    → h.again ≡ None → h.added ≡ before ++ a ∷ after → a.is_report ≡ false → IsKeptPiece a (after_step h k)
unfolding after_step
pieces-are-pending h k before a after none is piece =
    let there = among (k.kept).greatest before a after piece in
    let ended : List Pending = (kept_after k.kept (done_records h.is_open (notes_in h.told) k.named)).pending in
    let gone = all_go h.begun (before_going h k) in
    let waits_on : 0 < waits there.id (added_waiting h.again (k.kept).greatest h.added k.waiting) = rw (none, is) (there.waits_on k.waiting) in
    let parts = held-parts there.id gone.named gone.waiting in
    let same = all-hold there.id h.begun (before_going h k) in record {
      id = there.id;
      earlier = ended ++ there.earlier;
      later = there.later;
      pending = step-pending h k none ∙ ap (λ (l : List AddedAt). ended ++ pieces (k.kept).greatest l) is ∙ ap (λ (l : List Pending). ended ++ l) there.pending
          ∙ sym (append_assoc ended there.earlier (pending_with there.id a ∷ there.later));
      is_held = omega (arith, waits_on, parts, same);
    }
