-- A piece whose session ended is pending no longer, from then on.

use Rattle.std.proofs.Common.{◌≡◌, ℕ, zero, suc, ◌+◌, ◌<◌, ◌≤◌, Bool, true, false, ◌==◌, ◌||◌, List, [], ◌∷◌, ◌++◌, Option, None, Some, IfSome, if◌then◌else◌, refl, ap, ◌∙◌, sym, subst, arith, inl, inr}
use Rattle.std.proofs.lemmas.Bool.{eqb-true, ne_eqb}
use Rattle.std.specs.List.{filter, list_any}
use Rattle.gate_cases.specs.declared.face.Face.{Face}
use Rattle.gate_cases.specs.declared.face.Face.TheVariants as faces
use Rattle.gateway_core.specs.declared.effects.FaceNote.{FaceNote}
use Rattle.gate_events.specs.Own.{OpenAt}
use Rattle.journal_file.specs.declared.kept.Pending.{Pending}
use Rattle.journal_file.specs.declared.record.How.{How}
use Rattle.journal_file.specs.Values.{KeptValue, RecordValue, a_begun, a_done, a_mark, a_clear, a_reserved}
use Rattle.journal_file.specs.Keeping.{has_id, kept_after, kept_with}
use Rattle.journal_file.specs.Legal.{AreUpTo, IsLegal}
use Rattle.journal_file.proofs.AnewLemmas.{after-append}
use Rattle.gate_records.specs.declared.named.Named.{Named}
use Rattle.gate_records.specs.Happened.{note_ends}
use Rattle.gate_records.specs.Laws.{ends_of, is_end}
use Rattle.gate_records.specs.Records.{marks_after}
use Rattle.gate_records.proofs.PendingLemmas.{pending-any}
use Rattle.gate_records.proofs.LeaveLemmas.{AreApart, apart-pending, others-apart}
use Rattle.peer_gateway.specs.Gate.{AddedAt}
use Rattle.peer_records.specs.Happened.{PeerHappened, marking, notes_in}
use Rattle.peer_records.specs.Keeping.{PeerKeeping, Waiting, held, ids_named, one_if, times}
use Rattle.peer_records.specs.Records.{added_records, added_waiting, after_step, all_done, begun_records, done_records, end_done, end_leaves, ended_records, ids_of, named_left, others_than, over_records, pending_with, piece_records, report_records, step_records, waits_at, waiting_again, waiting_with}
use Rattle.peer_records.specs.Said.{AreRising, IsOrdered}
use Rattle.peer_records.proofs.AddedLemmas.{waits, waits-none, waits-some}
use Rattle.peer_records.proofs.CountLemmas.{named-apart}
use Rattle.peer_records.proofs.LeaveLemmas.{notes-done}
use Rattle.peer_records.proofs.OrderLemmas.{one-out, other, rising-some}
use Rattle.peer_records.proofs.RecordingLemmas.{ends-greatest}
use Rattle.peer_records.proofs.StepLemmas.{held-parts}
use Rattle.peer_records.proofs.ToAddLemmas.{after-it, apart-greatest, begun-rising, held-after}
use Rattle.peer_half.specs.Journals.{Journalled, anew_in, starts_journal}
use Rattle.peer_half.specs.Runs.{Run, begins_at}
use Rattle.peer_journal_laws.specs.Pieces.{EndedAreGone, EndsPiece, IsAmong}
use Rattle.peer_journal_laws.specs.Steps.{JournalStep, known_then}
use Rattle.peer_journal_laws.proofs.AgainLemmas.{moves-ordered}
use Rattle.peer_journal_laws.proofs.JournalLemmas.{journal-begins}
use Rattle.peer_journal_laws.proofs.PieceLemmas.{moves-pending, reserved-apart}
use Rattle.peer_journal_laws.proofs.StepLemmas.{AddsFree, Chain, IsFree, Moves, keeping_of, known-run}

-- ---- an id that isn't pending

abbrev among : ℕ → List Pending → Bool
among id ps = list_any (has_id id) ps

abbrev either : Bool → Bool → Bool
either a b = a || b

neither : (a b : Bool) → either a b ≡ false → (a ≡ false) × (b ≡ false)
neither true b is = absurd (cc)
neither false b is = (refl, is)

gone-push : (id : ℕ) (p : Pending) (ps : List Pending) → (p.id == id) ≡ false → among id ps ≡ false → among id (ps ++ p ∷ []) ≡ false
gone-push id p [] apart none = ap (λ (t : Bool). either t false) apart
gone-push id p (q ∷ ps) apart none =
    let parts = neither (has_id id q) (among id ps) none in
    ap (λ (t : Bool). either t (among id (ps ++ p ∷ []))) parts.0 ∙ gone-push id p ps apart parts.1

gone-some : (id : ℕ) (test : Pending → Bool) (ps : List Pending) → among id ps ≡ false → among id (filter test ps) ≡ false
gone-some id test [] none = refl
gone-some id test (q ∷ ps) none =
    let parts = neither (has_id id q) (among id ps) none in by (test q) parts.0 (gone-some id test ps parts.1)
  where
    by : (t : Bool) → has_id id q ≡ false → among id (filter test ps) ≡ false → among id (if t then q ∷ filter test ps else filter test ps) ≡ false
    by true apart rest = ap (λ (u : Bool). either u (among id (filter test ps))) apart ∙ rest
    by false apart rest = rest

-- where ids rise, none has an id once its own is out
out-gone : (id : ℕ) (ps : List Pending) → among id (filter (other id) ps) ≡ false
out-gone id [] = refl
out-gone id (q ∷ ps) = by (q.id == id) refl (out-gone id ps)
  where
    by : (t : Bool) → (q.id == id) ≡ t → among id (filter (other id) ps) ≡ false
        → among id (filter (other id) (q ∷ ps)) ≡ false
    by true is rest = rw is rest
    by false is rest = rw (is, is) rest

abbrev Gone : ℕ → KeptValue → Type 0
Gone id kept = among id kept.pending ≡ false

done-rising : (kept : KeptValue) (j : ℕ) (how : How) → AreRising 0 kept.pending → AreRising 0 (kept_with kept (a_done j how)).pending
unfolding kept_with
done-rising kept j how rise =
    subst (λ (ps : List Pending). AreRising 0 ps) (sym (one-out j 0 kept.pending rise)) (rising-some (other j) 0 kept.pending rise)

gone-done : (id : ℕ) (kept : KeptValue) (j : ℕ) (how : How) → AreRising 0 kept.pending → Gone id kept → Gone id (kept_with kept (a_done j how))
unfolding kept_with
gone-done id kept j how rise none =
    ap (among id) (one-out j 0 kept.pending rise) ∙ gone-some id (other j) kept.pending none

done-gone : (id : ℕ) (kept : KeptValue) (j : ℕ) (how : How) → AreRising 0 kept.pending → j ≡ id → Gone id (kept_with kept (a_done j how))
unfolding kept_with
done-gone id kept j how rise same =
    ap (among id) (one-out j 0 kept.pending rise) ∙ ap (λ (x : ℕ). among id (filter (other x) kept.pending)) same ∙ out-gone id kept.pending

-- records that only end pieces
abbrev AreDone : List RecordValue → Type 0
AreDone [] = Unit {0}
AreDone (a_begun p ∷ rs) = ⊥
AreDone (a_done j how ∷ rs) = AreDone rs
AreDone (a_mark m ∷ rs) = ⊥
AreDone (a_clear face session ∷ rs) = ⊥
AreDone (a_reserved face n ∷ rs) = ⊥

abbrev ends_one : ℕ → List RecordValue → Bool
ends_one id rs = list_any (λ said. is_end id (ends_of said)) rs

gone-dones : (id : ℕ) (kept : KeptValue) (rs : List RecordValue) → AreDone rs → AreRising 0 kept.pending → Gone id kept → Gone id (kept_after kept rs)
gone-dones id kept [] are rise none = none
gone-dones id kept (a_begun p ∷ rs) are rise none = absurd are
gone-dones id kept (a_done j how ∷ rs) are rise none =
    gone-dones id (kept_with kept (a_done j how)) rs are (done-rising kept j how rise) (gone-done id kept j how rise none)
gone-dones id kept (a_mark m ∷ rs) are rise none = absurd are
gone-dones id kept (a_clear face session ∷ rs) are rise none = absurd are
gone-dones id kept (a_reserved face n ∷ rs) are rise none = absurd are

dones-gone : (id : ℕ) (kept : KeptValue) (rs : List RecordValue) → AreDone rs → AreRising 0 kept.pending → ends_one id rs ≡ true → Gone id (kept_after kept rs)
dones-gone id kept [] are rise ends = absurd (cc)
dones-gone id kept (a_begun p ∷ rs) are rise ends = absurd are
dones-gone id kept (a_done j how ∷ rs) are rise ends =
    by (j == id) refl ends (λ later. dones-gone id (kept_with kept (a_done j how)) rs are (done-rising kept j how rise) later)
  where
    by : (t : Bool) → (j == id) ≡ t → either t (ends_one id rs) ≡ true → (ends_one id rs ≡ true → Gone id (kept_after (kept_with kept (a_done j how)) rs))
        → Gone id (kept_after (kept_with kept (a_done j how)) rs)
    by true same is rest =
        gone-dones id (kept_with kept (a_done j how)) rs are (done-rising kept j how rise) (done-gone id kept j how rise (eqb-true j id same))
    by false apart is rest = rest is
dones-gone id kept (a_mark m ∷ rs) are rise ends = absurd are
dones-gone id kept (a_clear face session ∷ rs) are rise ends = absurd are
dones-gone id kept (a_reserved face n ∷ rs) are rise ends = absurd are

done-join : (rs qs : List RecordValue) → AreDone rs → AreDone qs → AreDone (rs ++ qs)
done-join [] qs are be = be
done-join (a_begun p ∷ rs) qs are be = absurd are
done-join (a_done j how ∷ rs) qs are be = done-join rs qs are be
done-join (a_mark m ∷ rs) qs are be = absurd are
done-join (a_clear face session ∷ rs) qs are be = absurd are
done-join (a_reserved face n ∷ rs) qs are be = absurd are

all-are-done : (how : How) (ids : List ℕ) → AreDone (all_done how ids)
all-are-done how [] = tt
all-are-done how (id ∷ ids) = all-are-done how ids

end-is-done : (is_open : OpenAt) (face : Face) (end : Option (ℕ × How)) (named : List Named) → AreDone (end_done is_open face end named)
end-is-done is_open face None named = tt
end-is-done is_open face (Some end) named = by (is_open face end.0)
  where
    by : (t : Bool) → AreDone (if t then [] else all_done end.1 (ids_of face end.0 named))
    by true = tt
    by false = all-are-done end.1 (ids_of face end.0 named)

ends-are-done : (is_open : OpenAt) (notes : List FaceNote) (named : List Named) → AreDone (done_records is_open notes named)
unfolding done_records
ends-are-done is_open [] named = tt
ends-are-done is_open (n ∷ notes) named =
    let mid = end_leaves is_open n.face (note_ends n.note) named in
    done-join (end_done is_open n.face (note_ends n.note) named) (done_records is_open notes mid) (end-is-done is_open n.face (note_ends n.note) named) (ends-are-done is_open notes mid)

-- ---- what is begun has an id above all before

gone-begun : (id : ℕ) (added : List AddedAt) (kept : KeptValue) (given : ℕ) → id ≤ given → Gone id kept → Gone id (kept_after kept (begun_records given added))
unfolding begun_records kept_with
gone-begun id [] kept given le none = none
gone-begun id (a ∷ added) kept given le none =
    by a.is_report (gone-begun id added kept given le none) (gone-begun id added (kept_with kept (a_begun p)) (given + 1) (omega (arith, le)) (gone-push id p kept.pending apart none))
  where
    p : Pending
    p = pending_with (given + 1) a

    apart : (p.id == id) ≡ false
    apart = ne_eqb (given + 1) id (λ e. omega (arith, e, le))

    by : (t : Bool) → Gone id (kept_after kept (begun_records given added)) → Gone id (kept_after (kept_with kept (a_begun p)) (begun_records (given + 1) added))
        → Gone id (kept_after kept (if t then begun_records given added else a_begun p ∷ begun_records (given + 1) added))
    by true report piece = report
    by false report piece = piece

gone-added : (id : ℕ) (again : Option ℕ) (added : List AddedAt) (kept : KeptValue) (given : ℕ) → id ≤ given → Gone id kept
    → Gone id (kept_after kept (added_records again given added))
gone-added id None added kept given le none = gone-begun id added kept given le none
gone-added id (Some other_id) added kept given le none = none

-- ---- the greatest id that was given

abbrev given_with : ℕ → List AddedAt → ℕ
given_with given [] = given
given_with given (a ∷ added) = if a.is_report then given_with given added else given_with (given + 1) added

abbrev given_after : Option ℕ → ℕ → List AddedAt → ℕ
given_after None given added = given_with given added
given_after (Some id) given added = given

given-up : (given : ℕ) (added : List AddedAt) → given ≤ given_with given added
given-up given [] = omega arith
given-up given (a ∷ added) = by a.is_report (given-up given added) (given-up (given + 1) added)
  where
    by : (t : Bool) → given ≤ given_with given added → given + 1 ≤ given_with (given + 1) added → given ≤ (if t then given_with given added else given_with (given + 1) added)
    by true same more = same
    by false same more = omega (arith, more)

begun-greatest : (added : List AddedAt) (kept : KeptValue) (given : ℕ) → kept.greatest ≡ given → (kept_after kept (begun_records given added)).greatest ≡ given_with given added
unfolding begun_records kept_with
begun-greatest [] kept given is = is
begun-greatest (a ∷ added) kept given is =
    by a.is_report (begun-greatest added kept given is) (begun-greatest added (kept_with kept (a_begun (pending_with (given + 1) a))) (given + 1) refl)
  where
    p : Pending
    p = pending_with (given + 1) a

    by : (t : Bool) → (kept_after kept (begun_records given added)).greatest ≡ given_with given added
        → (kept_after (kept_with kept (a_begun p)) (begun_records (given + 1) added)).greatest ≡ given_with (given + 1) added
        → (kept_after kept (if t then begun_records given added else a_begun p ∷ begun_records (given + 1) added)).greatest
        ≡ (if t then given_with given added else given_with (given + 1) added)
    by true report piece = report
    by false report piece = piece

added-greatest : (again : Option ℕ) (added : List AddedAt) (kept : KeptValue) (given : ℕ) → kept.greatest ≡ given
    → (kept_after kept (added_records again given added)).greatest ≡ given_after again given added
added-greatest None added kept given is = begun-greatest added kept given is
added-greatest (Some id) added kept given is = is

-- ---- a step: what is kept after its ends, its pieces, and the rest

abbrev rest_records : PeerHappened → PeerKeeping → List RecordValue
rest_records h k = report_records h k ++ over_records h k

rest-apart : (h : PeerHappened) (k : PeerKeeping) → AreApart (rest_records h k)
rest-apart h k = others-apart (marking h) h.out (k.kept).marks (marks_after (marking h) h.out (k.kept).marks)

abbrev kept_ended : PeerHappened → PeerKeeping → KeptValue
kept_ended h k = kept_after k.kept (ended_records h k)

abbrev kept_added : PeerHappened → PeerKeeping → KeptValue
kept_added h k = kept_after (kept_ended h k) (piece_records h k)

step-kept : (h : PeerHappened) (k : PeerKeeping) → (after_step h k).kept ≡ kept_after (kept_added h k) (rest_records h k)
unfolding after_step step_records
step-kept h k =
    after-append k.kept (ended_records h k) (piece_records h k ++ rest_records h k) ∙ after-append (kept_ended h k) (piece_records h k) (rest_records h k)

step-greatest : (h : PeerHappened) (k : PeerKeeping) → ((after_step h k).kept).greatest ≡ given_after h.again (k.kept).greatest h.added
step-greatest h k =
    ap (λ (j : KeptValue). j.greatest) (step-kept h k)
    ∙ apart-greatest (kept_added h k) (rest_records h k) (rest-apart h k)
    ∙ added-greatest h.again h.added (kept_ended h k) (k.kept).greatest (ends-greatest k.kept h.is_open (notes_in h.told) k.named)

given-more : (again : Option ℕ) (given : ℕ) (added : List AddedAt) → given ≤ given_after again given added
given-more None given added = given-up given added
given-more (Some id) given added = omega arith

gone-rest : (id : ℕ) (h : PeerHappened) (k : PeerKeeping) → id ≤ (k.kept).greatest → Gone id (kept_ended h k) → Gone id (after_step h k).kept
gone-rest id h k le none =
    ap (λ (j : KeptValue). among id j.pending) (step-kept h k)
    ∙ ap (among id) (apart-pending (kept_added h k) (rest_records h k) (rest-apart h k))
    ∙ gone-added id h.again h.added (kept_ended h k) (k.kept).greatest le none

gone-step : (id : ℕ) (h : PeerHappened) (k : PeerKeeping) → IsOrdered k.kept → id ≤ (k.kept).greatest → Gone id k.kept → Gone id (after_step h k).kept
gone-step id h k is le none =
    gone-rest id h k le (gone-dones id k.kept (ended_records h k) (ends-are-done h.is_open (notes_in h.told) k.named) is.rising none)

step-gone : (id : ℕ) (step : JournalStep) → IsOrdered (step.keeping).kept → id ≤ ((step.keeping).kept).greatest → EndsPiece id step → Gone id (known_then step).kept
step-gone id step is le ends =
    let h = step.happened in
    let k = step.keeping in
    gone-rest id h k le (dones-gone id k.kept (ended_records h k) (ends-are-done h.is_open (notes_in h.told) k.named) is.rising
    (subst (λ (ns : List FaceNote). ends_one id (done_records h.is_open ns k.named) ≡ true) (sym ends.noted)
    (notes-done h.is_open ends.earlier ends.note ends.later ends.session ends.how k.named id ends.tells ends.closed ends.has)))

-- ---- an id that is held was given

abbrev IsGiven : PeerKeeping → Type 0
IsGiven k = (id : ℕ) → 0 < times id (held k) → id ≤ (k.kept).greatest

pub record IsSound (k : PeerKeeping) : Type 0 where
  pub ordered : IsOrdered k.kept
  pub given : IsGiven k

named-fewer : (id : ℕ) (is_open : OpenAt) (notes : List FaceNote) (named : List Named) → times id (ids_named (named_left is_open notes named)) ≤ times id (ids_named named)
unfolding named_left
named-fewer id is_open [] named = omega arith
named-fewer id is_open (n ∷ notes) named =
    let mid = end_leaves is_open n.face (note_ends n.note) named in
    let rest = named-fewer id is_open notes mid in
    let first = one n.face (note_ends n.note) in
    omega (arith, rest, first)
  where
    one : (at : Face) (end : Option (ℕ × How)) → times id (ids_named (end_leaves is_open at end named)) ≤ times id (ids_named named)
    one at None = omega arith
    one at (Some end) = by (is_open at end.0)
      where
        by : (t : Bool) → times id (ids_named (if t then named else others_than at end.0 named)) ≤ times id (ids_named named)
        by true = omega arith
        by false = let parts = named-apart id at end.0 named in omega (arith, parts)

one-is : (a b : ℕ) → 0 < one_if (a == b) → a ≡ b
one-is a b some = by (a == b) refl some
  where
    by : (t : Bool) → (a == b) ≡ t → 0 < one_if t → a ≡ b
    by true is some = eqb-true a b is
    by false is some = absurd (omega (arith, some))

waits-given : (id : ℕ) (added : List AddedAt) (given : ℕ) (w : Waiting × Waiting) → (0 < waits id w → id ≤ given) → 0 < waits id (waiting_with given added w) → id ≤ given_with given added
unfolding waiting_with
waits-given id [] given w low some = low some
waits-given id (a ∷ added) given w low some =
    by a.is_report some
    (λ more. waits-given id added given (waits_at a.face None w) (λ waited. low (subst (λ (n : ℕ). 0 < n) (waits-none id a.face w) waited)) more)
    (λ more. waits-given id added (given + 1) (waits_at a.face (Some (given + 1)) w) next more)
  where
    next : 0 < waits id (waits_at a.face (Some (given + 1)) w) → id ≤ given + 1
    next waited = by_old (waits id w) refl
      where
        by_old : (n : ℕ) → waits id w ≡ n → id ≤ given + 1
        by_old n is = by_some (given + 1 == id) refl
          where
            by_some : (t : Bool) → (given + 1 == id) ≡ t → id ≤ given + 1
            by_some true same = let e = eqb-true (given + 1) id same in omega (arith, e)
            by_some false apart =
                let parts = waits-some id (given + 1) a.face w in
                let none = ap (λ (t : Bool). one_if t) apart in
                let old = low (omega (arith, waited, parts, none)) in omega (arith, old)

    by : (t : Bool) → 0 < waits id (if t then waiting_with given added (waits_at a.face None w) else waiting_with (given + 1) added (waits_at a.face (Some (given + 1)) w))
        → (0 < waits id (waiting_with given added (waits_at a.face None w)) → id ≤ given_with given added)
        → (0 < waits id (waiting_with (given + 1) added (waits_at a.face (Some (given + 1)) w)) → id ≤ given_with (given + 1) added)
        → id ≤ (if t then given_with given added else given_with (given + 1) added)
    by true some report piece = report some
    by false some report piece = piece some

again-given : (id x : ℕ) (added : List AddedAt) (given : ℕ) (w : Waiting × Waiting) → x ≤ given → (0 < waits id w → id ≤ given) → 0 < waits id (waiting_again x added w) → id ≤ given
again-given id x [] given w le low some = low some
again-given id x (a ∷ added) given w le low some = by (x == id) refl
  where
    by : (t : Bool) → (x == id) ≡ t → id ≤ given
    by true same = let e = eqb-true x id same in omega (arith, e, le)
    by false apart =
        let parts = waits-some id x a.face w in
        let none = ap (λ (t : Bool). one_if t) apart in
        low (omega (arith, some, parts, none))

among-up-to : (n : ℕ) (ps : List Pending) (p : Pending) → AreUpTo n ps → IsAmong p ps → p.id ≤ n
among-up-to n [] p up is = absurd is
among-up-to n (q ∷ ps) p (first, up) (inl here) = subst (λ (x : Pending). x.id ≤ n) (sym here) first
among-up-to n (q ∷ ps) p (first, up) (inr there) = among-up-to n ps p up there

added-given : (id : ℕ) (again : Option ℕ) (added : List AddedAt) (k : PeerKeeping) → IsOrdered k.kept → IfSome again (IsFree k)
    → (0 < waits id k.waiting → id ≤ (k.kept).greatest) → 0 < waits id (added_waiting again (k.kept).greatest added k.waiting) → id ≤ given_after again (k.kept).greatest added
added-given id None added k is adds low some = waits-given id added (k.kept).greatest k.waiting low some
added-given id (Some x) added k is adds low some =
    again-given id x added (k.kept).greatest k.waiting
    (subst (λ (n : ℕ). n ≤ (k.kept).greatest) adds.same (among-up-to (k.kept).greatest (k.kept).pending adds.piece is.up_to adds.there)) low some

pub sound-step : (step : JournalStep) → AddsFree step → IsSound step.keeping → IsSound (known_then step)
sound-step step adds is = record { ordered = (after-it h k faces.Old is.ordered).ordered; given = given }
  where
    h : PeerHappened
    h = step.happened

    k : PeerKeeping
    k = step.keeping

    named : (id : ℕ) → 0 < times id (ids_named k.named) → id ≤ (k.kept).greatest
    named id some = let parts = held-parts id k.named k.waiting in is.given id (omega (arith, some, parts))

    waited : (id : ℕ) → 0 < waits id k.waiting → id ≤ (k.kept).greatest
    waited id some = let parts = held-parts id k.named k.waiting in is.given id (omega (arith, some, parts))

    given : (id : ℕ) → 0 < times id (held (after_step h k)) → id ≤ ((after_step h k).kept).greatest
    given id some = subst (λ (n : ℕ). id ≤ n) (sym (step-greatest h k)) (by (times id (ids_named k.named)) refl)
      where
        all : times id (held (after_step h k)) ≡ times id (ids_named (named_left h.is_open (notes_in h.told) k.named)) + waits id (added_waiting h.again (k.kept).greatest h.added k.waiting)
        all = held-after h k id

        few : times id (ids_named (named_left h.is_open (notes_in h.told) k.named)) ≤ times id (ids_named k.named)
        few = named-fewer id h.is_open (notes_in h.told) k.named

        more : (k.kept).greatest ≤ given_after h.again (k.kept).greatest h.added
        more = given-more h.again (k.kept).greatest h.added

        by : (n : ℕ) → times id (ids_named k.named) ≡ n → id ≤ given_after h.again (k.kept).greatest h.added
        by zero none =
            added-given id h.again h.added k is.ordered adds (waited id) (omega (arith, some, all, few, none))
        by (suc n) there = let low = named id (omega (arith, there)) in omega (arith, low, more)

-- ---- between steps, and over them

pub moves-greatest : (from to : PeerKeeping) → Moves from to → (to.kept).greatest ≡ (from.kept).greatest
moves-greatest from to so = ap (λ (k : KeptValue). k.greatest) so.kept_is ∙ apart-greatest from.kept so.records (reserved-apart so.records so.reserved)

pub sound-moves : (from to : PeerKeeping) → Moves from to → IsSound from → IsSound to
sound-moves from to so is = record {
  ordered = moves-ordered from to so is.ordered;
  given = λ id some. subst (λ (n : ℕ). id ≤ n) (sym (moves-greatest from to so)) (is.given id (subst (λ (n : ℕ). 0 < n) (same id) some));
}
  where
    same : (id : ℕ) → times id (held to) ≡ times id (held from)
    same id = rw (so.named_is, so.waiting_is) refl

-- before a step of a chain
sound-before : (from to : PeerKeeping) (earlier : List JournalStep) (step : JournalStep) (later : List JournalStep) → Chain from (earlier ++ step ∷ later) to → IsSound from
    → IsSound step.keeping × (AddsFree step × Chain (known_then step) later to)
sound-before from to [] step later so is = (sound-moves from step.keeping so.0 is, so.1)
sound-before from to (x ∷ earlier) step later so is =
    sound-before (known_then x) to earlier step later so.1.1 (sound-step x so.1.0 (sound-moves from x.keeping so.0 is))

gone-chain : (id : ℕ) (from to : PeerKeeping) (steps : List JournalStep) → Chain from steps to → IsSound from → id ≤ (from.kept).greatest → Gone id from.kept → Gone id to.kept
gone-chain id from to [] so is le none = ap (among id) (moves-pending from to so) ∙ none
gone-chain id from to (step ∷ more) so is le none =
    let before = sound-moves from step.keeping so.0 is in
    let low : id ≤ ((step.keeping).kept).greatest = subst (λ (n : ℕ). id ≤ n) (sym (moves-greatest from step.keeping so.0)) le in
    let up = given-more (step.happened).again ((step.keeping).kept).greatest (step.happened).added in
    gone-chain id (known_then step) to more so.1.1 (sound-step step so.1.0 before)
    (subst (λ (n : ℕ). id ≤ n) (sym (step-greatest step.happened step.keeping)) (omega (arith, low, up)))
    (gone-step id step.happened step.keeping before.ordered low (ap (among id) (moves-pending from step.keeping so.0) ∙ none))

-- ---- a run

pub starts-sound : (r : Run) (j : Journalled) → IfSome r.kept IsLegal → (begins_at r).journal ≡ Some j → IsSound (keeping_of j)
unfolding times
starts-sound r j legal begins = by r.kept legal (sym (journal-begins r) ∙ begins)
  where
    sound_in : Option Journalled → Type 0
    sound_in o = IfSome o (λ i. IsSound (keeping_of i))

    by : (kept : Option KeptValue) → IfSome kept IsLegal → anew_in (starts_journal r.file r.wall kept) ≡ Some j → IsSound (keeping_of j)
    by None legal is = absurd (cc)
    by (Some kept) legal is = subst sound_in is (record {
      ordered = record { rising = begun-rising 0 kept.pending legal.pending; up_to = legal.up_to };
      given = λ id some. absurd (omega (arith, some));
    })

pub ended-are-gone : EndedAreGone
ended-are-gone r face came kept legal is earlier step later steps_are id ends =
    let known = known-run r face came kept is in
    let (before, (adds, rest)) = sound-before (keeping_of known.first) known.last earlier step later
    (subst (λ xs. Chain (keeping_of known.first) xs known.last) steps_are known.chain) (starts-sound r known.first legal known.begins) in
    let has = ends.has in
    let parts = named-apart id ends.note.face ends.session (step.keeping).named in
    let all = held-parts id (step.keeping).named (step.keeping).waiting in
    let low = before.given id (omega (arith, has, parts, all)) in
    let up = given-more (step.happened).again ((step.keeping).kept).greatest (step.happened).added in
    pending-any id kept.pending ∙ subst (λ (k : KeptValue). Gone id k) known.kept_is
    (gone-chain id (known_then step) known.last later rest (sound-step step adds before)
    (subst (λ (n : ℕ). id ≤ n) (sym (step-greatest step.happened step.keeping)) (omega (arith, low, up)))
    (step-gone id step before.ordered low ends))
