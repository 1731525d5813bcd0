-- In each half pieces of earlier runs are added until there is no room for the next.

use Rattle.std.proofs.Common.{◌≡◌, ℕ, zero, suc, ◌≤◌, Bool, true, false, List, [], ◌∷◌, ◌++◌, length, Option, None, Some, IfSome, if◌then◌else◌, refl, ap, ◌∙◌, sym, subst, arith}
use Rattle.gate_cases.specs.declared.face.Face.{Face}
use Rattle.gate_cases.specs.declared.face.Face.TheVariants as faces
use Rattle.journal_file.specs.declared.kept.Pending.{Pending}
use Rattle.journal_file.specs.Keeping.{same_face}
use Rattle.peer_half.specs.Journals.{Journalled}
use Rattle.peer_half.specs.Standing.{Standing}
use Rattle.peer_half.specs.Parts.{first_pending, first_waiting, is_added, next_resumed, pending_in, reads, resumed, resumes_at, resumes_within, tries, where_some}
use Rattle.peer_half.specs.Runs.{begins_at, stands_at}
use Rattle.peer_half.proofs.ResumeLemmas.{stays-refused}
use Rattle.peer_half.proofs.ToAddLemmas.{to-add-few}
use Rattle.peer_journal_laws.specs.Resumes.{AddsWhileRoomInRuns, HasNoRoom, of_face, still_to_add}
use Rattle.peer_journal_laws.proofs.AgainLemmas.{Ids, adds-halves, adds-within, next-face, starts, tries-it}
use Rattle.peer_journal_laws.proofs.JournalLemmas.{journal-reads}
use Rattle.peer_journal_laws.proofs.StepLemmas.{keeping_of}

-- ---- the next one is the first of those that are still to be added

next-still : (face : Face) (journal : Option Journalled) → first_waiting face journal ≡ first_pending (still_to_add face journal)
next-still face None = refl
next-still face (Some j) = refl

few-still : (face : Face) (journal : Option Journalled) → length (still_to_add face journal) ≤ pending_in journal
few-still face None = omega arith
few-still face (Some j) = to-add-few face (keeping_of j)

none-next : (face : Face) (s : Standing) → next_resumed face s ≡ None → HasNoRoom face s
none-next face s none = subst (λ next. IfSome next (λ p. is_added p s ≡ false)) (sym none) tt

some-next : (face : Face) (s : Standing) (p : Pending) → next_resumed face s ≡ Some p → is_added p s ≡ false → HasNoRoom face s
some-next face s p next refused = subst (λ o. IfSome o (λ q. is_added q s ≡ false)) (sym next) refused

empty-next : (face : Face) (s : Standing) → length (still_to_add face s.journal) ≤ 0 → next_resumed face s ≡ None
empty-next face s few = next-still face s.journal ∙ by (still_to_add face s.journal) few
  where
    by : (ps : List Pending) → length ps ≤ 0 → first_pending ps ≡ None
    by [] few = refl
    by (p ∷ ps) few = absurd (omega (arith, few))

-- ---- one after the other

room-next : (face : Face) (s : Standing) (next : Option Pending) (goes_on refused : Pending → Standing) (added : Pending → Bool) → next_resumed face s ≡ next
    → ((p : Pending) → next ≡ Some p → added p ≡ true → HasNoRoom face (goes_on p)) → ((p : Pending) → next ≡ Some p → added p ≡ false → HasNoRoom face (refused p))
    → HasNoRoom face (where_some next (λ p. if added p then goes_on p else refused p) s)
room-next face s None goes_on refused added is some none = none-next face s is
room-next face s (Some p) goes_on refused added is some none = by (added p) refl
  where
    by : (t : Bool) → added p ≡ t → HasNoRoom face (if t then goes_on p else refused p)
    by true any = some p refl any
    by false any = none p refl any

fewer-still : (face : Face) (p : Pending) (n : ℕ) (before after : List Pending) → same_face p.face face ≡ true → of_face face (p ∷ []) ++ after ≡ before → length before ≤ suc n → length after ≤ n
fewer-still face p n before after of order few =
    let whole : p ∷ after ≡ before = subst (λ (t : Bool). (if t then p ∷ [] else []) ++ after ≡ before) of order in
    let same = ap (λ (ps : List Pending). length ps) whole in omega (arith, same, few)

room-within : (n : ℕ) (face : Face) (s : Standing) → Ids s.journal → length (still_to_add face s.journal) ≤ n → HasNoRoom face (resumes_within n face s)
unfolding resumes_within
room-within zero face s ids few = none-next face s (empty-next face s few)
room-within (suc n) face s ids few =
    room-next face s (next_resumed face s) (λ p. resumes_within n face (resumed p s)) (λ p. tries p s) (λ p. is_added p s) refl
    (λ p next any.
    let one = tries-it face s p ids next in
    room-within n face (resumed p s) one.ids
    (fewer-still face p n (still_to_add face s.journal) (still_to_add face (resumed p s).journal) (next-face face s p next) (one.added any face) few))
    (λ p next refused.
    let one = tries-it face s p ids next in
    some-next face (tries p s) p (next-still face (tries p s).journal ∙ (ap first_pending (one.refused refused face) ∙ (sym (next-still face s.journal) ∙ next))) (stays-refused p s refused))

pub adds-while-room : AddsWhileRoomInRuns
adds-while-room r came legal = (
  room-within (pending_in read.journal) faces.Old read read_ids (few-still faces.Old read.journal),
  room-within (pending_in old.journal) faces.New old old_ids (few-still faces.New old.journal),
)
  where
    read : Standing
    read = reads came.reading (stands_at r)

    old : Standing
    old = resumes_at faces.Old read

    read_ids : Ids read.journal
    read_ids = subst Ids (sym (journal-reads came.reading (stands_at r))) (adds-halves r.board faces.Old r.comes (begins_at r) (starts r legal).ids).ids

    old_ids : Ids old.journal
    old_ids = (adds-within (pending_in read.journal) faces.Old read read_ids).ids
