-- What a run adds of earlier runs: over all of its halves each piece once, in the order of their ids.

use Rattle.std.proofs.Common.{◌≡◌, ℕ, zero, suc, ◌<◌, Bool, true, false, ◌==◌, ◌&&◌, List, [], ◌∷◌, ◌++◌, Option, None, Some, IfSome, if◌then◌else◌, refl, ap, ◌∙◌, sym, subst, arith, append_assoc, inl, inr}
use Rattle.std.proofs.lemmas.Bool.{eqb-true, eq-eqb, ne_eqb}
use Rattle.std.specs.List.{AllByRecursion, filter}
use Rattle.ltp_segment.specs.Reading.{segment_of}
use Rattle.gate_cases.specs.declared.face.Face.{Face}
use Rattle.gate_cases.specs.declared.face.Face.TheVariants as faces
use Rattle.gate_cases.specs.Faces.{other_of}
use Rattle.journal_file.specs.declared.kept.Pending.{Pending}
use Rattle.journal_file.specs.Values.{KeptValue}
use Rattle.journal_file.specs.Keeping.{same_face}
use Rattle.journal_file.specs.Legal.{AreUpTo, IsLegal}
use Rattle.peer_gateway.specs.Gate.{AddedAt}
use Rattle.peer_gateway.specs.Steps.{PeerEvent, a_datagram, a_tick}
use Rattle.peer_records.specs.Happened.{PeerHappened}
use Rattle.peer_records.specs.Halves.{recording}
use Rattle.peer_records.specs.Keeping.{PeerKeeping, is_to_add, to_add_at}
use Rattle.peer_records.specs.Laws as keeping
use Rattle.peer_records.specs.Said.{AreRising, IsOrdered}
use Rattle.peer_records.proofs.OrderLemmas.{above-all, other, rising-from, rising-some}
use Rattle.peer_records.proofs.TiedLemmas.{all-to-add}
use Rattle.peer_records.proofs.ToAddLemmas.{After, after-it, apart-greatest, begun-rising}
use Rattle.peer_half.specs.Journals.{Journalled, anew_in, is_large, past_commit, recovered_in, starts_journal}
use Rattle.peer_half.specs.Standing.{Standing}
use Rattle.peer_half.specs.Steps.{happened_in, happens, recorded_with}
use Rattle.peer_half.specs.Parts as parts
use Rattle.peer_half.specs.Parts.{any_added, arrives_all, begin_of, first_pending, first_waiting, is_added, next_resumed, resumed, resumes_within, tries, where_some}
use Rattle.peer_half.specs.Half.{Came, answers, half, hears}
use Rattle.peer_half.specs.Run.{halves}
use Rattle.peer_half.specs.Runs.{Run, begins_at, stands_at}
use Rattle.peer_journal_laws.specs.Pieces.{IsAmong, pending_of}
use Rattle.peer_journal_laws.specs.Resumes.{AddsAgainInOrder, AddsAgainOnce, AreOnce, added_again, added_at, added_by, added_in, added_over, of_face, still_to_add}
use Rattle.peer_journal_laws.proofs.JournalLemmas.{installed_in, journal-answers, journal-arrives, journal-begins, journal-happens, journal-polled, journal-reads, journal-tries}
use Rattle.peer_journal_laws.proofs.PieceLemmas.{moves-pending, reserved-apart}
use Rattle.peer_journal_laws.proofs.StepLemmas.{Moves, keeping_of, passes-among, reserved-moves}

-- ---- a piece among others whose ids rise

among-above : (n : ℕ) (ps : List Pending) (p : Pending) → AreRising n ps → IsAmong p ps → n < p.id
among-above n [] p rise is = absurd is
among-above n (q ∷ ps) p (above, rise) (inl here) = subst (λ (x : Pending). n < x.id) (sym here) above
among-above n (q ∷ ps) p (above, rise) (inr there) = let more = among-above q.id ps p rise there in omega (arith, above, more)

-- without the first of some
first-gone : (n : ℕ) (p : Pending) (more : List Pending) → AreRising n (p ∷ more) → filter (other p.id) (p ∷ more) ≡ more
first-gone n p more (above, rise) = rw (eq-eqb p.id p.id refl) (above-all p.id p.id more (omega arith) rise)

-- others are the same without one that doesn't pass
others-stay : (n : ℕ) (test : Pending → Bool) (ps : List Pending) (p : Pending) → AreRising n ps → IsAmong p ps → test p ≡ false → filter (other p.id) (filter test ps) ≡ filter test ps
others-stay n test [] p rise is fails = absurd is
others-stay n test (q ∷ ps) p (above, rise) (inl here) fails =
    let out : test q ≡ false = subst (λ (x : Pending). test x ≡ false) here fails in
    let same = ap (λ (x : Pending). x.id) here in
    rw out (above-all p.id q.id (filter test ps) (omega (arith, same)) (rising-some test q.id ps rise))
others-stay n test (q ∷ ps) p (above, rise) (inr there) fails = by (test q) (others-stay q.id test ps p rise there fails)
  where
    apart : (q.id == p.id) ≡ false
    apart = let more = among-above q.id ps p rise there in ne_eqb q.id p.id (λ e. omega (arith, e, more))

    by : (t : Bool) → filter (other p.id) (filter test ps) ≡ filter test ps
        → filter (other p.id) (if t then q ∷ filter test ps else filter test ps) ≡ (if t then q ∷ filter test ps else filter test ps)
    by true rest = rw apart (ap (λ (l : List Pending). q ∷ l) rest)
    by false rest = rest

-- ---- where a journal is kept

abbrev pub Ids : Option Journalled → Type 0
Ids None = Unit {0}
Ids (Some j) = IsOrdered (keeping_of j).kept

-- the same are to be added
record Waits (from to : Option Journalled) : Type 0 where
  same : (at : Face) → still_to_add at to ≡ still_to_add at from
  ids : Ids to

waits-on : (journal : Option Journalled) → Ids journal → Waits journal journal
waits-on journal ids = record { same = λ at. refl; ids = ids }

waits-both : (a b c : Option Journalled) → Waits a b → Waits b c → Waits a c
waits-both a b c first second = record { same = λ at. second.same at ∙ first.same at; ids = second.ids }

waits-is : (a b c : Option Journalled) → c ≡ b → Waits a b → Waits a c
waits-is a b c is so = subst (Waits a) (sym is) so

waits-recorded : (h : PeerHappened) (journal : Option Journalled) → h.again ≡ None → Ids journal → Waits journal (recorded_with h journal)
waits-recorded h None new ids = waits-on None tt
waits-recorded h (Some j) new ids = record {
  same = λ at. (after-it h (keeping_of j) at ids).to_add ∙ ap (λ (again : Option ℕ). keeping.still_to_add again h.added (to_add_at at (keeping_of j))) new;
  ids = (after-it h (keeping_of j) faces.Old ids).ordered;
}

waits-happens : (event : PeerEvent) (s : Standing) → Ids s.journal → Waits s.journal (happens event s).journal
waits-happens event s ids =
    let h = happened_in None event s in
    waits-is s.journal (recorded_with h s.journal) (happens event s).journal (journal-happens None event s) (waits-recorded h s.journal refl ids)

waits-arrives : (face : Face) (datagrams : List (List ℕ)) (s : Standing) → Ids s.journal → Waits s.journal (arrives_all face datagrams s).journal
unfolding arrives_all
waits-arrives face [] s ids = waits-on s.journal ids
waits-arrives face (datagram ∷ more) s ids =
    let h = happened_in None (a_datagram face (segment_of datagram)) s in
    let next = parts.arrives face datagram s in
    let first = waits-is s.journal (recorded_with h s.journal) next.journal (journal-arrives face datagram s) (waits-recorded h s.journal refl ids) in
    waits-both s.journal next.journal (arrives_all face more next).journal first (waits-arrives face more next first.ids)

-- numbers are reserved
pub moves-ordered : (k l : PeerKeeping) → Moves k l → IsOrdered k.kept → IsOrdered l.kept
moves-ordered k l so is =
    let pending = moves-pending k l so in
    let greatest : (l.kept).greatest ≡ (k.kept).greatest =
    ap (λ (j : KeptValue). j.greatest) so.kept_is ∙ apart-greatest k.kept so.records (reserved-apart so.records so.reserved) in
    record {
      rising = subst (λ (ps : List Pending). AreRising 0 ps) (sym pending) is.rising;
      up_to = subst (λ (n : ℕ). AreUpTo n (l.kept).pending) (sym greatest) (subst (λ (ps : List Pending). AreUpTo (k.kept).greatest ps) (sym pending) is.up_to);
    }

moves-to-add : (at : Face) (k l : PeerKeeping) → Moves k l → to_add_at at l ≡ to_add_at at k
moves-to-add at k l so = rw (so.waiting_is, so.named_is, moves-pending k l so) refl

waits-reserved : (old_next new_next : ℕ) (journal : Option Journalled) → Ids journal → Waits journal (parts.reserved_in old_next new_next journal)
waits-reserved old_next new_next None ids = waits-on None tt
waits-reserved old_next new_next (Some j) ids =
    let so = reserved-moves old_next new_next j in
    record { same = λ at. moves-to-add at _ _ so; ids = moves-ordered _ _ so ids }

waits-commit : (journal : Option Journalled) → Ids journal → Waits journal (past_commit journal)
waits-commit None ids = waits-on None tt
waits-commit (Some j) ids = record { same = λ at. refl; ids = ids }

waits-install : (large : Bool) (journal : Option Journalled) → Ids journal → Waits journal (if large then anew_in journal else journal)
waits-install true None ids = waits-on None tt
waits-install true (Some j) ids = record { same = λ at. refl; ids = ids }
waits-install false journal ids = waits-on journal ids

-- ---- what is added, and after it what is still to be added

pub record Adds (s after : Standing) (ps : List Pending) : Type 0 where
  pub order : (at : Face) → of_face at ps ++ still_to_add at after.journal ≡ still_to_add at s.journal
  pub ids : Ids after.journal

face-append : (at : Face) (xs ys : List Pending) → of_face at (xs ++ ys) ≡ of_face at xs ++ of_face at ys
face-append at [] ys = refl
face-append at (x ∷ xs) ys = by (same_face x.face at) (face-append at xs ys)
  where
    by : (t : Bool) → of_face at (xs ++ ys) ≡ of_face at xs ++ of_face at ys
        → (if t then x ∷ of_face at (xs ++ ys) else of_face at (xs ++ ys)) ≡ (if t then x ∷ of_face at xs else of_face at xs) ++ of_face at ys
    by true rest = ap (λ (l : List Pending). x ∷ l) rest
    by false rest = rest

adds-none : (s : Standing) → Ids s.journal → Adds s s []
adds-none s ids = record { order = λ at. refl; ids = ids }

adds-both : (s t u : Standing) (xs ys : List Pending) → Adds s t xs → Adds t u ys → Adds s u (xs ++ ys)
adds-both s t u xs ys first second = record {
  order = λ at.
      ap (λ (l : List Pending). l ++ still_to_add at u.journal) (face-append at xs ys)
      ∙ (append_assoc (of_face at xs) (of_face at ys) (still_to_add at u.journal)
      ∙ (ap (λ (l : List Pending). of_face at xs ++ l) (second.order at) ∙ first.order at));
  ids = second.ids;
}

adds-from : (s t u : Standing) (xs : List Pending) → Waits s.journal t.journal → Adds t u xs → Adds s u xs
adds-from s t u xs same so = record { order = λ at. so.order at ∙ same.same at; ids = so.ids }

adds-to : (s t u : Standing) (xs : List Pending) → Adds s t xs → Waits t.journal u.journal → Adds s u xs
adds-to s t u xs so same = record { order = λ at. ap (λ (l : List Pending). of_face at xs ++ l) (same.same at) ∙ so.order at; ids = same.ids }

-- ---- one is to be added

same-place : (a b at : Face) → same_face a b ≡ true → same_face a at ≡ true → b ≡ at
same-place faces.Old faces.Old faces.Old is also = refl
same-place faces.Old faces.Old faces.New is also = absurd (cc)
same-place faces.Old faces.New at is also = absurd (cc)
same-place faces.New faces.Old at is also = absurd (cc)
same-place faces.New faces.New faces.Old is also = absurd (cc)
same-place faces.New faces.New faces.New is also = refl

abbrev to_add : Face → PeerKeeping → Pending → Bool
to_add face k p = same_face p.face face && is_to_add k p

both-first : (a b : Bool) → (a && b) ≡ true → a ≡ true
both-first true b is = refl
both-first false b is = absurd (cc)

still-some : (id : ℕ) (added : List AddedAt) (ps : List Pending) → any_added added ≡ true → keeping.still_to_add (Some id) added ps ≡ filter (other id) ps
still-some id [] ps any = absurd (cc)
still-some id (a ∷ added) ps any = refl

still-none : (id : ℕ) (added : List AddedAt) (ps : List Pending) → any_added added ≡ false → keeping.still_to_add (Some id) added ps ≡ ps
still-none id [] ps none = refl
still-none id (a ∷ added) ps none = absurd (cc)

-- it was added: at its face the others are left, and at the other face all
one-gone : (face : Face) (k : PeerKeeping) (p : Pending) (more : List Pending) → IsOrdered k.kept → to_add_at face k ≡ p ∷ more
    → (at : Face) → of_face at (p ∷ []) ++ filter (other p.id) (to_add_at at k) ≡ to_add_at at k
one-gone face k p more is first at = by (same_face p.face at) refl
  where
    in_them : IsAmong p (k.kept).pending × (to_add face k p ≡ true)
    in_them = passes-among (to_add face k) (k.kept).pending more p first

    rising : (f : Face) → AreRising 0 (to_add_at f k)
    rising f = rising-some (to_add f k) 0 (k.kept).pending is.rising

    here : face ≡ at → p ∷ filter (other p.id) (to_add_at at k) ≡ to_add_at at k
    here same =
        subst (λ (f : Face). p ∷ filter (other p.id) (to_add_at f k) ≡ to_add_at f k) same
        (ap (λ (l : List Pending). p ∷ filter (other p.id) l) first
        ∙ ap (λ (l : List Pending). p ∷ l) (first-gone 0 p more (subst (λ (l : List Pending). AreRising 0 l) first (rising face))) ∙ sym first)

    by : (t : Bool) → same_face p.face at ≡ t → (if t then p ∷ [] else []) ++ filter (other p.id) (to_add_at at k) ≡ to_add_at at k
    by true of = here (same-place p.face face at (both-first (same_face p.face face) (is_to_add k p) in_them.1) of)
    by false apart = others-stay 0 (to_add at k) (k.kept).pending p is.rising in_them.0 (rw apart refl)

-- the next one at a face is of that face
pub next-face : (face : Face) (s : Standing) (p : Pending) → next_resumed face s ≡ Some p → same_face p.face face ≡ true
next-face face s p next = by s.journal next
  where
    by : (journal : Option Journalled) → first_waiting face journal ≡ Some p → same_face p.face face ≡ true
    by None next = absurd (cc)
    by (Some j) next = by_first (to_add_at face (keeping_of j)) refl next
      where
        by_first : (ps : List Pending) → to_add_at face (keeping_of j) ≡ ps → first_pending ps ≡ Some p → same_face p.face face ≡ true
        by_first [] whole first = absurd (cc)
        by_first (q ∷ more) whole first =
            let same : q ≡ p = cc in
            both-first (same_face p.face face) (is_to_add (keeping_of j) p)
            (passes-among (to_add face (keeping_of j)) ((keeping_of j).kept).pending more p (whole ∙ ap (λ (x : Pending). x ∷ more) same)).1

abbrev happened : Pending → Standing → PeerHappened
happened p s = happened_in (Some p.id) (begin_of p) s

pub record Tries (p : Pending) (s : Standing) : Type 0 where
  pub ids : Ids (tries p s).journal
  pub added : is_added p s ≡ true → (at : Face) → of_face at (p ∷ []) ++ still_to_add at (tries p s).journal ≡ still_to_add at s.journal
  pub refused : is_added p s ≡ false → (at : Face) → still_to_add at (tries p s).journal ≡ still_to_add at s.journal

pub tries-it : (face : Face) (s : Standing) (p : Pending) → Ids s.journal → next_resumed face s ≡ Some p → Tries p s
tries-it face s p ids next = by s.journal refl ids next
  where
    by : (journal : Option Journalled) → s.journal ≡ journal → Ids journal → first_waiting face journal ≡ Some p → Tries p s
    by None is ids next = absurd (cc)
    by (Some j) is ids next = by_first (to_add_at face k) refl next
      where
        k : PeerKeeping
        k = keeping_of j

        then_is : (tries p s).journal ≡ Some (record { recorded = recording (happened p s) j.recorded; place = j.place })
        then_is = journal-tries p s ∙ ap (recorded_with (happened p s)) is

        after : (at : Face) → After (happened p s) k at
        after at = after-it (happened p s) k at ids

        still : (at : Face) → still_to_add at (tries p s).journal ≡ keeping.still_to_add (Some p.id) ((happened p s).added) (to_add_at at k)
        still at = ap (still_to_add at) then_is ∙ (after at).to_add

        before : (at : Face) → still_to_add at s.journal ≡ to_add_at at k
        before at = ap (still_to_add at) is

        by_first : (ps : List Pending) → to_add_at face k ≡ ps → first_pending ps ≡ Some p → Tries p s
        by_first [] whole first = absurd (cc)
        by_first (q ∷ more) whole first =
            let same : q ≡ p = cc in
            let whole_is : to_add_at face k ≡ p ∷ more = whole ∙ ap (λ (x : Pending). x ∷ more) same in
            record {
              ids = subst Ids (sym then_is) (after faces.Old).ordered;
              added = λ any at.
                  ap (λ (l : List Pending). of_face at (p ∷ []) ++ l) (still at ∙ still-some p.id (happened p s).added (to_add_at at k) any)
                  ∙ one-gone face k p more ids whole_is at ∙ sym (before at);
              refused = λ none at. still at ∙ still-none p.id (happened p s).added (to_add_at at k) none ∙ sym (before at);
            }

-- ---- one after the other

adds-next : (s : Standing) (next : Option Pending) (goes_on refused : Pending → Standing) (more : Pending → List Pending) (added : Pending → Bool) → Ids s.journal
    → ((p : Pending) → next ≡ Some p → added p ≡ true → Adds s (goes_on p) (p ∷ more p)) → ((p : Pending) → next ≡ Some p → added p ≡ false → Adds s (refused p) [])
    → Adds s (where_some next (λ p. if added p then goes_on p else refused p) s) (where_some next (λ p. if added p then p ∷ more p else []) [])
adds-next s None goes_on refused more added ids some none = adds-none s ids
adds-next s (Some p) goes_on refused more added ids some none = by (added p) refl
  where
    by : (t : Bool) → added p ≡ t → Adds s (if t then goes_on p else refused p) (if t then p ∷ more p else [])
    by true any = some p refl any
    by false any = none p refl any

pub adds-within : (n : ℕ) (face : Face) (s : Standing) → Ids s.journal → Adds s (resumes_within n face s) (added_in n face s)
unfolding resumes_within added_in
adds-within zero face s ids = adds-none s ids
adds-within (suc n) face s ids =
    adds-next s (next_resumed face s) (λ p. resumes_within n face (resumed p s)) (λ p. tries p s) (λ p. added_in n face (resumed p s)) (λ p. is_added p s) ids
    (λ p next any.
    let one = tries-it face s p ids next in
    let first : Adds s (resumed p s) (p ∷ []) = record { order = one.added any; ids = one.ids } in
    adds-both s (resumed p s) (resumes_within n face (resumed p s)) (p ∷ []) (added_in n face (resumed p s)) first (adds-within n face (resumed p s) one.ids))
    (λ p next none. let one = tries-it face s p ids next in record { order = one.refused none; ids = one.ids })

-- ---- a half, and halves

adds-half : (board : Bool) (face : Face) (came : Came) (s : Standing) → Ids s.journal
    → Adds s (half board face came s).standing (added_again (parts.reads came.reading s))
unfolding half
adds-half board face came s ids =
    let read : Standing = parts.reads came.reading s in
    let old : Standing = parts.resumes_at faces.Old read in
    let new : Standing = parts.resumes_at faces.New old in
    let ticked : Standing = parts.ticks new in
    let came_all : Standing = arrives_all face came.datagrams ticked in
    let h : Standing = hears face came s in
    let reserved : Option Journalled = (parts.reserves h).journal in
    let committed : Option Journalled = past_commit reserved in
    let after : Standing = (answers board came h).standing in
    let at_reading = waits-is s.journal s.journal read.journal (journal-reads came.reading s) (waits-on s.journal ids) in
    let first = adds-within (parts.pending_in read.journal) faces.Old read at_reading.ids in
    let second = adds-within (parts.pending_in old.journal) faces.New old first.ids in
    let tick = waits-happens a_tick new second.ids in
    let all = waits-arrives face came.datagrams ticked tick.ids in
    let heard = waits-is came_all.journal came_all.journal h.journal (journal-polled face came.poll_failed came_all) (waits-on came_all.journal all.ids) in
    let kept = waits-reserved (parts.next_at faces.Old h) (parts.next_at faces.New h) h.journal heard.ids in
    let sent = waits-commit reserved kept.ids in
    let anew = waits-install (is_large committed) committed sent.ids in
    let answered = waits-is committed (installed_in committed) after.journal (journal-answers board came h) anew in
    let rest = waits-both new.journal ticked.journal after.journal tick
    (waits-both ticked.journal came_all.journal after.journal all
    (waits-both came_all.journal h.journal after.journal heard
    (waits-both h.journal reserved after.journal kept (waits-both reserved committed after.journal sent answered)))) in
    adds-from s read after (added_again read) at_reading
    (adds-to read new after (added_again read) (adds-both read old new (added_at faces.Old read) (added_at faces.New old) first second) rest)

pub adds-halves : (board : Bool) (face : Face) (comes : List Came) (s : Standing) → Ids s.journal → Adds s (halves board face comes s).standing (added_over board face comes s)
unfolding halves added_over
adds-halves board face [] s ids = adds-none s ids
adds-halves board face (came ∷ more) s ids =
    let now = (half board face came s).standing in
    let first = adds-half board face came s ids in
    adds-both s now (halves board (other_of face) more now).standing (added_again (parts.reads came.reading s)) (added_over board (other_of face) more now)
    first (adds-halves board (other_of face) more now first.ids)

-- ---- a run

pub record Starts (r : Run) : Type 0 where
  pub waiting : (at : Face) → still_to_add at (begins_at r).journal ≡ of_face at (pending_of r.kept)
  pub ids : Ids (begins_at r).journal

pub starts : (r : Run) → IfSome r.kept IsLegal → Starts r
starts r legal =
    let so = by r.kept legal in
    record {
      waiting = λ at. ap (still_to_add at) (journal-begins r) ∙ so.0 at;
      ids = subst Ids (sym (journal-begins r)) so.1;
    }
  where
    by : (kept : Option KeptValue) → IfSome kept IsLegal
        → ((at : Face) → still_to_add at (anew_in (starts_journal r.file r.wall kept)) ≡ of_face at (pending_of kept)) × Ids (anew_in (starts_journal r.file r.wall kept))
    by None legal = ((λ at. refl), tt)
    by (Some kept) legal = ((λ at. all-to-add at (recovered_in r.file r.wall kept)), record { rising = begun-rising 0 kept.pending legal.pending; up_to = legal.up_to })

pub adds-again-in-order : AddsAgainInOrder
adds-again-in-order r legal at =
    let so = starts r legal in
    (adds-halves r.board faces.Old r.comes (begins_at r) so.ids).order at ∙ so.waiting at

-- ---- so each once

abbrev AllOther : ℕ → List Pending → Type 0
AllOther id ps = AllByRecursion (λ (q : Pending). (id == q.id) ≡ false) ps

rise-unique : (n : ℕ) (ps : List Pending) (p q : Pending) → AreRising n ps → IsAmong p ps → IsAmong q ps → p.id ≡ q.id → p ≡ q
rise-unique n [] p q rise is also same = absurd is
rise-unique n (x ∷ ps) p q (above, rise) (inl here) (inl also) same = here ∙ sym also
rise-unique n (x ∷ ps) p q (above, rise) (inl here) (inr there) same =
    let more = among-above x.id ps q rise there in absurd (omega (arith, more, same, ap (λ (y : Pending). y.id) here))
rise-unique n (x ∷ ps) p q (above, rise) (inr there) (inl here) same =
    let more = among-above x.id ps p rise there in absurd (omega (arith, more, same, ap (λ (y : Pending). y.id) here))
rise-unique n (x ∷ ps) p q (above, rise) (inr there) (inr also) same = rise-unique x.id ps p q rise there also same

rise-front : (n : ℕ) (xs ys : List Pending) → AreRising n (xs ++ ys) → AreRising n xs
rise-front n [] ys rise = tt
rise-front n (x ∷ xs) ys (above, rise) = (above, rise-front x.id xs ys rise)

among-front : (p : Pending) (xs ys : List Pending) → IsAmong p xs → IsAmong p (xs ++ ys)
among-front p [] ys is = absurd is
among-front p (x ∷ xs) ys (inl here) = inl here
among-front p (x ∷ xs) ys (inr there) = inr (among-front p xs ys there)

among-face : (at : Face) (p : Pending) (xs : List Pending) → IsAmong p xs → same_face p.face at ≡ true → IsAmong p (of_face at xs)
among-face at p [] is of = absurd is
among-face at p (x ∷ xs) (inl here) of =
    let is : same_face x.face at ≡ true = subst (λ (y : Pending). same_face y.face at ≡ true) here of in
    subst (λ (t : Bool). IsAmong p (if t then x ∷ of_face at xs else of_face at xs)) (sym is) (inl here)
among-face at p (x ∷ xs) (inr there) of = by (same_face x.face at) (among-face at p xs there of)
  where
    by : (t : Bool) → IsAmong p (of_face at xs) → IsAmong p (if t then x ∷ of_face at xs else of_face at xs)
    by true rest = inr rest
    by false rest = rest

record IsOfFace (at : Face) (p : Pending) (xs : List Pending) : Type 0 where
  among : IsAmong p xs
  of : same_face p.face at ≡ true

face-among : (at : Face) (p : Pending) (xs : List Pending) → IsAmong p (of_face at xs) → IsOfFace at p xs
face-among at p [] is = absurd is
face-among at p (x ∷ xs) is = by (same_face x.face at) refl is (λ rest. face-among at p xs rest)
  where
    by : (t : Bool) → same_face x.face at ≡ t → IsAmong p (if t then x ∷ of_face at xs else of_face at xs) → (IsAmong p (of_face at xs) → IsOfFace at p xs) → IsOfFace at p (x ∷ xs)
    by true of (inl here) rest = record { among = inl here; of = subst (λ (y : Pending). same_face y.face at ≡ true) (sym here) of }
    by true of (inr there) rest = let so = rest there in record { among = inr so.among; of = so.of }
    by false of there rest = let so = rest there in record { among = inr so.among; of = so.of }

all-other : (id : ℕ) (xs : List Pending) → ((q : Pending) → IsAmong q xs → (id == q.id) ≡ false) → AllOther id xs
all-other id [] each = tt
all-other id (x ∷ xs) each = (each x (inl refl), all-other id xs (λ q there. each q (inr there)))

abbrev Risen : ℕ → List Pending → Type 0
Risen n xs = (at : Face) → AreRising n (of_face at xs)

abbrev Crossed : List Pending → Type 0
Crossed xs = (p q : Pending) → IsAmong p (of_face faces.Old xs) → IsAmong q (of_face faces.New xs) → (p.id == q.id) ≡ false

same-turned : (a b : ℕ) → (a == b) ≡ false → (b == a) ≡ false
same-turned a b apart = ne_eqb b a (λ e. not-same (sym e))
  where
    not-same : a ≡ b → ⊥
    not-same e = let yes = eq-eqb a b e in absurd (cc)

-- the faces' pieces each in an order of rising ids, and no id at both faces
once-faces : (n : ℕ) (xs : List Pending) → Risen n xs → Crossed xs → AreOnce xs
once-faces n [] rise cross = tt
once-faces n (x ∷ xs) rise cross = (all-other x.id xs first, once-faces n xs rise_left cross_left) where
  with_it : (at : Face) (q : Pending) → IsAmong q (of_face at xs) → IsAmong q (of_face at (x ∷ xs))
  with_it at q there = by (same_face x.face at) where
    by : (t : Bool) → IsAmong q (if t then x ∷ of_face at xs else of_face at xs)
    by true = inr there
    by false = there

  rise_left : Risen n xs
  rise_left at = by (same_face x.face at) (rise at) where
    by : (t : Bool) → AreRising n (if t then x ∷ of_face at xs else of_face at xs) → AreRising n (of_face at xs)
    by true so = let more = so.0 in rising-from n x.id (of_face at xs) (omega (arith, more)) so.1
    by false so = so

  cross_left : Crossed xs
  cross_left p q there also = cross p q (with_it faces.Old p there) (with_it faces.New q also)

  later : (at : Face) → same_face x.face at ≡ true → (q : Pending) → IsAmong q (of_face at xs) → (x.id == q.id) ≡ false
  later at of q there =
      let so = subst (λ (t : Bool). AreRising n (if t then x ∷ of_face at xs else of_face at xs)) of (rise at) in
      let more = among-above x.id (of_face at xs) q so.1 there in ne_eqb x.id q.id (λ e. omega (arith, e, more))

  here : (at : Face) → same_face x.face at ≡ true → IsAmong x (of_face at (x ∷ xs))
  here at of = subst (λ (t : Bool). IsAmong x (if t then x ∷ of_face at xs else of_face at xs)) (sym of) (inl refl)

  is_at : (f at : Face) → f ≡ at → same_face at at ≡ true → same_face f at ≡ true
  is_at f at is self = subst (λ (y : Face). same_face y at ≡ true) (sym is) self

  by_faces : (f g : Face) (q : Pending) → IsAmong q xs → x.face ≡ f → q.face ≡ g → (x.id == q.id) ≡ false
  by_faces faces.Old faces.Old q there is also = later faces.Old (is_at x.face faces.Old is refl) q (among-face faces.Old q xs there (is_at q.face faces.Old also refl))
  by_faces faces.Old faces.New q there is also =
      cross x q (here faces.Old (is_at x.face faces.Old is refl)) (with_it faces.New q (among-face faces.New q xs there (is_at q.face faces.New also refl)))
  by_faces faces.New faces.Old q there is also =
      same-turned q.id x.id
      (cross q x (with_it faces.Old q (among-face faces.Old q xs there (is_at q.face faces.Old also refl))) (here faces.New (is_at x.face faces.New is refl)))
  by_faces faces.New faces.New q there is also = later faces.New (is_at x.face faces.New is refl) q (among-face faces.New q xs there (is_at q.face faces.New also refl))

  first : (q : Pending) → IsAmong q xs → (x.id == q.id) ≡ false
  first q there = by_faces x.face q.face q there refl refl

-- two faces aren't one
not-both : (f : Face) → same_face f faces.Old ≡ true → same_face f faces.New ≡ true → ⊥
not-both faces.Old is also = absurd (cc)
not-both faces.New is also = absurd (cc)

-- fronts of what is pending at each face
cross-fronts : (n : ℕ) (ps xs old new : List Pending) → AreRising n ps → of_face faces.Old xs ++ old ≡ of_face faces.Old ps
    → of_face faces.New xs ++ new ≡ of_face faces.New ps → Crossed xs
cross-fronts n ps xs old new rise is_old is_new p q there also = by (p.id == q.id) refl where
  at_old : IsOfFace faces.Old p ps
  at_old = face-among faces.Old p ps (subst (IsAmong p) is_old (among-front p (of_face faces.Old xs) old there))

  at_new : IsOfFace faces.New q ps
  at_new = face-among faces.New q ps (subst (IsAmong q) is_new (among-front q (of_face faces.New xs) new also))

  by : (t : Bool) → (p.id == q.id) ≡ t → (p.id == q.id) ≡ false
  by false is = is
  by true is =
      let same = rise-unique n ps p q rise at_old.among at_new.among (eqb-true p.id q.id is) in
      absurd (not-both q.face (subst (λ (y : Pending). same_face y.face faces.Old ≡ true) same at_old.of) at_new.of)

legal-rises : (kept : Option KeptValue) → IfSome kept IsLegal → AreRising 0 (pending_of kept)
legal-rises None legal = tt
legal-rises (Some kept) legal = begun-rising 0 kept.pending legal.pending

pub adds-again-once : AddsAgainOnce
adds-again-once r legal =
    let rise = legal-rises r.kept legal in
    let xs = added_by r in
    let ps = pending_of r.kept in
    let old = adds-again-in-order r legal faces.Old in
    let new = adds-again-in-order r legal faces.New in
    once-faces 0 xs
    (λ at. rise-front 0 (of_face at xs) (still_to_add at (stands_at r).journal)
    (subst (AreRising 0) (sym (adds-again-in-order r legal at)) (rising-some (λ (p : Pending). same_face p.face at) 0 ps rise)))
    (cross-fronts 0 ps xs (still_to_add faces.Old (stands_at r).journal) (still_to_add faces.New (stands_at r).journal) rise old new)
