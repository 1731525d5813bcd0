-- What is told, one after the other, as notes of engines and as blocks that came whole.
use Rattle.std.proofs.Common.{◌≡◌, ℕ, suc, ◌+◌, ◌<◌, ◌≤◌, ◌==◌, ◌||◌, not, Bool, true, false, List, [], ◌∷◌, ◌++◌, length, map, drop, get_or, Option, None, is_some, refl, sym, ap, ◌∙◌}
use Rattle.std.proofs.lemmas.List.{at_drop_more, drop_all}
use Rattle.std.specs.List.{list_any}
use Rattle.gate_cases.specs.declared.face.Face.{Face}
use Rattle.gateway_core.specs.declared.effects.FaceNote.{FaceNote}
use Rattle.gateway_core.specs.declared.note.GateNote.TheVariants as notes
use Rattle.gate_events.specs.Own.{OpenAt}
use Rattle.journal_file.specs.declared.record.How.{How}
use Rattle.gate_records.specs.declared.named.Named.{Named}
use Rattle.gate_records.specs.Happened.{note_ends, came_whole}
use Rattle.gate_records.specs.Ties.{cancels, left_after, cancelled_by, end_cancels, cancels_any, may_be_over}
use Rattle.gate_records.proofs.CancelLemmas.{some-left}
use Rattle.peer_gateway.specs.declared.told.RemarkAt.{RemarkAt}
use Rattle.peer_gateway.specs.Answers.{told_seen}
use Rattle.peer_gateway.specs.Gate.{Told, FaceTold, told_engine, told_forgotten, told_green, told_began, told_bundle, told_case, told_left, told_reported, told_unreported, told_end}
use Rattle.peer_records.specs.Happened.{note_of, up_of, notes_in, ups_in}
use Rattle.peer_records.specs.Records.{end_done, end_leaves, done_records, named_left}
use Rattle.peer_records.specs.Told.{ends_told, whole_told, is_whole, told_of, may_end}

-- ---- what is told once is one note of an engine, or none

data Noted (face : Face) (ns : List FaceNote) (end : Option (ℕ × How)) : Type 0 where
  noted : (n : FaceNote) → ns ≡ n ∷ [] → n.face ≡ face → note_ends n.note ≡ end → Noted face ns end
  unnoted : ns ≡ [] → end ≡ None → Noted face ns end

noted-of : (face : Face) (t : Told) → Noted face (note_of face t) (ends_told t)
noted-of face (told_engine note) = noted (record { face = face; note = notes.Engine note }) refl refl refl
noted-of face (told_forgotten runs) = unnoted refl refl
noted-of face (told_green green) = unnoted refl refl
noted-of face (told_began pieces octets session) = unnoted refl refl
noted-of face (told_bundle subject) = unnoted refl refl
noted-of face (told_case index session case pieces first) = unnoted refl refl
noted-of face (told_left index session left) = unnoted refl refl
noted-of face (told_reported index session report) = unnoted refl refl
noted-of face (told_unreported index session) = unnoted refl refl
noted-of face (told_end index session end) = unnoted refl refl

-- ---- pieces that end

pub done-more : (o : OpenAt) (t : FaceTold) (more : List FaceTold) (named : List Named)
    → done_records o (notes_in (t ∷ more)) named ≡ end_done o t.face (ends_told t.told) named ++ done_records o (notes_in more) (end_leaves o t.face (ends_told t.told) named)
unfolding done_records
done-more o t more named = by (noted-of t.face t.told)
  where
    by : Noted t.face (note_of t.face t.told) (ends_told t.told)
        → done_records o (note_of t.face t.told ++ notes_in more) named ≡ end_done o t.face (ends_told t.told) named ++ done_records o (notes_in more) (end_leaves o t.face (ends_told t.told) named)
    by (noted n ns face end) = rw (ns, face, end) refl
    by (unnoted ns end) = rw (ns, end) refl

pub left-more : (o : OpenAt) (t : FaceTold) (more : List FaceTold) (named : List Named)
    → named_left o (notes_in (t ∷ more)) named ≡ named_left o (notes_in more) (end_leaves o t.face (ends_told t.told) named)
unfolding named_left
left-more o t more named = by (noted-of t.face t.told)
  where
    same : (f : Face) (e : Option (ℕ × How)) → f ≡ t.face → e ≡ ends_told t.told
        → named_left o (notes_in more) (end_leaves o f e named) ≡ named_left o (notes_in more) (end_leaves o t.face (ends_told t.told) named)
    same f e face end = rw (face, end) refl

    by : Noted t.face (note_of t.face t.told) (ends_told t.told)
        → named_left o (note_of t.face t.told ++ notes_in more) named ≡ named_left o (notes_in more) (end_leaves o t.face (ends_told t.told) named)
    by (noted n ns face end) = ap (λ (l : List FaceNote). named_left o (l ++ notes_in more) named) ns ∙ same n.face (note_ends n.note) face end
    by (unnoted ns end) = rw (ns, end) refl

-- ---- whether the sender of a session cancelled it

cancelled-more : (is_open : Bool) (left : ℕ) (face : Face) (session : ℕ) (t : FaceTold) (more : List FaceTold)
    → cancelled_by is_open left face session (notes_in (t ∷ more))
    ≡ (cancels is_open left (told_of face session t) || cancelled_by is_open (left_after is_open left (told_of face session t)) face session (notes_in more))
unfolding cancelled_by
cancelled-more is_open left face session t more = by (noted-of t.face t.told)
  where
    by : Noted t.face (note_of t.face t.told) (ends_told t.told)
        → cancelled_by is_open left face session (note_of t.face t.told ++ notes_in more)
        ≡ (cancels is_open left (told_of face session t) || cancelled_by is_open (left_after is_open left (told_of face session t)) face session (notes_in more))
    by (noted n ns at end) = rw (ns, at, end) refl
    by (unnoted ns end) = rw (ns, end) refl

abbrev seen_by : Bool → ℕ → Face → ℕ → List RemarkAt → Bool
seen_by is_open left face session ts = cancelled_by is_open left face session (notes_in (map told_seen ts))

pub walk-step : (is_open : Bool) (left now : ℕ) (face : Face) (session : ℕ) (ts : List RemarkAt) (i : ℕ) (t : RemarkAt) (whole : Bool) → i < length ts → t ≡ get_or ts i t
    → cancels is_open left (told_of face session (told_seen t)) ≡ false → now ≡ left_after is_open left (told_of face session (told_seen t))
    → seen_by is_open left face session (drop i ts) ≡ whole → seen_by is_open now face session (drop (i + 1) ts) ≡ whole
walk-step is_open left now face session ts i t whole low at quiet is so_far =
    let more = drop (i + 1) ts in
    let step = at_drop_more (λ (xs : List RemarkAt). seen_by is_open left face session xs) ts i t low in
    let one = cancelled-more is_open left face session (told_seen t) (map told_seen more) in
    let rest : cancelled_by is_open left face session (notes_in (map told_seen (t ∷ more)))
    ≡ cancelled_by is_open (left_after is_open left (told_of face session (told_seen t))) face session (notes_in (map told_seen more)) = one ∙ rw quiet refl in
    ap (λ (n : ℕ). seen_by is_open n face session more) is ∙ sym rest
    ∙ ap (λ (x : RemarkAt). seen_by is_open left face session (x ∷ more)) at ∙ sym step ∙ so_far

pub walk-found : (is_open : Bool) (left : ℕ) (face : Face) (session : ℕ) (ts : List RemarkAt) (i : ℕ) (t : RemarkAt) (whole : Bool) → i < length ts → t ≡ get_or ts i t
    → cancels is_open left (told_of face session (told_seen t)) ≡ true
    → seen_by is_open left face session (drop i ts) ≡ whole → true ≡ whole
walk-found is_open left face session ts i t whole low at cancelling so_far =
    let more = drop (i + 1) ts in
    let step = at_drop_more (λ (xs : List RemarkAt). seen_by is_open left face session xs) ts i t low in
    let one = cancelled-more is_open left face session (told_seen t) (map told_seen more) in
    let rest : cancelled_by is_open left face session (notes_in (map told_seen (t ∷ more))) ≡ true = one ∙ rw cancelling refl in
    sym rest ∙ ap (λ (x : RemarkAt). seen_by is_open left face session (x ∷ more)) at ∙ sym step ∙ so_far

pub walk-end : (is_open : Bool) (left : ℕ) (face : Face) (session : ℕ) (ts : List RemarkAt) (i : ℕ) (whole : Bool) → length ts ≤ i
    → seen_by is_open left face session (drop i ts) ≡ whole → false ≡ whole
unfolding cancelled_by
walk-end is_open left face session ts i whole high so_far = sym (ap (λ (xs : List RemarkAt). seen_by is_open left face session xs) (drop_all i ts high)) ∙ so_far

-- ---- whether any session can be over

any-more : (t : FaceTold) (more : List FaceTold) → list_any cancels_any (notes_in (t ∷ more)) ≡ (end_cancels (ends_told t.told) || list_any cancels_any (notes_in more))
any-more t more = by (noted-of t.face t.told)
  where
    by : Noted t.face (note_of t.face t.told) (ends_told t.told)
        → list_any cancels_any (note_of t.face t.told ++ notes_in more) ≡ (end_cancels (ends_told t.told) || list_any cancels_any (notes_in more))
    by (noted n ns face end) = rw (ns, end) refl
    by (unnoted ns end) = rw (ns, end) refl

some-more : (t : FaceTold) (more : List FaceTold) → not (length (ups_in (t ∷ more)) == 0) ≡ (is_some (whole_told t.told) || not (length (ups_in more) == 0))
some-more t more = by t.told
  where
    one : not (suc (length (ups_in more)) == 0) ≡ true
    one = let some = some-left (length (ups_in more)) in rw some refl

    by : (s : Told) → not (length (up_of t.face s ++ ups_in more) == 0) ≡ (is_some (whole_told s) || not (length (ups_in more) == 0))
    by (told_engine note) = refl
    by (told_forgotten runs) = refl
    by (told_green green) = refl
    by (told_began pieces octets session) = refl
    by (told_bundle subject) = refl
    by (told_case index session case pieces first) = one
    by (told_left index session left) = refl
    by (told_reported index session report) = refl
    by (told_unreported index session) = refl
    by (told_end index session end) = one

shuffle : (w u c l : Bool) → ((w || u) || (c || l)) ≡ ((w || c) || (u || l))
shuffle true u c l = refl
shuffle false true true l = refl
shuffle false true false l = refl
shuffle false false true l = refl
shuffle false false false l = refl

may-more : (t : FaceTold) (more : List FaceTold)
    → may_be_over (ups_in (t ∷ more)) (notes_in (t ∷ more)) ≡ (may_end t || may_be_over (ups_in more) (notes_in more))
may-more t more =
    let some = some-more t more in
    let any = any-more t more in
    rw (some, any) (shuffle (is_some (whole_told t.told)) (not (length (ups_in more) == 0)) (end_cancels (ends_told t.told)) (list_any cancels_any (notes_in more)))

pub may-all : (ts : List RemarkAt) → list_any (λ (t : RemarkAt). may_end (told_seen t)) ts ≡ may_be_over (ups_in (map told_seen ts)) (notes_in (map told_seen ts))
may-all [] = refl
may-all (t ∷ ts) = rw (may-all ts) (sym (may-more (told_seen t) (map told_seen ts)))

-- ---- whether the block of a session came whole

whole-more : (face : Face) (session : ℕ) (t : FaceTold) (more : List FaceTold) → came_whole face session (ups_in (t ∷ more)) ≡ (is_whole face session t || came_whole face session (ups_in more))
whole-more face session t more = by t.told
  where
    by : (s : Told) → came_whole face session (up_of t.face s ++ ups_in more) ≡ (is_whole face session (record { face = t.face; told = s }) || came_whole face session (ups_in more))
    by (told_engine note) = refl
    by (told_forgotten runs) = refl
    by (told_green green) = refl
    by (told_began pieces octets number) = refl
    by (told_bundle subject) = refl
    by (told_case index number case pieces first) = refl
    by (told_left index number left) = refl
    by (told_reported index number report) = refl
    by (told_unreported index number) = refl
    by (told_end index number end) = refl

pub whole-all : (face : Face) (session : ℕ) (ts : List RemarkAt) → list_any (λ (t : RemarkAt). is_whole face session (told_seen t)) ts ≡ came_whole face session (ups_in (map told_seen ts))
whole-all face session [] = refl
whole-all face session (t ∷ ts) = rw (whole-all face session ts) (sym (whole-more face session (told_seen t) (map told_seen ts)))

-- ---- either of both

pub or-true : (r w x : Bool) → r ≡ w → r ≡ true → r ≡ (w || x)
or-true r w x is true_is = rw (sym is, true_is) refl

pub or-false : (r w x y : Bool) → r ≡ w → r ≡ false → y ≡ x → y ≡ (w || x)
or-false r w x y is false_is rest = rw (sym is, false_is) rest
