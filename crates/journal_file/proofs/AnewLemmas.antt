-- A file that is made anew of what is kept stands for the same.
use Rattle.std.proofs.Common.{◌≡◌, ℕ, Bool, true, false, nat_lt, if◌then◌else◌, List, [], ◌∷◌, ◌++◌, map, refl, sym, ap, ◌∙◌, append_assoc, arith}
use Rattle.std.proofs.lemmas.Bool.{ltb-false}
use Rattle.std.proofs.lemmas.List.{append-nil}
use Rattle.std.proofs.lemmas.List.Concat.{flat_map-append}
use Rattle.std.specs.List.{flat_map}
use Rattle.gate_cases.specs.declared.face.Face.TheVariants.{Old, New}
use Rattle.journal_file.specs.declared.kept.Pending.{Pending}
use Rattle.journal_file.specs.declared.kept.Mark.{Mark}
use Rattle.journal_file.specs.Values.{KeptValue, RecordValue, a_begun, a_mark, a_reserved, nothing_kept}
use Rattle.journal_file.specs.Keeping.{greater, kept_with, kept_after, with_pending, with_marks}
use Rattle.journal_file.specs.File.{opening}
use Rattle.journal_file.specs.Spelling.{gated, MayFollow, Closes}
use Rattle.journal_file.specs.Anew.{anew, file_of, last_id, but_greatest, AreBegun, AreMarked, IsSound}
use Rattle.journal_file.specs.Ties.{entry_octets, begun_entry, mark_entry, head_octets}
use Rattle.journal_file.proofs.SpellingLemmas.{records-closed}

abbrev begun_all : List Pending → List RecordValue
begun_all pending = map (λ p. a_begun p) pending

abbrev marked_all : List Mark → List RecordValue
marked_all marks = map (λ m. a_mark m) marks

-- ---- what is kept after the records of such a file

pub after-append : (kept : KeptValue) (rs qs : List RecordValue) → kept_after kept (rs ++ qs) ≡ kept_after (kept_after kept rs) qs
after-append kept [] qs = refl
after-append kept (r ∷ rs) qs = after-append (kept_with kept r) rs qs

begun-after : (kept : KeptValue) (pending : List Pending)
    → kept_after kept (begun_all pending) ≡ with_pending kept (kept.pending ++ pending) (last_id kept.greatest pending)
unfolding kept_with
begun-after kept [] = ap (λ (ps : List Pending). with_pending kept ps kept.greatest) (sym (append-nil kept.pending))
begun-after kept (p ∷ pending) =
    begun-after (with_pending kept (kept.pending ++ p ∷ []) p.id) pending
    ∙ ap (λ (ps : List Pending). with_pending kept ps (last_id p.id pending)) (append_assoc kept.pending (p ∷ []) pending)

marked-after : (kept : KeptValue) (marks : List Mark) → AreMarked kept.marks marks
    → kept_after kept (marked_all marks) ≡ with_marks kept (kept.marks ++ marks)
unfolding kept_with
marked-after kept [] are = ap (λ (ms : List Mark). with_marks kept ms) (sym (append-nil kept.marks))
marked-after kept (m ∷ marks) (session, when, last, rest) =
    ap (λ (ms : List Mark). kept_after (with_marks kept ms) (marked_all marks)) last
    ∙ marked-after (with_marks kept (kept.marks ++ m ∷ [])) marks rest
    ∙ ap (λ (ms : List Mark). with_marks kept ms) (append_assoc kept.marks (m ∷ []) marks)

greater-none : (n : ℕ) → greater 0 n ≡ n
greater-none n = by (nat_lt 0 n) refl
  where
    by : (t : Bool) → nat_lt 0 n ≡ t → (if t then n else 0) ≡ n
    by true is = refl
    by false is = omega (arith, ltb-false 0 n is)

reserved : KeptValue → KeptValue
reserved kept = record {
  pending = [];
  marks = [];
  old_reserved = kept.old_reserved;
  new_reserved = kept.new_reserved;
  greatest = 0;
}

reserved-after : (kept : KeptValue) (rs : List RecordValue)
    → kept_after nothing_kept (a_reserved Old kept.old_reserved ∷ (a_reserved New kept.new_reserved ∷ rs)) ≡ kept_after (reserved kept) rs
unfolding kept_with reserved
reserved-after kept rs =
    ap (λ (n : ℕ). kept_after (record { pending = []; marks = []; old_reserved = n; new_reserved = greater 0 kept.new_reserved; greatest = 0 }) rs) (greater-none kept.old_reserved)
    ∙ ap (λ (n : ℕ). kept_after (record { pending = []; marks = []; old_reserved = kept.old_reserved; new_reserved = n; greatest = 0 }) rs) (greater-none kept.new_reserved)

anew-after : (kept : KeptValue) → AreMarked [] kept.marks → kept_after nothing_kept (anew kept) ≡ but_greatest kept
unfolding reserved
anew-after kept are =
    reserved-after kept (begun_all kept.pending ++ marked_all kept.marks)
    ∙ after-append (reserved kept) (begun_all kept.pending) (marked_all kept.marks)
    ∙ ap (λ (k : KeptValue). kept_after k (marked_all kept.marks)) (begun-after (reserved kept) kept.pending)
    ∙ marked-after (with_pending (reserved kept) kept.pending (last_id 0 kept.pending)) kept.marks are

-- ---- the records may follow one another

pub may-append : (kept : KeptValue) (rs qs : List RecordValue) → MayFollow kept rs → MayFollow (kept_after kept rs) qs → MayFollow kept (rs ++ qs)
may-append kept [] qs may after = after
may-append kept (r ∷ rs) qs (may, rest) after = (may, may-append (kept_with kept r) rs qs rest after)

may-begin : (kept : KeptValue) (pending : List Pending) → AreBegun kept.greatest pending → MayFollow kept (begun_all pending)
unfolding kept_with
may-begin kept [] are = tt
may-begin kept (p ∷ pending) (above, small, short, moment, rest) =
    ((above, small, short, moment), may-begin (with_pending kept (kept.pending ++ p ∷ []) p.id) pending rest)

may-mark : (kept : KeptValue) (earlier marks : List Mark) → AreMarked earlier marks → MayFollow kept (marked_all marks)
may-mark kept earlier [] are = tt
may-mark kept earlier (m ∷ marks) (session, when, last, rest) = ((session, when), may-mark (kept_with kept (a_mark m)) (earlier ++ m ∷ []) marks rest)

may-anew : (kept : KeptValue) → IsSound kept → MayFollow nothing_kept (anew kept)
unfolding kept_with
may-anew kept sound = (
  sound.old_reserved,
  (sound.new_reserved, may-append _ (begun_all kept.pending) (marked_all kept.marks) (may-begin _ kept.pending sound.pending) (may-mark _ [] kept.marks sound.marks)),
)

pub anew-closes : (kept : KeptValue) → IsSound kept → Closes (file_of kept) (but_greatest kept)
anew-closes kept sound = rw (sym (anew-after kept sound.marks)) (records-closed (anew kept) (may-anew kept sound))

-- ---- its octets

pub gated-values : (rs : List RecordValue) → gated rs ≡ flat_map entry_octets rs ++ 0 ∷ []
unfolding gated
gated-values [] = refl
gated-values (r ∷ rs) =
    ap (λ (w : List ℕ). entry_octets r ++ w) (gated-values rs) ∙ sym (append_assoc (entry_octets r) (flat_map entry_octets rs) (0 ∷ []))

begun-entries : (pending : List Pending) → flat_map entry_octets (begun_all pending) ≡ flat_map begun_entry pending
begun-entries [] = refl
begun-entries (p ∷ pending) = ap (λ (w : List ℕ). begun_entry p ++ w) (begun-entries pending)

mark-entries : (marks : List Mark) → flat_map entry_octets (marked_all marks) ≡ flat_map mark_entry marks
mark-entries [] = refl
mark-entries (m ∷ marks) = ap (λ (w : List ℕ). mark_entry m ++ w) (mark-entries marks)

pub file-parts : (kept : KeptValue)
    → file_of kept ≡ head_octets kept ++ (flat_map begun_entry kept.pending ++ (flat_map mark_entry kept.marks ++ 0 ∷ []))
file-parts kept =
    let begun = flat_map begun_entry kept.pending in
    let marks = flat_map mark_entry kept.marks in
    let one = entry_octets (a_reserved Old kept.old_reserved) in
    let two = entry_octets (a_reserved New kept.new_reserved) in
    let both : flat_map entry_octets (begun_all kept.pending ++ marked_all kept.marks) ≡ begun ++ marks =
    flat_map-append entry_octets (begun_all kept.pending) (marked_all kept.marks)
    ∙ ap (λ (w : List ℕ). w ++ flat_map entry_octets (marked_all kept.marks)) (begun-entries kept.pending)
    ∙ ap (λ (w : List ℕ). begun ++ w) (mark-entries kept.marks) in
    ap (λ (w : List ℕ). opening ++ w) (gated-values (anew kept))
    ∙ ap (λ (w : List ℕ). opening ++ ((one ++ (two ++ w)) ++ 0 ∷ [])) both
    ∙ ap (λ (w : List ℕ). opening ++ w) (append_assoc one (two ++ (begun ++ marks)) (0 ∷ []))
    ∙ ap (λ (w : List ℕ). opening ++ (one ++ w)) (append_assoc two (begun ++ marks) (0 ∷ []))
    ∙ ap (λ (w : List ℕ). opening ++ (one ++ (two ++ w))) (append_assoc begun marks (0 ∷ []))
    ∙ ap (λ (w : List ℕ). opening ++ w) (sym (append_assoc one two (begun ++ (marks ++ 0 ∷ []))))
    ∙ sym (append_assoc opening (one ++ two) (begun ++ (marks ++ 0 ∷ [])))

-- octets that were appended one after another
pub appended : (old head begun marks : List ℕ)
    → (((old ++ head) ++ begun) ++ marks) ++ 0 ∷ [] ≡ old ++ (head ++ (begun ++ (marks ++ 0 ∷ [])))
appended old head begun marks =
    append_assoc ((old ++ head) ++ begun) marks (0 ∷ []) ∙ append_assoc (old ++ head) begun (marks ++ 0 ∷ [])
    ∙ append_assoc old head (begun ++ (marks ++ 0 ∷ []))
