-- Each id is begun once, and done at most once.
use Rattle.std.proofs.Common.{◌≡◌, ℕ, ◌≤◌, ◌==◌, ◌||◌, Bool, true, false, if◌then◌else◌, List, [], ◌∷◌, ◌++◌, refl, sym, ap, ◌∙◌, arith}
use Rattle.std.proofs.lemmas.Bool.{eqb-true, ne_eqb}
use Rattle.std.specs.List.{list_any}
use Rattle.gate_cases.specs.declared.face.Face.TheVariants.{Old, New}
use Rattle.journal_file.specs.declared.kept.Pending.{Pending}
use Rattle.journal_file.specs.Values.{KeptValue, RecordValue, a_begun, a_done, a_mark, a_clear, a_reserved}
use Rattle.journal_file.specs.Keeping.{has_id, is_pending, without_first, kept_with}
use Rattle.journal_file.specs.Spelling.{MayFollow}
use Rattle.journal_file.specs.Anew.{AreBegun}
use Rattle.journal_file.specs.Legal.{IsLegal}
use Rattle.journal_file.proofs.DropLemmas.{drop_first, drop_first-is}
use Rattle.journal_file.proofs.SoundLemmas.{legal-with}
use Rattle.gate_records.specs.Laws.{ends_of, is_end, BeginRising, EndOnce}
use Rattle.gate_records.proofs.PendingLemmas.{pending-any, pending-up-to}

-- ---- ids rise

rising : (kept : KeptValue) (rs : List RecordValue) → MayFollow kept rs → BeginRising kept.greatest rs
unfolding kept_with BeginRising
rising kept [] may = tt
rising kept (a_begun p ∷ rs) (may, rest) = (may.0, rising (kept_with kept (a_begun p)) rs rest)
rising kept (a_done id how ∷ rs) (may, rest) = rising (kept_with kept (a_done id how)) rs rest
rising kept (a_mark m ∷ rs) (may, rest) = rising (kept_with kept (a_mark m)) rs rest
rising kept (a_clear face session ∷ rs) (may, rest) = rising (kept_with kept (a_clear face session)) rs rest
rising kept (a_reserved Old n ∷ rs) (may, rest) = rising (kept_with kept (a_reserved Old n)) rs rest
rising kept (a_reserved New n ∷ rs) (may, rest) = rising (kept_with kept (a_reserved New n)) rs rest

-- ---- an id that is done is pending no more

abbrev either : Bool → Bool → Bool
either a b = a || b

above-any : (n id : ℕ) (ps : List Pending) → id ≤ n → AreBegun n ps → list_any (has_id id) ps ≡ false
above-any n id [] le are = refl
above-any n id (p ∷ ps) le (above, small, short, moment, rest) =
    let other : (p.id == id) ≡ false = ne_eqb p.id id (λ e. omega (arith, e, le, above)) in
    rw other (above-any p.id id ps (omega (arith, le, above)) rest)

gone-any : (n id : ℕ) (ps : List Pending) → AreBegun n ps → list_any (has_id id) (drop_first (has_id id) ps) ≡ false
unfolding drop_first
gone-any n id [] are = refl
gone-any n id (p ∷ ps) (above, small, short, moment, rest) = by (p.id == id) refl (gone-any p.id id ps rest)
  where
    by : (t : Bool) → (p.id == id) ≡ t → list_any (has_id id) (drop_first (has_id id) ps) ≡ false
        → list_any (has_id id) (if t then ps else p ∷ drop_first (has_id id) ps) ≡ false
    by true is others = above-any p.id id ps (omega (arith, eqb-true p.id id is)) rest
    by false is others = rw is others

gone : (id : ℕ) (ps : List Pending) → AreBegun 0 ps → is_pending id (without_first (has_id id) ps) ≡ false
gone id ps are =
    pending-any id (without_first (has_id id) ps) ∙ ap (λ (l : List Pending). list_any (has_id id) l) (drop_first-is (has_id id) ps) ∙ gone-any 0 id ps are

-- ---- and isn't begun again

none-drop : (j id : ℕ) (ps : List Pending) → list_any (has_id id) ps ≡ false → list_any (has_id id) (drop_first (has_id j) ps) ≡ false
unfolding drop_first
none-drop j id [] none = refl
none-drop j id (p ∷ ps) none = by (p.id == j) (p.id == id) refl none (λ others. none-drop j id ps others)
  where
    by : (t u : Bool) → (p.id == id) ≡ u → either u (list_any (has_id id) ps) ≡ false
        → (list_any (has_id id) ps ≡ false → list_any (has_id id) (drop_first (has_id j) ps) ≡ false)
        → list_any (has_id id) (if t then ps else p ∷ drop_first (has_id j) ps) ≡ false
    by t true is none rest = absurd (cc)
    by true false is none rest = none
    by false false is none rest = rw is (rest none)

none-push : (id : ℕ) (p : Pending) (ps : List Pending) → (p.id == id) ≡ false → list_any (has_id id) ps ≡ false → list_any (has_id id) (ps ++ p ∷ []) ≡ false
none-push id p [] other none = rw other refl
none-push id p (q ∷ ps) other none = by (q.id == id) none (λ others. none-push id p ps other others)
  where
    by : (u : Bool) → either u (list_any (has_id id) ps) ≡ false → (list_any (has_id id) ps ≡ false → list_any (has_id id) (ps ++ p ∷ []) ≡ false)
        → either u (list_any (has_id id) (ps ++ p ∷ [])) ≡ false
    by true none rest = absurd (cc)
    by false none rest = rest none

-- an id that was given and isn't pending is ended by no record
never : (kept : KeptValue) (rs : List RecordValue) (id : ℕ) → MayFollow kept rs → id ≤ kept.greatest → is_pending id kept.pending ≡ false
    → list_any (λ said. is_end id (ends_of said)) rs ≡ false
unfolding kept_with
never kept [] id may le none = refl
never kept (a_begun p ∷ rs) id (may, rest) le none =
    let other : (p.id == id) ≡ false = ne_eqb p.id id (λ e. omega (arith, e, le, may.0)) in
    never (kept_with kept (a_begun p)) rs id rest (omega (arith, le, may.0))
    (pending-any id (kept.pending ++ p ∷ []) ∙ none-push id p kept.pending other (sym (pending-any id kept.pending) ∙ none))
never kept (a_done j how ∷ rs) id (may, rest) le none =
    by (j == id) refl
    (never (kept_with kept (a_done j how)) rs id rest le
    (pending-any id (without_first (has_id j) kept.pending) ∙ ap (λ (l : List Pending). list_any (has_id id) l) (drop_first-is (has_id j) kept.pending)
    ∙ none-drop j id kept.pending (sym (pending-any id kept.pending) ∙ none)))
  where
    by : (t : Bool) → (j == id) ≡ t → list_any (λ said. is_end id (ends_of said)) rs ≡ false → either t (list_any (λ said. is_end id (ends_of said)) rs) ≡ false
    by true is others =
        let no : true ≡ false = sym may.0 ∙ ap (λ (n : ℕ). is_pending n kept.pending) (eqb-true j id is) ∙ none in absurd (cc)
    by false is others = others
never kept (a_mark m ∷ rs) id (may, rest) le none = never (kept_with kept (a_mark m)) rs id rest le none
never kept (a_clear face session ∷ rs) id (may, rest) le none = never (kept_with kept (a_clear face session)) rs id rest le none
never kept (a_reserved Old n ∷ rs) id (may, rest) le none = never (kept_with kept (a_reserved Old n)) rs id rest le none
never kept (a_reserved New n ∷ rs) id (may, rest) le none = never (kept_with kept (a_reserved New n)) rs id rest le none

once : (kept : KeptValue) (rs : List RecordValue) → IsLegal kept → MayFollow kept rs → EndOnce rs
unfolding kept_with EndOnce
once kept [] legal may = tt
once kept (a_begun p ∷ rs) legal (may, rest) = once (kept_with kept (a_begun p)) rs (legal-with kept (a_begun p) may legal) rest
once kept (a_done id how ∷ rs) legal (may, rest) = (
  never (kept_with kept (a_done id how)) rs id rest (pending-up-to kept.greatest id kept.pending legal.up_to may.0) (gone id kept.pending legal.pending),
  once (kept_with kept (a_done id how)) rs (legal-with kept (a_done id how) may legal) rest,
)
once kept (a_mark m ∷ rs) legal (may, rest) = once (kept_with kept (a_mark m)) rs (legal-with kept (a_mark m) may legal) rest
once kept (a_clear face session ∷ rs) legal (may, rest) = once (kept_with kept (a_clear face session)) rs (legal-with kept (a_clear face session) may legal) rest
once kept (a_reserved Old n ∷ rs) legal (may, rest) = once (kept_with kept (a_reserved Old n)) rs (legal-with kept (a_reserved Old n) may legal) rest
once kept (a_reserved New n ∷ rs) legal (may, rest) = once (kept_with kept (a_reserved New n)) rs (legal-with kept (a_reserved New n) may legal) rest

pub ids-are-used-once : (kept : KeptValue) (rs : List RecordValue) → IsLegal kept → MayFollow kept rs → BeginRising kept.greatest rs × EndOnce rs
ids-are-used-once kept rs legal may = (rising kept rs may, once kept rs legal may)
