-- A mark stays until it is cleared, or pushed out.
use Rattle.std.proofs.Common.{◌≡◌, ◌⊎◌, inl, inr, ⊎_elim, ℕ, ◌+◌, ◌<◌, ◌≤◌, ◌==◌, ◌&&◌, ◌||◌, Bool, true, false, nat_lt, if◌then◌else◌, List, [], ◌∷◌, ◌++◌, length, refl, sym, ap, ◌∙◌, subst, arith}
use Rattle.std.proofs.lemmas.Bool.{ltb-true, eqb-true}
use Rattle.std.specs.List.{list_any, filter}
use Rattle.gate_cases.specs.declared.face.Face.{Face}
use Rattle.gate_cases.specs.declared.face.Face.TheVariants.{Old, New}
use Rattle.journal_file.specs.declared.kept.Mark.{Mark}
use Rattle.journal_file.specs.Values.{KeptValue, RecordValue, a_begun, a_done, a_mark, a_clear, a_reserved}
use Rattle.journal_file.specs.Keeping.{same_face, is_of, is_about, marks_of, without_first, bounded, marks_with, MARKS_MAX, kept_with, kept_after}
use Rattle.journal_file.proofs.DropLemmas.{drop_first, drop_first-is}
use Rattle.gate_records.specs.Laws.{after_mark, later_marks, makes_mark, made_marks, clears_mark}

abbrev either : Bool → Bool → Bool
either a b = a || b

abbrev both : Bool → Bool → Bool
both a b = a && b

both-true : (a b : Bool) → both a b ≡ true → (a ≡ true) × (b ≡ true)
both-true true b is = (refl, is)
both-true false b is = absurd (cc)

faces-same : (f g : Face) → same_face f g ≡ true → f ≡ g
faces-same Old Old is = refl
faces-same Old New is = absurd (cc)
faces-same New Old is = absurd (cc)
faces-same New New is = refl

abbrev count : Face → Bool → Mark → List Mark → List Mark
count f t x xs = if t then x ∷ filter (is_of f) xs else filter (is_of f) xs

module _ (face : Face) (session : ℕ) where
  abbrev about : Mark → Bool
  about m = is_about face session m

  abbrev marked : List Mark → Bool
  marked xs = list_any (is_about face session) xs

  of-face : (x : Mark) → is_about face session x ≡ true → is_of face x ≡ true
  of-face x is = (both-true (same_face x.face face) (x.session == session) is).0

  -- ---- what stands after the mark

  after-short : (xs : List Mark) → later_marks face session xs ≤ marks_of face xs
  unfolding after_mark
  after-short [] = omega arith
  after-short (x ∷ xs) = by (is_about face session x) (is_of face x) (after-short xs)
    where
      by : (t u : Bool) → later_marks face session xs ≤ marks_of face xs
          → marks_of face (if t then xs else after_mark face session xs) ≤ length (count face u x xs)
      by true true rest = omega arith
      by true false rest = omega arith
      by false true rest = omega (arith, rest)
      by false false rest = rest

  push-count : (m : Mark) (xs : List Mark) → marks_of face (xs ++ m ∷ []) ≤ marks_of face xs + makes_mark face (a_mark m)
  push-count m [] = by (is_of face m)
    where
      by : (t : Bool) → length (count face t m []) ≤ 0 + (if t then 1 else 0)
      by true = omega arith
      by false = omega arith
  push-count m (x ∷ xs) = by (is_of face x) (push-count m xs)
    where
      by : (t : Bool) → marks_of face (xs ++ m ∷ []) ≤ marks_of face xs + makes_mark face (a_mark m)
          → length (count face t x (xs ++ m ∷ [])) ≤ length (count face t x xs) + makes_mark face (a_mark m)
      by true rest = omega (arith, rest)
      by false rest = rest

  drop-count : (test : Mark → Bool) (xs : List Mark) → marks_of face (drop_first test xs) ≤ marks_of face xs + 0
  unfolding drop_first
  drop-count test [] = omega arith
  drop-count test (x ∷ xs) = by (test x) (is_of face x) refl (drop-count test xs)
    where
      by : (t u : Bool) → is_of face x ≡ u → marks_of face (drop_first test xs) ≤ marks_of face xs + 0
          → marks_of face (if t then xs else x ∷ drop_first test xs) ≤ length (count face u x xs) + 0
      by true true is rest = omega arith
      by true false is rest = omega arith
      by false true is rest = rw is (omega (arith, rest))
      by false false is rest = rw is rest

  -- ---- a mark that isn't this one leaves

  record Stays (before after : List Mark) (more : ℕ) : Type 0 where
    there : marked after ≡ true
    later : later_marks face session after ≤ later_marks face session before + more

  stays-same : (xs : List Mark) → marked xs ≡ true → Stays xs xs 0
  stays-same xs is = record { there = is; later = omega arith }

  others-leave : (test : Mark → Bool) → ((x : Mark) → test x ≡ true → is_about face session x ≡ false) → (xs : List Mark) → marked xs ≡ true → Stays xs (drop_first test xs) 0
  unfolding drop_first after_mark
  others-leave test apart [] is = absurd (cc)
  others-leave test apart (x ∷ xs) is = by (test x) refl (is_about face session x) refl is (λ more. others-leave test apart xs more)
    where
      kept : (u : Bool) → is_about face session x ≡ u → either u (marked xs) ≡ true → (marked xs ≡ true → Stays xs (drop_first test xs) 0) → Stays (x ∷ xs) (x ∷ drop_first test xs) 0
      kept true it is rest = record { there = rw it refl; later = rw it (drop-count test xs) }
      kept false it is rest = let others = rest is in record { there = rw it others.there; later = rw it others.later }

      by : (t : Bool) → test x ≡ t → (u : Bool) → is_about face session x ≡ u → either u (marked xs) ≡ true → (marked xs ≡ true → Stays xs (drop_first test xs) 0)
          → Stays (x ∷ xs) (if t then xs else x ∷ drop_first test xs) 0
      by true passes true it is rest = let no : true ≡ false = sym it ∙ apart x passes in absurd (cc)
      by true passes false it is rest = record { there = is; later = rw it (omega arith) }
      by false passes u it is rest = kept u it is rest

  -- ---- one more comes

  push-stays : (m : Mark) (xs : List Mark) → marked xs ≡ true → Stays xs (xs ++ m ∷ []) (makes_mark face (a_mark m))
  unfolding after_mark
  push-stays m [] is = absurd (cc)
  push-stays m (x ∷ xs) is = by (is_about face session x) refl is (λ more. push-stays m xs more)
    where
      by : (u : Bool) → is_about face session x ≡ u → either u (marked xs) ≡ true → (marked xs ≡ true → Stays xs (xs ++ m ∷ []) (makes_mark face (a_mark m)))
          → Stays (x ∷ xs) (x ∷ (xs ++ m ∷ [])) (makes_mark face (a_mark m))
      by true it is rest = record { there = rw it refl; later = rw it (push-count m xs) }
      by false it is rest = let others = rest is in record { there = rw it others.there; later = rw it others.later }

  any-last : (m : Mark) (xs : List Mark) → is_about face session m ≡ true → marked (xs ++ m ∷ []) ≡ true
  any-last m [] is = rw is refl
  any-last m (x ∷ xs) is = rw (any-last m xs is) (right (is_about face session x))
    where
      right : (a : Bool) → either a true ≡ true
      right true = refl
      right false = refl

  -- it is made again
  again-later : (m : Mark) (xs : List Mark) → is_of face m ≡ true → marked xs ≡ true
      → later_marks face session (drop_first (is_about face session) xs ++ m ∷ []) ≤ later_marks face session xs + 1
  unfolding drop_first after_mark
  again-later m [] own is = absurd (cc)
  again-later m (x ∷ xs) own is = by (is_about face session x) refl is (λ more. again-later m xs own more)
    where
      one : makes_mark face (a_mark m) ≡ 1
      one = rw own refl

      by : (u : Bool) → is_about face session x ≡ u → either u (marked xs) ≡ true
          → (marked xs ≡ true → later_marks face session (drop_first (is_about face session) xs ++ m ∷ []) ≤ later_marks face session xs + 1)
          → later_marks face session ((if u then xs else x ∷ drop_first (is_about face session) xs) ++ m ∷ []) ≤ marks_of face (if u then xs else after_mark face session xs) + 1
      by true it is rest = omega (arith, after-short (xs ++ m ∷ []), push-count m xs, one)
      by false it is rest = rw it (rest is)

  again-stays : (m : Mark) (xs : List Mark) → is_about face session m ≡ true → marked xs ≡ true → Stays xs (drop_first (is_about face session) xs ++ m ∷ []) (makes_mark face (a_mark m))
  again-stays m xs it is =
      let own = of-face m it in
      let one : makes_mark face (a_mark m) ≡ 1 = rw own refl in
      record { there = any-last m (drop_first (is_about face session) xs) it; later = rw one (again-later m xs own is) }

  -- ---- the first of a face leaves: another, or this one, after which all others of the face stand

  first-leaves : (xs : List Mark) → marked xs ≡ true → Stays xs (drop_first (is_of face) xs) 0 ⊎ (marks_of face xs ≤ later_marks face session xs + 1)
  unfolding drop_first after_mark
  first-leaves [] is = absurd (cc)
  first-leaves (x ∷ xs) is = by (is_of face x) refl (is_about face session x) refl is (λ more. first-leaves xs more)
    where
      by : (t : Bool) → is_of face x ≡ t → (u : Bool) → is_about face session x ≡ u → either u (marked xs) ≡ true
          → (marked xs ≡ true → Stays xs (drop_first (is_of face) xs) 0 ⊎ (marks_of face xs ≤ later_marks face session xs + 1))
          → Stays (x ∷ xs) (if t then xs else x ∷ drop_first (is_of face) xs) 0 ⊎ (length (count face t x xs) ≤ marks_of face (if u then xs else after_mark face session xs) + 1)
      by true own true it is rest = inr (omega arith)
      by true own false it is rest = inl (record { there = is; later = rw it (omega arith) })
      by false other true it is rest = let no : false ≡ true = sym other ∙ of-face x it in absurd (cc)
      by false other false it is rest =
          ⊎_elim (λ stays. inl (record { there = rw it stays.there; later = rw it stays.later })) (λ all. inr all) (rest is)

  -- ---- a mark is made

  apart-from : (f : Face) (s : ℕ) → both (same_face f face) (s == session) ≡ false → (x : Mark) → is_about f s x ≡ true → is_about face session x ≡ false
  apart-from f s other x is =
      let parts = both-true (same_face x.face f) (x.session == s) is in
      ap (λ (g : Face). both (same_face g face) (x.session == session)) (faces-same x.face f parts.0)
      ∙ ap (λ (n : ℕ). both (same_face f face) (n == session)) (eqb-true x.session s parts.1) ∙ other

  apart-face : (f : Face) → same_face f face ≡ false → (x : Mark) → is_of f x ≡ true → is_about face session x ≡ false
  apart-face f other x is =
      let no : same_face x.face face ≡ false = ap (λ (g : Face). same_face g face) (faces-same x.face f is) ∙ other in
      rw no refl

  stays-on : (xs ys zs : List Mark) (more : ℕ) → Stays xs ys more → Stays ys zs 0 → Stays xs zs more
  stays-on xs ys zs more one two = record { there = two.there; later = omega (arith, one.later, two.later) }

  bounded-stays : (most : ℕ) (f : Face) (xs ys : List Mark) (more : ℕ) → Stays xs ys more
      → Stays xs (bounded most f ys) more ⊎ (most ≤ later_marks face session xs + more)
  bounded-stays most f xs ys more stays = by (nat_lt most (marks_of f ys)) refl (same_face f face) refl
    where
      by : (t : Bool) → nat_lt most (marks_of f ys) ≡ t → (u : Bool) → same_face f face ≡ u
          → Stays xs (if t then without_first (is_of f) ys else ys) more ⊎ (most ≤ later_marks face session xs + more)
      by false few u same = inl stays
      by true many false other = inl (rw (drop_first-is (is_of f) ys) (stays-on xs ys (drop_first (is_of f) ys) more stays (others-leave (is_of f) (apart-face f other) ys stays.there)))
      by true many true same =
          let own : f ≡ face = faces-same f face same in
          let over : most < marks_of face ys = subst (λ (g : Face). most < marks_of g ys) own (ltb-true most (marks_of f ys) many) in
          ⊎_elim
          (λ kept. inl (rw (drop_first-is (is_of f) ys) (subst (λ (g : Face). Stays xs (drop_first (is_of g) ys) more) (sym own) (stays-on xs ys (drop_first (is_of face) ys) more stays kept))))
          (λ all. inr (omega (arith, over, all, stays.later)))
          (first-leaves ys stays.there)

  mark-made : (most : ℕ) (m : Mark) (xs : List Mark) → marked xs ≡ true
      → Stays xs (marks_with most m xs) (makes_mark face (a_mark m)) ⊎ (most ≤ later_marks face session xs + makes_mark face (a_mark m))
  unfolding marks_with
  mark-made most m xs is =
      rw (drop_first-is (is_about m.face m.session) xs)
      (bounded-stays most m.face xs (drop_first (is_about m.face m.session) xs ++ m ∷ []) (makes_mark face (a_mark m)) (by (is_about face session m) refl))
    where
      by : (u : Bool) → is_about face session m ≡ u → Stays xs (drop_first (is_about m.face m.session) xs ++ m ∷ []) (makes_mark face (a_mark m))
      by true it =
          let parts = both-true (same_face m.face face) (m.session == session) it in
          subst (λ (f : Face). Stays xs (drop_first (is_about f m.session) xs ++ m ∷ []) (makes_mark face (a_mark m))) (sym (faces-same m.face face parts.0))
          (subst (λ (n : ℕ). Stays xs (drop_first (is_about face n) xs ++ m ∷ []) (makes_mark face (a_mark m))) (sym (eqb-true m.session session parts.1)) (again-stays m xs it is))
      by false other =
          let left = others-leave (is_about m.face m.session) (apart-from m.face m.session other) xs is in
          let more = push-stays m (drop_first (is_about m.face m.session) xs) left.there in
          record { there = more.there; later = omega (arith, left.later, more.later) }

  -- ---- records, one after another

  abbrev Leaves : List Mark → List RecordValue → Type 0
  Leaves marks rs = (list_any (clears_mark face session) rs ≡ true) ⊎ (MARKS_MAX ≤ later_marks face session marks + made_marks face rs)

  either-right : (a : Bool) → either a true ≡ true
  either-right true = refl
  either-right false = refl

  leaves-on : (said : RecordValue) (rs : List RecordValue) (before after : List Mark) → Stays before after (makes_mark face said) → Leaves after rs → Leaves before (said ∷ rs)
  unfolding made_marks
  leaves-on said rs before after stays (inl any) = inl (rw any (either-right (clears_mark face session said)))
  leaves-on said rs before after stays (inr most) = inr (omega (arith, most, stays.later))

  leaves : (kept : KeptValue) (rs : List RecordValue) → marked kept.marks ≡ true → marked (kept_after kept rs).marks ≡ false → Leaves kept.marks rs
  unfolding kept_with made_marks
  leaves kept [] there gone = absurd (cc)
  leaves kept (a_begun p ∷ rs) there gone =
      leaves-on (a_begun p) rs kept.marks kept.marks (stays-same kept.marks there) (leaves (kept_with kept (a_begun p)) rs there gone)
  leaves kept (a_done id how ∷ rs) there gone =
      leaves-on (a_done id how) rs kept.marks kept.marks (stays-same kept.marks there) (leaves (kept_with kept (a_done id how)) rs there gone)
  leaves kept (a_mark m ∷ rs) there gone =
      by (mark-made MARKS_MAX m kept.marks there) (λ still. leaves (kept_with kept (a_mark m)) rs still gone)
    where
      by : Stays kept.marks (marks_with MARKS_MAX m kept.marks) (makes_mark face (a_mark m)) ⊎ (MARKS_MAX ≤ later_marks face session kept.marks + makes_mark face (a_mark m))
          → (marked (marks_with MARKS_MAX m kept.marks) ≡ true → Leaves (marks_with MARKS_MAX m kept.marks) rs) → Leaves kept.marks (a_mark m ∷ rs)
      by (inl stays) rest = leaves-on (a_mark m) rs kept.marks (marks_with MARKS_MAX m kept.marks) stays (rest stays.there)
      by (inr most) rest = inr (omega (arith, most))
  leaves kept (a_clear f s ∷ rs) there gone =
      by (both (same_face f face) (s == session)) refl (λ still. leaves (kept_with kept (a_clear f s)) rs still gone)
    where
      by : (u : Bool) → both (same_face f face) (s == session) ≡ u
          → (marked (without_first (is_about f s) kept.marks) ≡ true → Leaves (without_first (is_about f s) kept.marks) rs) → Leaves kept.marks (a_clear f s ∷ rs)
      by true it rest = inl (rw it refl)
      by false other rest =
          let stays : Stays kept.marks (without_first (is_about f s) kept.marks) 0 =
          rw (drop_first-is (is_about f s) kept.marks) (others-leave (is_about f s) (apart-from f s other) kept.marks there) in
          leaves-on (a_clear f s) rs kept.marks (without_first (is_about f s) kept.marks) stays (rest stays.there)
  leaves kept (a_reserved Old n ∷ rs) there gone =
      leaves-on (a_reserved Old n) rs kept.marks kept.marks (stays-same kept.marks there) (leaves (kept_with kept (a_reserved Old n)) rs there gone)
  leaves kept (a_reserved New n ∷ rs) there gone =
      leaves-on (a_reserved New n) rs kept.marks kept.marks (stays-same kept.marks there) (leaves (kept_with kept (a_reserved New n)) rs there gone)

pub mark-stays : (kept : KeptValue) (rs : List RecordValue) (face : Face) (session : ℕ)
    → list_any (is_about face session) kept.marks ≡ true → list_any (is_about face session) (kept_after kept rs).marks ≡ false
    → (list_any (clears_mark face session) rs ≡ true) ⊎ (MARKS_MAX ≤ later_marks face session kept.marks + made_marks face rs)
mark-stays kept rs face session there gone = leaves face session kept rs there gone
