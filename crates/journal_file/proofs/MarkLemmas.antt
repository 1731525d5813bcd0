-- Marks that are kept: no two of a session, and of no face too many.
use Rattle.std.proofs.Common.{◌≡◌, ℕ, ◌+◌, ◌^◌, ◌<◌, ◌≤◌, ◌==◌, ◌&&◌, Bool, true, false, nat_lt, if◌then◌else◌, List, [], ◌∷◌, ◌++◌, length, refl, sym, ap, ◌∙◌, subst, append_assoc, arith}
use Rattle.std.proofs.lemmas.Bool.{le-ltb, ltb-false, eqb-true, eqb-false, ne_eqb, eq-eqb}
use Rattle.std.specs.List.{filter}
use Rattle.gate_cases.specs.declared.face.Face.{Face}
use Rattle.gate_cases.specs.declared.face.Face.TheVariants.{Old, New}
use Rattle.journal_file.specs.declared.kept.Mark.{Mark}
use Rattle.journal_file.specs.Keeping.{same_face, is_of, is_about, marks_of, without_first, bounded, marks_with, MARKS_MAX}
use Rattle.journal_file.specs.Anew.{AreMarked}
use Rattle.journal_file.specs.Legal.{NoneAbout, AreApart, AreSmall, AreFit}
use Rattle.journal_file.proofs.DropLemmas.{drop_first, drop_first-is}

-- ---- faces

faces-same : (f g : Face) → same_face f g ≡ true → f ≡ g
faces-same Old Old is = refl
faces-same Old New is = absurd (cc)
faces-same New Old is = absurd (cc)
faces-same New New is = refl

faces-back : (f g : Face) → same_face f g ≡ same_face g f
faces-back Old Old = refl
faces-back Old New = refl
faces-back New Old = refl
faces-back New New = refl

face-self : (f : Face) → same_face f f ≡ true
face-self Old = refl
face-self New = refl

eqb-back : (a b : ℕ) → (a == b) ≡ (b == a)
eqb-back a b = by (a == b) refl
  where
    by : (t : Bool) → (a == b) ≡ t → t ≡ (b == a)
    by true is = sym (eq-eqb b a (sym (eqb-true a b is)))
    by false is = sym (ne_eqb b a (λ e. eqb-false a b is (sym e)))

abbrev both : Bool → Bool → Bool
both a b = a && b

about-back : (f g : Face) (s t : ℕ) → both (same_face g f) (t == s) ≡ false → both (same_face f g) (s == t) ≡ false
about-back f g s t is = rw (faces-back f g, eqb-back s t) is

both-true : (a b : Bool) → both a b ≡ true → (a ≡ true) × (b ≡ true)
both-true true b is = (refl, is)
both-true false b is = absurd (cc)

-- ---- none about a session

none-drop : (f : Face) (s : ℕ) (test : Mark → Bool) (xs : List Mark) → NoneAbout f s xs → NoneAbout f s (drop_first test xs)
unfolding drop_first
none-drop f s test [] none = tt
none-drop f s test (x ∷ xs) (first, rest) = by (test x) (none-drop f s test xs rest)
  where
    by : (t : Bool) → NoneAbout f s (drop_first test xs) → NoneAbout f s (if t then xs else x ∷ drop_first test xs)
    by true others = rest
    by false others = (first, others)

none-push : (f : Face) (s : ℕ) (m : Mark) (xs : List Mark) → is_about f s m ≡ false → NoneAbout f s xs → NoneAbout f s (xs ++ m ∷ [])
none-push f s m [] last none = (last, tt)
none-push f s m (x ∷ xs) last (first, rest) = (first, none-push f s m xs last rest)

-- once the one about a session is dropped there is none
none-after : (f : Face) (s : ℕ) (xs : List Mark) → AreApart xs → NoneAbout f s (drop_first (is_about f s) xs)
unfolding drop_first
none-after f s [] apart = tt
none-after f s (x ∷ xs) (first, rest) = by (is_about f s x) refl (none-after f s xs rest)
  where
    by : (t : Bool) → is_about f s x ≡ t → NoneAbout f s (drop_first (is_about f s) xs) → NoneAbout f s (if t then xs else x ∷ drop_first (is_about f s) xs)
    by true is others =
        let parts = both-true (same_face x.face f) (x.session == s) is in
        let there : NoneAbout x.face x.session xs = first in
        rw (faces-same x.face f parts.0, eqb-true x.session s parts.1) at there
    by false is others = (is, others)

-- without_first keeps the rest
none-first : (f : Face) (s : ℕ) (xs : List Mark) → NoneAbout f s xs → drop_first (is_about f s) xs ≡ xs
unfolding drop_first
none-first f s [] none = refl
none-first f s (x ∷ xs) (first, rest) = rw first (ap (λ (l : List Mark). x ∷ l) (none-first f s xs rest))

-- ---- apart, and small

apart-drop : (test : Mark → Bool) (xs : List Mark) → AreApart xs → AreApart (drop_first test xs)
unfolding drop_first
apart-drop test [] apart = tt
apart-drop test (x ∷ xs) (first, rest) = by (test x) (apart-drop test xs rest)
  where
    by : (t : Bool) → AreApart (drop_first test xs) → AreApart (if t then xs else x ∷ drop_first test xs)
    by true others = rest
    by false others = (none-drop x.face x.session test xs first, others)

apart-push : (m : Mark) (xs : List Mark) → NoneAbout m.face m.session xs → AreApart xs → AreApart (xs ++ m ∷ [])
apart-push m [] none apart = (tt, tt)
apart-push m (x ∷ xs) (is, none) (first, rest) =
    (none-push x.face x.session m xs (about-back m.face x.face m.session x.session is) first, apart-push m xs none rest)

small-drop : (test : Mark → Bool) (xs : List Mark) → AreSmall xs → AreSmall (drop_first test xs)
unfolding drop_first
small-drop test [] small = tt
small-drop test (x ∷ xs) (session, moment, rest) = by (test x) (small-drop test xs rest)
  where
    by : (t : Bool) → AreSmall (drop_first test xs) → AreSmall (if t then xs else x ∷ drop_first test xs)
    by true others = rest
    by false others = (session, moment, others)

small-push : (m : Mark) (xs : List Mark) → m.session < 2 ^ 64 → m.when < 2 ^ 64 → AreSmall xs → AreSmall (xs ++ m ∷ [])
small-push m [] session moment small = (session, moment, tt)
small-push m (x ∷ xs) session moment (s, w, rest) = (s, w, small-push m xs session moment rest)

-- ---- how many

abbrev passed : Face → Bool → Mark → List Mark → List Mark
passed f t x xs = if t then x ∷ filter (is_of f) xs else filter (is_of f) xs

count-grows : (f : Face) (x : Mark) (xs : List Mark) → marks_of f xs ≤ marks_of f (x ∷ xs)
count-grows f x xs = by (is_of f x)
  where
    by : (t : Bool) → marks_of f xs ≤ length (passed f t x xs)
    by true = omega arith
    by false = omega arith

count-more : (f : Face) (x : Mark) (xs ys : List Mark) (n : ℕ) → marks_of f xs ≤ marks_of f ys + n → marks_of f (x ∷ xs) ≤ marks_of f (x ∷ ys) + n
count-more f x xs ys n le = by (is_of f x)
  where
    by : (t : Bool) → length (passed f t x xs) ≤ length (passed f t x ys) + n
    by true = omega (arith, le)
    by false = le

count-drop : (f : Face) (test : Mark → Bool) (xs : List Mark) → marks_of f (drop_first test xs) ≤ marks_of f xs + 0
unfolding drop_first
count-drop f test [] = omega arith
count-drop f test (x ∷ xs) = by (test x) (count-drop f test xs)
  where
    by : (t : Bool) → marks_of f (drop_first test xs) ≤ marks_of f xs + 0 → marks_of f (if t then xs else x ∷ drop_first test xs) ≤ marks_of f (x ∷ xs) + 0
    by true rest = omega (arith, count-grows f x xs)
    by false rest = count-more f x (drop_first test xs) xs 0 rest

-- one fewer, where there was one
count-first : (f : Face) (xs : List Mark) (n : ℕ) → marks_of f xs ≤ n + 1 → marks_of f (drop_first (is_of f) xs) ≤ n
unfolding drop_first
count-first f [] n le = omega arith
count-first f (x ∷ xs) n le = by (is_of f x) refl le (λ few. count-first f xs n few)
  where
    by : (t : Bool) → is_of f x ≡ t → length (passed f t x xs) ≤ n + 1 → (marks_of f xs ≤ n + 1 → marks_of f (drop_first (is_of f) xs) ≤ n)
        → marks_of f (if t then xs else x ∷ drop_first (is_of f) xs) ≤ n
    by true is few others = omega (arith, few)
    by false is few others = rw is (others few)

count-push : (f : Face) (m : Mark) (xs : List Mark) → marks_of f (xs ++ m ∷ []) ≤ marks_of f xs + 1
count-push f m [] = by (is_of f m)
  where
    by : (t : Bool) → length (passed f t m []) ≤ 0 + 1
    by true = omega arith
    by false = omega arith
count-push f m (x ∷ xs) = count-more f x (xs ++ m ∷ []) xs 1 (count-push f m xs)

count-other : (f : Face) (m : Mark) (xs : List Mark) → is_of f m ≡ false → marks_of f (xs ++ m ∷ []) ≤ marks_of f xs + 0
count-other f m [] is = rw is (omega arith)
count-other f m (x ∷ xs) is = count-more f x (xs ++ m ∷ []) xs 0 (count-other f m xs is)

count-front : (f : Face) (xs ys : List Mark) → marks_of f xs ≤ marks_of f (xs ++ ys) + 0
count-front f [] ys = omega arith
count-front f (x ∷ xs) ys = count-more f x xs (xs ++ ys) 0 (count-front f xs ys)

-- ---- a mark more, and one less

fit-drop : (most : ℕ) (test : Mark → Bool) (xs : List Mark) → AreFit most xs → AreFit most (drop_first test xs)
fit-drop most test xs fit = record {
  small = small-drop test xs fit.small;
  apart = apart-drop test xs fit.apart;
  few = λ f. omega (arith, fit.few f, count-drop f test xs);
}

few-bounded : (most : ℕ) (m : Mark) (xs : List Mark) → ((f : Face) → marks_of f xs ≤ most) → (f : Face)
    → marks_of f (bounded most m.face (xs ++ m ∷ [])) ≤ most
few-bounded most m xs few f = by (is_of f m) refl (nat_lt most (marks_of m.face (xs ++ m ∷ []))) refl
  where
    of-own : m.face ≡ f → (count : Face → ℕ) → count m.face ≤ most → count f ≤ most
    of-own same count le = subst (λ (g : Face). count g ≤ most) same le

    by : (own : Bool) → is_of f m ≡ own → (t : Bool) → nat_lt most (marks_of m.face (xs ++ m ∷ [])) ≡ t
        → marks_of f (if t then without_first (is_of m.face) (xs ++ m ∷ []) else xs ++ m ∷ []) ≤ most
    by true own true many =
        rw (drop_first-is (is_of m.face) (xs ++ m ∷ []))
        (of-own (faces-same m.face f own) (λ g. marks_of g (drop_first (is_of m.face) (xs ++ m ∷ [])))
        (count-first m.face (xs ++ m ∷ []) most (omega (arith, few m.face, count-push m.face m xs))))
    by true own false many = of-own (faces-same m.face f own) (λ g. marks_of g (xs ++ m ∷ [])) (ltb-false most (marks_of m.face (xs ++ m ∷ [])) many)
    by false other true many =
        rw (drop_first-is (is_of m.face) (xs ++ m ∷ [])) (omega (arith, few f, count-other f m xs other, count-drop f (is_of m.face) (xs ++ m ∷ [])))
    by false other false many = omega (arith, few f, count-other f m xs other)

fit-with : (most : ℕ) (m : Mark) (xs : List Mark) → m.session < 2 ^ 64 → m.when < 2 ^ 64 → AreFit most xs → AreFit most (marks_with most m xs)
unfolding marks_with
fit-with most m xs session moment fit = rw (drop_first-is (is_about m.face m.session) xs) (record {
  small = by (nat_lt most (marks_of m.face ys));
  apart = after (nat_lt most (marks_of m.face ys));
  few = few-bounded most m zs (fit-drop most (is_about m.face m.session) xs fit).few;
})
  where
    zs : List Mark
    zs = drop_first (is_about m.face m.session) xs

    ys : List Mark
    ys = drop_first (is_about m.face m.session) xs ++ m ∷ []

    small : AreSmall (drop_first (is_about m.face m.session) xs ++ m ∷ [])
    small = small-push m _ session moment (small-drop (is_about m.face m.session) xs fit.small)

    apart : AreApart (drop_first (is_about m.face m.session) xs ++ m ∷ [])
    apart = apart-push m _ (none-after m.face m.session xs fit.apart) (apart-drop (is_about m.face m.session) xs fit.apart)

    by : (t : Bool) → AreSmall (if t then without_first (is_of m.face) (drop_first (is_about m.face m.session) xs ++ m ∷ []) else drop_first (is_about m.face m.session) xs ++ m ∷ [])
    by true = rw (drop_first-is (is_of m.face) (drop_first (is_about m.face m.session) xs ++ m ∷ [])) (small-drop (is_of m.face) _ small)
    by false = small

    after : (t : Bool) → AreApart (if t then without_first (is_of m.face) (drop_first (is_about m.face m.session) xs ++ m ∷ []) else drop_first (is_about m.face m.session) xs ++ m ∷ [])
    after true = rw (drop_first-is (is_of m.face) (drop_first (is_about m.face m.session) xs ++ m ∷ [])) (apart-drop (is_of m.face) _ apart)
    after false = apart

pub mark-fits : (most : ℕ) (m : Mark) (xs : List Mark) → m.session < 2 ^ 64 → m.when < 2 ^ 64 → AreFit most xs → AreFit most (marks_with most m xs)
mark-fits most m xs session moment fit = fit-with most m xs session moment fit

pub clear-fits : (most : ℕ) (f : Face) (s : ℕ) (xs : List Mark) → AreFit most xs → AreFit most (without_first (is_about f s) xs)
clear-fits most f s xs fit = rw (drop_first-is (is_about f s) xs) (fit-drop most (is_about f s) xs fit)

-- ---- so they may be written one after another

none-before : (m : Mark) (xs ys : List Mark) → AreApart (xs ++ m ∷ ys) → NoneAbout m.face m.session xs
none-before m [] ys apart = tt
none-before m (x ∷ xs) ys (first, rest) = (here xs first, none-before m xs ys rest)
  where
    here : (zs : List Mark) → NoneAbout x.face x.session (zs ++ m ∷ ys) → is_about m.face m.session x ≡ false
    here [] (is, none) = about-back x.face m.face x.session m.session is
    here (z ∷ zs) (is, none) = here zs none

goes-last : (most : ℕ) (m : Mark) (xs : List Mark) → NoneAbout m.face m.session xs → marks_of m.face (xs ++ m ∷ []) ≤ most
    → marks_with most m xs ≡ xs ++ m ∷ []
unfolding marks_with
goes-last most m xs none few =
    let same : without_first (is_about m.face m.session) xs ≡ xs = drop_first-is (is_about m.face m.session) xs ∙ none-first m.face m.session xs none in
    let shut : nat_lt most (marks_of m.face (xs ++ m ∷ [])) ≡ false = le-ltb most (marks_of m.face (xs ++ m ∷ [])) few in
    rw (same, shut) refl

follow : (earlier marks : List Mark) → AreSmall marks → AreApart (earlier ++ marks) → ((f : Face) → marks_of f (earlier ++ marks) ≤ MARKS_MAX)
    → AreMarked earlier marks
follow earlier [] small apart few = tt
follow earlier (m ∷ marks) (session, moment, small) apart few =
    let next : earlier ++ m ∷ marks ≡ (earlier ++ m ∷ []) ++ marks = sym (append_assoc earlier (m ∷ []) marks) in
    let many : marks_of m.face (earlier ++ m ∷ marks) ≤ MARKS_MAX = few m.face in
    let last : marks_of m.face (earlier ++ m ∷ []) ≤ MARKS_MAX =
    omega (arith, rw next at many, count-front m.face (earlier ++ m ∷ []) marks) in (
      session,
      moment,
      goes-last MARKS_MAX m earlier (none-before m earlier marks apart) last,
      follow (earlier ++ m ∷ []) marks small (rw next at apart) (λ f. rw next at (few f)),
    )

pub fit-marked : (marks : List Mark) → AreFit MARKS_MAX marks → AreMarked [] marks
fit-marked marks fit = follow [] marks fit.small fit.apart fit.few
