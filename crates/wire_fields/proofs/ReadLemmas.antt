-- The laws of reading, for every format: what is read is spelled so, what is spelled so is read; what
-- is refused has this refusal, what has a refusal is refused with it; and a settled answer stays.
use Rattle.std.proofs.Common.{◌≡◌, ℕ, ◌+◌, ◌-◌, ◌≤◌, List, [], ◌++◌, length, take, drop, Option, Some, None, Result, Ok, Err, refl, sym, ap, ◌∙◌, subst, inl, inr, arith, add-zero, append_assoc, length-append, length-drop}
use Rattle.std.proofs.lemmas.List.{length-take-le}
use Rattle.std.proofs.Math.Seq.{drop-append_seam}
use Rattle.wire_fields.specs.declared.miss.Miss.{Miss}
use Rattle.wire_fields.specs.declared.miss.Miss.TheVariants as misses
use Rattle.wire_fields.specs.Kind.{Kind, ValueOf, SpellsKind}
use Rattle.wire_fields.specs.Format.{Format, give, place, since, field, such_that, and_then, Spells}
use Rattle.wire_fields.specs.Refusal.{Stop, truncated, because, Misfit, Refusal}
use Rattle.wire_fields.specs.Reading.{look, ahead, named, judged, go_on, read, IsOctets}
use Rattle.wire_fields.proofs.TextLemmas.{since_part, since_place, front_seam, part_seam, rest_seam, octets-drop}
use Rattle.wire_fields.proofs.ResultLemmas.{found, stopped, found_is, stopped_is, go_on_ok, go_on_err}
use Rattle.wire_fields.proofs.KindLemmas.{look-found, look-only, look-ends, look-short, look-absent, look-is_absent}

-- ---- what is spelled so is read

pub read-only : {C A : Type 0} (f : Format C A) (front w rest : List ℕ) (a : A) → Spells f front w a
    → read f (front ++ (w ++ rest)) (length front) ≡ found a (length front + length w)
read-only (give x) front w rest a s = rw (s.0, s.1, add-zero) refl
read-only place front w rest a s = rw (s.0, s.1, add-zero) refl
read-only (since p) front w rest a s = rw (s.0, s.1, since_part p front rest, add-zero) refl
read-only (field k cause) front w rest a s =
    rw (drop-append_seam front (w ++ rest), look-only k w rest a s) refl
read-only (such_that f conditions) front w rest a s =
    let there = read-only f front w rest a s.0 in
    rw (there, s.1) refl
read-only (and_then f g) front w rest a (u, v, x, parts, first, second) =
    let whole : front ++ (w ++ rest) ≡ front ++ (u ++ (v ++ rest)) =
    ap (λ t. front ++ (t ++ rest)) parts ∙ ap (λ t. front ++ t) (append_assoc u v rest) in
    let here = read-only f front u (v ++ rest) x first in
    let there = read-only (g x) (front ++ u) v rest a second in
    let moved : (front ++ u) ++ (v ++ rest) ≡ front ++ (u ++ (v ++ rest)) = append_assoc front u (v ++ rest) in
    let at : length (front ++ u) ≡ length front + length u = length-append front u in
    let long : length (front ++ u) + length v ≡ length front + length w =
    omega (arith, length-append front u, length-append u v, ap length parts) in
    ap (λ t. go_on (read f t (length front)) (λ x. read (g x.0) t x.1)) whole
    ∙ ap (λ r. go_on r (λ x. read (g x.0) (front ++ (u ++ (v ++ rest))) x.1)) here
    ∙ ap (λ n. read (g x) (front ++ (u ++ (v ++ rest))) n) (sym at)
    ∙ ap (λ t. read (g x) t (length (front ++ u))) (sym moved)
    ∙ there
    ∙ ap (λ n. found a n) long

-- ---- what is read is spelled so

-- between two places of the text, of which the second isn't before the first, the fields are spelled
pub record IsThere {C A : Type 0} (f : Format C A) (text : List ℕ) (at to : ℕ) (a : A) : Type 0 where
  pub behind : at ≤ to
  pub within : to ≤ length text
  pub spells : Spells f (take at text) (take (to - at) (drop at text)) a

nothing : (text : List ℕ) (at to : ℕ) → at ≡ to → take (to - at) (drop at text) ≡ []
nothing text at to e = let none : to - at ≡ 0 = omega arith in rw none refl

field-found : {C : Type 0} (k : Kind) (cause : C) (text : List ℕ) (at : ℕ) (a : ValueOf k) (to : ℕ) (r : Result (ValueOf k × ℕ) Miss)
    → IsOctets text → at ≤ length text → look k (drop at text) ≡ r → named at cause (ahead at r) ≡ found a to
    → IsThere (field k cause) text at to a
field-found k cause text at a to (Ok (x, n)) fits h is e =
    let same : (x ≡ a) × (at + n ≡ to) = found_is x a (at + n) to e in
    let there = look-found k (drop at text) x n (octets-drop at text fits) is in
    let size : to - at ≡ n = omega (arith, same.1) in
    let long = length-drop at text in
    record {
      behind = omega (arith, same.1);
      within = omega (arith, same.1, long, there.0);
      spells = subst (λ m. SpellsKind k (take m (drop at text)) a) (sym size) (subst (λ y. SpellsKind k (take n (drop at text)) y) same.0 there.1);
    }
field-found k cause text at a to (Err misses.Truncated) fits h is e = absurd (cc)
field-found k cause text at a to (Err misses.Absent) fits h is e = absurd (cc)

judged-found : {C A : Type 0} (at : ℕ) (o : Option C) (x : A × ℕ) (a : A) (to : ℕ) → judged at o x ≡ found a to → (o ≡ None) × (x.0 ≡ a) × (x.1 ≡ to)
judged-found at None x a to e = let same = found_is x.0 a x.1 to e in (refl, same.0, same.1)
judged-found at (Some cause) x a to e = absurd (cc)

such_that-there : {C A : Type 0} (f : Format C A) (conditions : A → Option C) (text : List ℕ) (at to : ℕ) (y : A) (m : ℕ) (a : A)
    → IsThere f text at m y → (conditions y ≡ None) × (y ≡ a) × (m ≡ to) → IsThere (such_that f conditions) text at to a
such_that-there f conditions text at to y m a there same =
    let whole = subst (λ z. IsThere f text at to z) same.1 (subst (λ n. IsThere f text at n y) same.2 there) in
    record {
      behind = whole.behind;
      within = whole.within;
      spells = (whole.spells, subst (λ z. conditions z ≡ None) same.1 same.0);
    }

pub read-found : {C A : Type 0} (f : Format C A) (text : List ℕ) (at : ℕ) (a : A) (to : ℕ)
    → IsOctets text → at ≤ length text → read f text at ≡ found a to → IsThere f text at to a
read-found (give x) text at a to fits h e =
    let same : (x ≡ a) × (at ≡ to) = found_is x a at to e in
    record { behind = omega (arith, same.1); within = omega (arith, same.1); spells = (nothing text at to same.1, sym same.0) }
read-found place text at a to fits h e =
    let same : (at ≡ a) × (at ≡ to) = found_is at a at to e in
    record {
      behind = omega (arith, same.1);
      within = omega (arith, same.1);
      spells = (nothing text at to same.1, omega (arith, same.0, length-take-le at text h));
    }
read-found (since p) text at a to fits h e =
    let same : (take (at - p) (drop p text) ≡ a) × (at ≡ to) = found_is (take (at - p) (drop p text)) a at to e in
    record {
      behind = omega (arith, same.1);
      within = omega (arith, same.1);
      spells = (nothing text at to same.1, sym same.0 ∙ since_place p at text);
    }
read-found (field k cause) text at a to fits h e = field-found k cause text at a to (look k (drop at text)) fits h refl e
read-found (such_that f conditions) text at a to fits h e =
    let (x, first, second) = go_on_ok (read f text at) (λ x. judged at (conditions x.0) x) (a, to) e in
    let same = judged-found at (conditions x.0) x a to second in
    let there = read-found f text at x.0 x.1 fits h first in
    such_that-there f conditions text at to x.0 x.1 a there same
read-found (and_then f g) text at a to fits h e =
    let (x, first, second) = go_on_ok (read f text at) (λ x. read (g x.0) text x.1) (a, to) e in
    let here = read-found f text at x.0 x.1 fits h first in
    let there = read-found (g x.0) text x.1 a to fits here.within second in
    record {
      behind = omega (arith, here.behind, there.behind);
      within = there.within;
      spells = (
        take (x.1 - at) (drop at text),
        take (to - x.1) (drop x.1 text),
        x.0,
        part_seam text at x.1 to here.behind there.behind,
        here.spells,
        subst (λ t. Spells (g x.0) t (take (to - x.1) (drop x.1 text)) a) (sym (front_seam text at x.1 here.behind)) there.spells,
      );
    }

-- ---- what is refused has this refusal

field-refused : {C : Type 0} (k : Kind) (cause : C) (text : List ℕ) (at p : ℕ) (s : Stop C) (r : Result (ValueOf k × ℕ) Miss)
    → IsOctets text → at ≤ length text → look k (drop at text) ≡ r → named at cause (ahead at r) ≡ stopped p s
    → Refusal (field k cause) (take at text) (drop at text) p s
field-refused k cause text at p s (Ok (x, n)) fits h is e = absurd (cc)
field-refused {C} k cause text at p s (Err misses.Truncated) fits h is e =
    let same : (at ≡ p) × (truncated ≡ s) = stopped_is {A = ValueOf k × ℕ} {S = Stop C} at p truncated s e in
    (omega (arith, same.0, length-take-le at text h), subst (λ t. Misfit k cause (drop at text) t) same.1 (look-ends k (drop at text) (octets-drop at text fits) is))
field-refused {C} k cause text at p s (Err misses.Absent) fits h is e =
    let same : (at ≡ p) × (because cause ≡ s) = stopped_is {A = ValueOf k × ℕ} {S = Stop C} at p (because cause) s e in
    (omega (arith, same.0, length-take-le at text h), subst (λ t. Misfit k cause (drop at text) t) same.1 (look-absent k (drop at text) is, refl))

judged-refused : {C A : Type 0} (at : ℕ) (o : Option C) (x : A × ℕ) (p : ℕ) (s : Stop C) → judged at o x ≡ stopped p s
    → (cause : C) × (o ≡ Some cause) × (p ≡ at) × (s ≡ because cause)
judged-refused at None x p s e = absurd (cc)
judged-refused {C} {A} at (Some cause) x p s e =
    let same : (at ≡ p) × (because cause ≡ s) = stopped_is {A = A × ℕ} {S = Stop C} at p (because cause) s e in
    (cause, refl, sym same.0, sym same.1)

pub read-refused : {C A : Type 0} (f : Format C A) (text : List ℕ) (at p : ℕ) (s : Stop C)
    → IsOctets text → at ≤ length text → read f text at ≡ stopped p s → Refusal f (take at text) (drop at text) p s
read-refused (give x) text at p s fits h e = cc
read-refused place text at p s fits h e = cc
read-refused (since q) text at p s fits h e = cc
read-refused (field k cause) text at p s fits h e = field-refused k cause text at p s (look k (drop at text)) fits h refl e
read-refused (such_that f conditions) text at p s fits h e =
    elim (go_on_err (read f text at) (λ x. judged at (conditions x.0) x) (p, s) e) [
      | inl first ↦ inl (read-refused f text at p s fits h first)
      | inr (x, first, second) ↦
          let there = read-found f text at x.0 x.1 fits h first in
          let (cause, fails, spot, why) = judged-refused at (conditions x.0) x p s second in
          inr (
            omega (arith, spot, length-take-le at text h),
            record {
              text = take (x.1 - at) (drop at text);
              rest = drop x.1 text;
              value = x.0;
              cause = cause;
              parts = rest_seam text at x.1 there.behind;
              spells = there.spells;
              fails = fails;
              why = why;
            },
          )
    ]
read-refused (and_then f g) text at p s fits h e =
    elim (go_on_err (read f text at) (λ x. read (g x.0) text x.1) (p, s) e) [
      | inl first ↦ inl (read-refused f text at p s fits h first)
      | inr (x, first, second) ↦
          let here = read-found f text at x.0 x.1 fits h first in
          let there = read-refused (g x.0) text x.1 p s fits here.within second in
          inr (
            take (x.1 - at) (drop at text),
            drop x.1 text,
            x.0,
            rest_seam text at x.1 here.behind,
            here.spells,
            subst (λ t. Refusal (g x.0) t (drop x.1 text) p s) (sym (front_seam text at x.1 here.behind)) there,
          )
    ]

-- ---- what has a refusal is refused with it

field-refuses : {C : Type 0} (k : Kind) (cause : C) (w : List ℕ) (at : ℕ) (s : Stop C)
    → IsOctets w → Misfit k cause w s → named at cause (ahead at (look k w)) ≡ stopped at s
field-refuses k cause w at truncated fits is = rw (look-short k w is) refl
field-refuses k cause w at (because d) fits is = rw (look-is_absent k w fits is.0, is.1) refl

pub octets-back : (front w : List ℕ) → IsOctets (front ++ w) → IsOctets w
octets-back front w fits = subst IsOctets (drop-append_seam front w) (octets-drop (length front) (front ++ w) fits)

pub read-refuses : {C A : Type 0} (f : Format C A) (front w : List ℕ) (p : ℕ) (s : Stop C)
    → IsOctets (front ++ w) → Refusal f front w p s → read f (front ++ w) (length front) ≡ stopped p s
read-refuses (give x) front w p s fits r = absurd r
read-refuses place front w p s fits r = absurd r
read-refuses (since q) front w p s fits r = absurd r
read-refuses (field k cause) front w p s fits r =
    rw (drop-append_seam front w, r.0) (field-refuses k cause w (length front) s (octets-back front w fits) r.1)
read-refuses (such_that f conditions) front w p s fits (inl r) =
    let first = read-refuses f front w p s fits r in
    rw first refl
read-refuses (such_that f conditions) front w p s fits (inr (spot, r)) =
    let there = read-only f front r.text r.rest r.value r.spells in
    rw (r.parts, there, r.fails, spot, r.why) refl
read-refuses (and_then f g) front w p s fits (inl r) =
    let first = read-refuses f front w p s fits r in
    rw first refl
read-refuses (and_then f g) front w p s fits (inr (u, v, x, parts, first, second)) =
    let moved : (front ++ u) ++ v ≡ front ++ (u ++ v) = append_assoc front u v in
    let whole : (front ++ u) ++ v ≡ front ++ w = moved ∙ ap (λ t. front ++ t) (sym parts) in
    let here = read-only f front u v x first in
    let there = read-refuses (g x) (front ++ u) v p s (subst IsOctets (sym whole) fits) second in
    ap (λ t. go_on (read f (front ++ t) (length front)) (λ x. read (g x.0) (front ++ t) x.1)) parts
    ∙ ap (λ r. go_on r (λ x. read (g x.0) (front ++ (u ++ v)) x.1)) here
    ∙ ap (λ n. read (g x) (front ++ (u ++ v)) n) (sym (length-append front u))
    ∙ ap (λ t. read (g x) t (length (front ++ u))) (sym moved)
    ∙ there

-- ---- a refusal stands within the text

pub refusal-place : {C A : Type 0} (f : Format C A) (front w : List ℕ) (p : ℕ) (s : Stop C) → Refusal f front w p s
    → (length front ≤ p) × (p ≤ length front + length w)
refusal-place (give x) front w p s r = absurd r
refusal-place place front w p s r = absurd r
refusal-place (since q) front w p s r = absurd r
refusal-place (field k cause) front w p s r = (omega (arith, r.0), omega (arith, r.0))
refusal-place (such_that f conditions) front w p s (inl r) = refusal-place f front w p s r
refusal-place (such_that f conditions) front w p s (inr (spot, r)) = (omega (arith, spot), omega (arith, spot))
refusal-place (and_then f g) front w p s (inl r) = refusal-place f front w p s r
refusal-place (and_then f g) front w p s (inr (u, v, x, parts, first, second)) =
    let there = refusal-place (g x) (front ++ u) v p s second in
    let before = length-append front u in
    let all : length w ≡ length u + length v = ap length parts ∙ length-append u v in
    (omega (arith, there.0, before), omega (arith, there.1, before, all))
