-- A settled answer stays, whatever octets follow; and a text has one front or one refusal.
use Rattle.std.proofs.Common.{zero, suc, lit<, ◌∷◌, length-append, ◌≡◌, ℕ, ◌-◌, ◌≤◌, List, [], ◌++◌, length, take, drop, Result, Ok, Err, ◌⊎◌, refl, sym, ap, ◌∙◌, inl, inr, arith, take-append-drop}
use Rattle.std.proofs.Math.Nat.{sub-zero}
use Rattle.std.proofs.lemmas.List.{length-take-le, drop-append-le, take-append-le}
use Rattle.wire_fields.specs.declared.miss.Miss.{Miss}
use Rattle.wire_fields.specs.declared.miss.Miss.TheVariants as misses
use Rattle.wire_fields.specs.Kind.{Kind, ValueOf}
use Rattle.wire_fields.specs.Format.{Format, give, place, since, field, such_that, and_then, Spells}
use Rattle.wire_fields.specs.Refusal.{Stop, truncated, because, Refusal, Begins, ExactlyOne}
use Rattle.wire_fields.specs.Reading.{look, ahead, named, judged, go_on, read, IsSettled, IsOctets}
use Rattle.wire_fields.proofs.TextLemmas.{octets-drop, since_place}
use Rattle.wire_fields.proofs.ResultLemmas.{found, found_is, stopped_is}
use Rattle.wire_fields.proofs.KindLemmas.{look-absent-more, look-found-more}
use Rattle.wire_fields.proofs.ReadLemmas.{read-only, read-found, read-refused, read-refuses, refusal-place, octets-back}

-- ---- a settled answer stays

field-stays : {C : Type 0} (k : Kind) (cause : C) (w more : List ℕ) (at : ℕ) (r : Result (ValueOf k × ℕ) Miss)
    → IsOctets w → look k w ≡ r → IsSettled (named at cause (ahead at r)) → look k (w ++ more) ≡ r
field-stays k cause w more at (Ok x) fits is settled = look-found-more k w more x.0 x.1 fits is
field-stays k cause w more at (Err misses.Truncated) fits is settled = absurd settled
field-stays k cause w more at (Err misses.Absent) fits is settled = look-absent-more k w more fits is

go_on-stays : {C A B : Type 0} (r r' : Result A (ℕ × Stop C)) (f f' : A → Result B (ℕ × Stop C))
    → (IsSettled r → r' ≡ r) → ((x : A) → r ≡ Ok x → IsSettled (f x) → f' x ≡ f x)
    → IsSettled (go_on r f) → go_on r' f' ≡ go_on r f
go_on-stays (Ok x) r' f f' first second settled = rw (first tt) (second x refl settled)
go_on-stays (Err (p, truncated)) r' f f' first second settled = absurd settled
go_on-stays (Err (p, because c)) r' f f' first second settled = rw (first tt) refl

pub read-stays : {C A : Type 0} (f : Format C A) (text more : List ℕ) (at : ℕ)
    → IsOctets text → at ≤ length text → IsSettled (read f text at) → read f (text ++ more) at ≡ read f text at
read-stays (give x) text more at fits h settled = refl
read-stays place text more at fits h settled = refl
read-stays (since p) text more at fits h settled =
    let same : take (at - p) (drop p (text ++ more)) ≡ take (at - p) (drop p text) =
    since_place p at (text ++ more) ∙ ap (drop p) (take-append-le at text more h) ∙ sym (since_place p at text) in
    ap (λ t. found t at) same
read-stays (field k cause) text more at fits h settled =
    rw (drop-append-le at text more h)
    (ap (λ r. named at cause (ahead at r)) (field-stays k cause (drop at text) more at (look k (drop at text)) (octets-drop at text fits) refl settled))
read-stays (such_that f conditions) text more at fits h settled =
    go_on-stays (read f text at) (read f (text ++ more) at) (λ x. judged at (conditions x.0) x) (λ x. judged at (conditions x.0) x)
    (read-stays f text more at fits h) (λ x is s. refl) settled
read-stays (and_then f g) text more at fits h settled =
    go_on-stays (read f text at) (read f (text ++ more) at) (λ x. read (g x.0) text x.1) (λ x. read (g x.0) (text ++ more) x.1)
    (read-stays f text more at fits h)
    (λ x is s. read-stays (g x.0) text more x.1 fits (read-found f text at x.0 x.1 fits h is).within s) settled

-- ---- fronts: from the start of a text

-- what spells the fields from the start is read
pub begins-read : {C A : Type 0} (f : Format C A) (text : List ℕ) (k : ℕ) (a : A) → Begins f text k a → read f text 0 ≡ found a k
begins-read f text k a b =
    let there = read-only f [] (take k text) (drop k text) a b.spells in
    ap (λ t. read f t 0) (sym (take-append-drop k text)) ∙ there
    ∙ ap (λ n. found a n) (omega (arith, length-take-le k text b.within))

pub read-begins : {C A : Type 0} (f : Format C A) (text : List ℕ) (k : ℕ) (a : A) → IsOctets text → read f text 0 ≡ found a k → Begins f text k a
read-begins f text k a fits e =
    let there = read-found f text 0 a k fits (omega arith) e in
    record { within = there.within; spells = rw sub-zero at there.spells }

-- one of the two, for an answer of reading
one-of : {C A : Type 0} (f : Format C A) (text : List ℕ) (r : Result (A × ℕ) (ℕ × Stop C)) → IsOctets text → read f text 0 ≡ r
    → ((k : ℕ) × (a : A) × Begins f text k a) ⊎ ((at : ℕ) × (s : Stop C) × Refusal f [] text at s)
one-of f text (Ok x) fits e = inl (x.1, x.0, read-begins f text x.1 x.0 fits e)
one-of f text (Err s) fits e = inr (s.0, s.1, read-refused f text 0 s.0 s.1 fits (omega arith) e)

pub exactly_one : {C A : Type 0} (f : Format C A) (text : List ℕ) → IsOctets text → ExactlyOne f text
exactly_one {C} {A} f text fits = record {
  one = one-of f text (read f text 0) fits refl;
  one_front = λ j k a b x y.
      let same : (a ≡ b) × (j ≡ k) = found_is {E = ℕ × Stop C} a b j k (sym (begins-read f text j a x) ∙ begins-read f text k b y) in
      (same.1, same.0);
  one_refusal = λ p q s t x y.
      stopped_is {A = A × ℕ} p q s t (sym (read-refuses f [] text p s fits x) ∙ read-refuses f [] text q t fits y);
  not_both = λ k p a s x y.
      let no = sym (begins-read f text k a x) ∙ read-refuses f [] text p s fits y in cc;
}

-- at a place of refusal no front spells the fields
pub refused-not-spelled : {C A : Type 0} (f : Format C A) (front u v : List ℕ) (p : ℕ) (s : Stop C) (a : A)
    → IsOctets (front ++ (u ++ v)) → Refusal f front (u ++ v) p s → Spells f front u a → ⊥
refused-not-spelled f front u v p s a fits r spells =
    let no = sym (read-only f front u v a spells) ∙ read-refuses f front (u ++ v) p s fits r in cc

-- what is read of a longer text and ends within a shorter one is read of that too
pub read-within : {C A : Type 0} (f : Format C A) (text more : List ℕ) (a : A) (k : ℕ)
    → IsOctets (text ++ more) → k ≤ length text → read f (text ++ more) 0 ≡ found a k → read f text 0 ≡ found a k
read-within f text more a k fits h e =
    let there = read-begins f (text ++ more) k a fits e in
    begins-read f text k a (record { within = h; spells = rw (take-append-le k text more h) at there.spells })

-- ---- the same of spellings and refusals, without reading

pub octets-front : (text more : List ℕ) → IsOctets (text ++ more) → IsOctets text
octets-front [] more fits i = lit< tt
octets-front (x ∷ text) more fits zero = fits 0
octets-front (x ∷ text) more fits (suc i) = octets-front text more (λ j. fits (suc j)) i

-- octets in two parts
pub octets-parts : (w u v : List ℕ) → w ≡ u ++ v → IsOctets w → IsOctets u × IsOctets v
octets-parts w u v is fits =
    let both : IsOctets (u ++ v) = rw is at fits in (octets-front u v both, octets-back u v both)

-- a refusal for a cause stays
pub refusal-stays : {C A : Type 0} (f : Format C A) (text more : List ℕ) (at : ℕ) (cause : C) → IsOctets (text ++ more)
    → Refusal f [] text at (because cause) → Refusal f [] (text ++ more) at (because cause)
refusal-stays f text more at cause fits r =
    let short = octets-front text more fits in
    let refused = read-refuses f [] text at (because cause) short r in
    let settled : IsSettled (read f text 0) = rw refused tt in
    read-refused f (text ++ more) 0 at (because cause) fits (omega arith) (read-stays f text more 0 short (omega arith) settled ∙ refused)

-- a front stays one, and is one of each shorter text that holds it
pub begins-stays : {C A : Type 0} (f : Format C A) (text more : List ℕ) (k : ℕ) (a : A) → Begins f text k a → Begins f (text ++ more) k a
begins-stays f text more k a b = record {
  within = omega (arith, b.within, length-append text more);
  spells = rw (take-append-le k text more b.within) b.spells;
}

pub begins-within : {C A : Type 0} (f : Format C A) (text more : List ℕ) (k : ℕ) (a : A) → k ≤ length text
    → Begins f (text ++ more) k a → Begins f text k a
begins-within f text more k a h b = record { within = h; spells = rw (take-append-le k text more h) at b.spells }

-- a refusal stands in the text, or at its end
pub refusal-within : {C A : Type 0} (f : Format C A) (text : List ℕ) (at : ℕ) (s : Stop C) → Refusal f [] text at s → at ≤ length text
refusal-within f text at s r = omega (arith, (refusal-place f [] text at s r).1)
