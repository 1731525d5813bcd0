-- The laws of whole texts, after which nothing may stand.
use Rattle.std.proofs.Common.{◌≡◌, ℕ, ◌≢◌, Bool, true, false, eqb, List, [], length, take, Result, Ok, Err, ◌⊎◌, refl, sym, ap, ◌∙◌, subst, inl, inr, arith, eqb-true, eq-eqb, ne_eqb, take_all}
use Rattle.wire_fields.specs.Format.{Format, Spells}
use Rattle.wire_fields.specs.Refusal.{Stop, because, Begins}
use Rattle.wire_fields.specs.Reading.{go_on, read, IsOctets}
use Rattle.wire_fields.specs.Whole.{WholeRefusal, ended, read_whole, ExactlyOneWhole}
use Rattle.wire_fields.proofs.ResultLemmas.{stopped, ok_is, stopped_is, go_on_ok, go_on_err}
use Rattle.wire_fields.proofs.ReadLemmas.{read-refused, read-refuses}
use Rattle.wire_fields.proofs.StayLemmas.{begins-read, read-begins}

-- what spells the whole text begins it, and the other way round
begins-whole : {C A : Type 0} (f : Format C A) (text : List ℕ) (a : A) → Spells f [] text a → Begins f text (length text) a
begins-whole f text a s = record { within = omega arith; spells = rw (take_all (length text) text (omega arith)) s }

ended-here : {C A : Type 0} (trailing : C) (text : List ℕ) (x : A × ℕ) → x.1 ≡ length text → ended trailing text x ≡ Ok x.0
ended-here trailing text x is = rw (eq-eqb x.1 (length text) is) refl

ended-early : {C A : Type 0} (trailing : C) (text : List ℕ) (x : A × ℕ) → x.1 ≢ length text → ended trailing text x ≡ stopped x.1 (because trailing)
ended-early trailing text x early = rw (ne_eqb x.1 (length text) early) refl

-- at one of the two places
ended-ok : {C A : Type 0} (trailing : C) (text : List ℕ) (x : A × ℕ) (b : Bool) (a : A) → eqb x.1 (length text) ≡ b
    → ended trailing text x ≡ Ok a → (x.1 ≡ length text) × (x.0 ≡ a)
ended-ok {C} trailing text x true a is e =
    let here = eqb-true x.1 (length text) is in
    (here, ok_is {E = ℕ × Stop C} x.0 a (sym (ended-here trailing text x here) ∙ e))
ended-ok trailing text x false a is e = let no = rw is at e in absurd (cc)

ended-err : {C A : Type 0} (trailing : C) (text : List ℕ) (x : A × ℕ) (b : Bool) (p : ℕ) (s : Stop C) → eqb x.1 (length text) ≡ b
    → ended trailing text x ≡ stopped p s → (x.1 ≢ length text) × (x.1 ≡ p) × (because trailing ≡ s)
ended-err trailing text x true p s is e = let no = rw is at e in absurd (cc)
ended-err {C} {A} trailing text x false p s is e =
    let early : x.1 ≢ length text = λ same. let no = sym is ∙ eq-eqb x.1 (length text) same in cc in
    let both : (x.1 ≡ p) × (because trailing ≡ s) = stopped_is {A = A} x.1 p (because trailing) s (sym (ended-early trailing text x early) ∙ e) in
    (early, both.0, both.1)

pub whole-only : {C A : Type 0} (f : Format C A) (trailing : C) (text : List ℕ) (a : A) → Spells f [] text a → read_whole f trailing text ≡ Ok a
whole-only f trailing text a s =
    ap (λ r. go_on r (ended trailing text)) (begins-read f text (length text) a (begins-whole f text a s))
    ∙ ended-here trailing text (a, length text) refl

pub whole-found : {C A : Type 0} (f : Format C A) (trailing : C) (text : List ℕ) (a : A) → IsOctets text → read_whole f trailing text ≡ Ok a → Spells f [] text a
whole-found f trailing text a fits e =
    let (x, first, second) = go_on_ok (read f text 0) (ended trailing text) a e in
    let (here, value) = ended-ok trailing text x (eqb x.1 (length text)) a refl second in
    let begins = read-begins f text x.1 x.0 fits first in
    let all : take x.1 text ≡ text = take_all x.1 text (omega (arith, here)) in
    subst (λ y. Spells f [] text y) value (rw all at begins.spells)

pub whole-refuses : {C A : Type 0} (f : Format C A) (trailing : C) (text : List ℕ) (p : ℕ) (s : Stop C) → IsOctets text
    → WholeRefusal f trailing text p s → read_whole f trailing text ≡ stopped p s
whole-refuses f trailing text p s fits (inl r) = ap (λ r. go_on r (ended trailing text)) (read-refuses f [] text p s fits r)
whole-refuses f trailing text p s fits (inr (more, why)) =
    let begins : Begins f text p more.value = record { within = omega (arith, more.more); spells = more.spells } in
    let early : p ≢ length text = λ same. omega (arith, same, more.more) in
    ap (λ r. go_on r (ended trailing text)) (begins-read f text p more.value begins)
    ∙ ended-early trailing text (more.value, p) early ∙ ap (λ t. stopped p t) (sym why)

pub whole-refused : {C A : Type 0} (f : Format C A) (trailing : C) (text : List ℕ) (p : ℕ) (s : Stop C) → IsOctets text
    → read_whole f trailing text ≡ stopped p s → WholeRefusal f trailing text p s
whole-refused f trailing text p s fits e =
    elim (go_on_err (read f text 0) (ended trailing text) (p, s) e) [
      | inl first ↦ inl (read-refused f text 0 p s fits (omega arith) first)
      | inr (x, first, second) ↦
          let (early, spot, why) = ended-err trailing text x (eqb x.1 (length text)) p s refl second in
          let begins = read-begins f text x.1 x.0 fits first in
          let spells : Spells f [] (take p text) x.0 = subst (λ k. Spells f [] (take k text) x.0) spot begins.spells in
          inr (record { value = x.0; spells = spells; more = omega (arith, begins.within, spot, early) }, sym why)
    ]

-- one of the two, for an answer of reading
one-of : {C A : Type 0} (f : Format C A) (trailing : C) (text : List ℕ) (r : Result A (ℕ × Stop C)) → IsOctets text → read_whole f trailing text ≡ r
    → ((a : A) × Spells f [] text a) ⊎ ((at : ℕ) × (s : Stop C) × WholeRefusal f trailing text at s)
one-of f trailing text (Ok a) fits e = inl (a, whole-found f trailing text a fits e)
one-of f trailing text (Err s) fits e = inr (s.0, s.1, whole-refused f trailing text s.0 s.1 fits e)

pub exactly_one_whole : {C A : Type 0} (f : Format C A) (trailing : C) (text : List ℕ) → IsOctets text → ExactlyOneWhole f trailing text
exactly_one_whole {C} {A} f trailing text fits = record {
  one = one-of f trailing text (read_whole f trailing text) fits refl;
  one_value = λ a b x y. ok_is {E = ℕ × Stop C} a b (sym (whole-only f trailing text a x) ∙ whole-only f trailing text b y);
  one_refusal = λ p q s t x y. stopped_is {A = A} p q s t (sym (whole-refuses f trailing text p s fits x) ∙ whole-refuses f trailing text q t fits y);
  not_both = λ p a s x y. let no = sym (whole-only f trailing text a x) ∙ whole-refuses f trailing text p s fits y in cc;
}
