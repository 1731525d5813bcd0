-- Types that change places.

use Rattle.std.proofs.Common.{◌≡◌, ℕ, ◌<◌, ◌≤◌, ◌==◌, inl, inr, refl, sym, ap, ◌∙◌, arith}
use Rattle.std.proofs.lemmas.Bool.{ne_eqb, eq-eqb, cases_eq}
use Rattle.bundle_meaning.specs.Blocks.{residue_kind, wrap_kind}
use Rattle.block_types.specs.declared.types.BlockTypes.{BlockTypes}
use Rattle.block_types.specs.Pair.{swap}
use Rattle.block_types.specs.Types.{swapped}
use Rattle.block_types.specs.Laws.{TypesSwap}

-- ---- two numbers

swap-one : (one other n : ℕ) → n ≡ one → swap one other n ≡ other
swap-one one other n is = rw (eq-eqb n one is) refl

swap-other : (one other n : ℕ) → n ≡ other → swap one other n ≡ one
swap-other one other n is =
    elim (cases_eq n one) [
      | inl same ↦ swap-one one other n same ∙ (sym is ∙ same)
      | inr differs ↦ rw (ne_eqb n one differs, eq-eqb n other is) refl
    ]

swap-none : (one other n : ℕ) → (n ≡ one → ⊥) → (n ≡ other → ⊥) → swap one other n ≡ n
swap-none one other n differs none = rw (ne_eqb n one differs, ne_eqb n other none) refl

-- ---- types

pub swapped-residue : (types : BlockTypes) → swapped types residue_kind ≡ types.residue
unfolding swapped
swapped-residue types =
    ap (swap wrap_kind types.wrap) (swap-one residue_kind types.residue 192 refl)
    ∙ swap-none wrap_kind types.wrap types.residue types.pair.residue_other (λ is. types.pair.apart (sym is))

pub swapped-given_residue : (types : BlockTypes) → swapped types types.residue ≡ residue_kind
unfolding swapped
swapped-given_residue types =
    ap (swap wrap_kind types.wrap) (swap-other residue_kind types.residue types.residue refl)
    ∙ swap-none wrap_kind types.wrap 192 (λ is. absurd (omega (arith, is))) (λ is. types.pair.wrap_other (sym is))

pub swapped-wrap : (types : BlockTypes) → swapped types wrap_kind ≡ types.wrap
unfolding swapped
swapped-wrap types =
    ap (swap wrap_kind types.wrap) (swap-none residue_kind types.residue 193 (λ is. absurd (omega (arith, is))) (λ is. types.pair.residue_other (sym is)))
    ∙ swap-one wrap_kind types.wrap 193 refl

pub swapped-given_wrap : (types : BlockTypes) → swapped types types.wrap ≡ wrap_kind
unfolding swapped
swapped-given_wrap types =
    ap (swap wrap_kind types.wrap) (swap-none residue_kind types.residue types.wrap types.pair.wrap_other types.pair.apart)
    ∙ swap-other wrap_kind types.wrap types.wrap refl

pub swapped-none : (types : BlockTypes) (kind : ℕ) → (kind ≡ residue_kind → ⊥) → (kind ≡ wrap_kind → ⊥)
    → (kind ≡ types.residue → ⊥) → (kind ≡ types.wrap → ⊥) → swapped types kind ≡ kind
unfolding swapped
swapped-none types kind r w given_r given_w =
    ap (swap wrap_kind types.wrap) (swap-none residue_kind types.residue kind r given_r)
    ∙ swap-none wrap_kind types.wrap kind w given_w

-- a type and what it becomes: one of the five
pub data Becomes (types : BlockTypes) (kind : ℕ) : Type 0 where
  residue : kind ≡ residue_kind → Becomes types kind
  given_residue : kind ≡ types.residue → Becomes types kind
  wrap : kind ≡ wrap_kind → Becomes types kind
  given_wrap : kind ≡ types.wrap → Becomes types kind
  itself : (kind ≡ residue_kind → ⊥) → (kind ≡ wrap_kind → ⊥) → (kind ≡ types.residue → ⊥) → (kind ≡ types.wrap → ⊥)
      → Becomes types kind

becomes : (types : BlockTypes) (kind : ℕ) → Becomes types kind
becomes types kind =
    elim (cases_eq kind residue_kind) [
      | inl is ↦ residue is
      | inr r ↦ elim (cases_eq kind wrap_kind) [
        | inl is ↦ wrap is
        | inr w ↦ elim (cases_eq kind types.residue) [
          | inl is ↦ given_residue is
          | inr given_r ↦ elim (cases_eq kind types.wrap) [
            | inl is ↦ given_wrap is
            | inr given_w ↦ itself r w given_r given_w
          ]
        ]
      ]
    ]

pub swapped-twice : (types : BlockTypes) (kind : ℕ) → swapped types (swapped types kind) ≡ kind
swapped-twice types kind = by (becomes types kind)
  where
    by : Becomes types kind → swapped types (swapped types kind) ≡ kind
    by (residue is) = rw (is, swapped-residue types) (swapped-given_residue types)
    by (given_residue is) = rw (is, swapped-given_residue types) (swapped-residue types)
    by (wrap is) = rw (is, swapped-wrap types) (swapped-given_wrap types)
    by (given_wrap is) = rw (is, swapped-given_wrap types) (swapped-wrap types)
    by (itself r w given_r given_w) =
        let same = swapped-none types kind r w given_r given_w in ap (swapped types) same ∙ same

-- those from 192 to 255 stay among these
pub swapped-private : (types : BlockTypes) (kind : ℕ) → 192 ≤ kind → kind < 256 → (192 ≤ swapped types kind) × (swapped types kind < 256)
swapped-private types kind low high = by (becomes types kind)
  where
    by : Becomes types kind → (192 ≤ swapped types kind) × (swapped types kind < 256)
    by (residue is) = rw (is, swapped-residue types) (types.pair.residue_low, types.pair.residue_high)
    by (given_residue is) = rw (is, swapped-given_residue types) (omega arith, omega arith)
    by (wrap is) = rw (is, swapped-wrap types) (types.pair.wrap_low, types.pair.wrap_high)
    by (given_wrap is) = rw (is, swapped-given_wrap types) (omega arith, omega arith)
    by (itself r w given_r given_w) = rw (swapped-none types kind r w given_r given_w) (low, high)

-- and all others stay
pub swapped-below : (types : BlockTypes) (kind : ℕ) → kind < 192 → swapped types kind ≡ kind
swapped-below types kind low =
    swapped-none types kind (λ is. absurd (omega (arith, low, is))) (λ is. absurd (omega (arith, low, is)))
    (λ is. absurd (omega (arith, low, is, types.pair.residue_low))) (λ is. absurd (omega (arith, low, is, types.pair.wrap_low)))

pub swapped-above : (types : BlockTypes) (kind : ℕ) → 256 ≤ kind → swapped types kind ≡ kind
swapped-above types kind high =
    swapped-none types kind (λ is. absurd (omega (arith, high, is))) (λ is. absurd (omega (arith, high, is)))
    (λ is. absurd (omega (arith, high, is, types.pair.residue_high))) (λ is. absurd (omega (arith, high, is, types.pair.wrap_high)))

-- with 192 and 193 all stay
pub swapped-same : (types : BlockTypes) → types.residue ≡ residue_kind → types.wrap ≡ wrap_kind → (kind : ℕ) → swapped types kind ≡ kind
swapped-same types r w kind = by (becomes types kind)
  where
    by : Becomes types kind → swapped types kind ≡ kind
    by (residue is) = rw is (swapped-residue types ∙ r)
    by (given_residue is) = rw is (swapped-given_residue types ∙ sym r)
    by (wrap is) = rw is (swapped-wrap types ∙ w)
    by (given_wrap is) = rw is (swapped-given_wrap types ∙ sym w)
    by (itself no_r no_w given_r given_w) = swapped-none types kind no_r no_w given_r given_w

-- what is a low type afterwards was it before
pub swapped-low : (types : BlockTypes) (kind low : ℕ) → low < 192 → swapped types kind ≡ low → kind ≡ low
swapped-low types kind low small is =
    sym (swapped-twice types kind) ∙ (ap (swapped types) is ∙ swapped-below types low small)

-- tests of low types see differs difference
pub swapped-test : (types : BlockTypes) (kind low : ℕ) → low < 192 → (swapped types kind == low) ≡ (kind == low)
swapped-test types kind low small =
    elim (cases_eq kind low) [
      | inl is ↦
          let same : swapped types kind ≡ low = ap (swapped types) is ∙ swapped-below types low small in
          eq-eqb (swapped types kind) low same ∙ sym (eq-eqb kind low is)
      | inr differs ↦ ne_eqb (swapped types kind) low (λ is. differs (swapped-low types kind low small is)) ∙ sym (ne_eqb kind low differs)
    ]

-- two types are alike afterwards if and only if they were before
pub swapped-alike : (types : BlockTypes) (one other : ℕ) → (swapped types one == swapped types other) ≡ (one == other)
swapped-alike types one other =
    elim (cases_eq one other) [
      | inl is ↦ eq-eqb (swapped types one) (swapped types other) (ap (swapped types) is) ∙ sym (eq-eqb one other is)
      | inr differs ↦
          ne_eqb (swapped types one) (swapped types other)
          (λ is. differs (sym (swapped-twice types one) ∙ (ap (swapped types) is ∙ swapped-twice types other)))
          ∙ sym (ne_eqb one other differs)
    ]

pub types_swap : TypesSwap
types_swap types = record {
  residue = swapped-residue types;
  wrap = swapped-wrap types;
  twice = swapped-twice types;
  others = swapped-none types;
}
