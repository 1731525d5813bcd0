-- How a gateway is set up, as the definition has it.

use Rattle.std.specs.Coded.{le_prop}
use Rattle.std.proofs.Common.{◌≡◌, ℕ, ◌==◌, ◌<◌, ◌≤◌, nat_le, nat_lt, Bool, true, false, ◌&&◌, not, refl, ap, sym, subst, ◌∙◌}
use Rattle.std.proofs.lemmas.Bool.{eqb-true, le-leb, lt-ltb}
use Rattle.block_types.specs.declared.types.BlockTypes.{BlockTypes}
use Rattle.block_types.specs.Pair.{IsPair}
use Rattle.gate_config.specs.declared.file.BlocksConfig.{BlocksConfig}
use Rattle.peer_half.specs.Types.{are_apart, are_private, is_pair, pair_of}
use Rattle.peer_half.specs.Setup.{types_in, types_where}

-- ---- types that may be those of residues and wraps pass the test

both : (a b : Bool) → a ≡ true → b ≡ true → (a && b) ≡ true
both true true first second = refl
both true false first second = second
both false b first second = first

other-than : (n m : ℕ) (b : Bool) → (n == m) ≡ b → (n ≡ m → ⊥) → not (n == m) ≡ true
other-than n m true is apart = absurd (apart (eqb-true n m is))
other-than n m false is apart = rw is refl

within : (n : ℕ) → 192 ≤ n → n < 256 → (nat_le 192 n && nat_lt n 256) ≡ true
within n low high = both (nat_le 192 n) (nat_lt n 256) (le-leb 192 n low) (lt-ltb n 256 high)

passes : (residue wrap : ℕ) → IsPair residue wrap → is_pair residue wrap ≡ true
passes residue wrap pair =
    both (are_private residue wrap) (are_apart residue wrap)
    (both (nat_le 192 residue && nat_lt residue 256) (nat_le 192 wrap && nat_lt wrap 256)
    (within residue pair.residue_low pair.residue_high) (within wrap pair.wrap_low pair.wrap_high))
    (both (not (residue == 193)) (not (wrap == 192) && not (wrap == residue))
    (other-than residue 193 (residue == 193) refl pair.residue_other)
    (both (not (wrap == 192)) (not (wrap == residue))
    (other-than wrap 192 (wrap == 192) refl pair.wrap_other) (other-than wrap residue (wrap == residue) refl pair.apart)))

-- ---- they are those that the file says

pair-once : (residue wrap : ℕ) → IsProp (IsPair residue wrap)
pair-once residue wrap = hlevel le_prop

types-same : (t : BlockTypes) (residue wrap : ℕ) (pair : IsPair residue wrap) → t.residue ≡ residue → t.wrap ≡ wrap
    → t ≡ record { residue = residue; wrap = wrap; pair = pair }
types-same t residue wrap pair residue_is wrap_is =
    subst (λ (r : ℕ). (p : IsPair r wrap) → t ≡ record { residue = r; wrap = wrap; pair = p }) residue_is
    (subst (λ (w : ℕ). (p : IsPair t.residue w) → t ≡ record { residue = t.residue; wrap = w; pair = p }) wrap_is
    (λ p. ap (λ (q : IsPair t.residue t.wrap). record { residue = t.residue; wrap = t.wrap; pair = q }) (pair-once t.residue t.wrap t.pair p)))
    pair

types-are : (t : BlockTypes) (residue wrap : ℕ) (may : Bool) (is : is_pair residue wrap ≡ may) → IsPair residue wrap
    → t.residue ≡ residue → t.wrap ≡ wrap → t ≡ types_where residue wrap may is
unfolding types_where
types-are t residue wrap true is pair residue_is wrap_is = types-same t residue wrap (pair_of residue wrap is) residue_is wrap_is
types-are t residue wrap false is pair residue_is wrap_is = let not_so : true ≡ false = sym (passes residue wrap pair) ∙ is in absurd (cc)

pub types-so : (t : BlockTypes) (b : BlocksConfig) → IsPair b.residue_block b.wrap_block
    → (t.residue ≡ b.residue_block) × (t.wrap ≡ b.wrap_block) → t ≡ types_in b
types-so t b pair taken =
    types-are t b.residue_block b.wrap_block (is_pair b.residue_block b.wrap_block) refl pair taken.0 taken.1
