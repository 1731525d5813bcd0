-- Which types residues and wraps may have on the wires, as a test.

use Rattle.std.specs.Prelude.{◌≡◌, ℕ, ◌==◌, nat_le, nat_lt, Bool, true, ◌&&◌, not, T}
use Rattle.std.proofs.Common.{sym, ap, ◌∙◌, subst}
use Rattle.std.proofs.lemmas.Bool.{and_parts, eq-eqb, leb-true, ltb-true}
use Rattle.block_types.specs.Pair.{IsPair}

-- private types, and the wrap's is neither the usual one of a residue nor the residue's
abbrev pub are_private : ℕ → ℕ → Bool
are_private residue wrap =
    (nat_le 192 residue && nat_lt residue 256) && (nat_le 192 wrap && nat_lt wrap 256)

abbrev pub are_apart : ℕ → ℕ → Bool
are_apart residue wrap = not (residue == 193) && (not (wrap == 192) && not (wrap == residue))

abbrev pub is_pair : ℕ → ℕ → Bool
is_pair residue wrap = are_private residue wrap && are_apart residue wrap

-- what the test says: the code's types are a pair, so those of a definition are shown to be
unlike : (n m : ℕ) → not (n == m) ≡ true → n ≡ m → ⊥
unlike n m apart is = subst T (sym apart ∙ ap not (eq-eqb n m is)) tt

pub pair_of : (residue wrap : ℕ) → is_pair residue wrap ≡ true → IsPair residue wrap
pair_of residue wrap is =
    let parts = and_parts (are_private residue wrap) (are_apart residue wrap) is in
    let each = and_parts (nat_le 192 residue && nat_lt residue 256) (nat_le 192 wrap && nat_lt wrap 256) parts.0 in
    let first = and_parts (nat_le 192 residue) (nat_lt residue 256) each.0 in
    let second = and_parts (nat_le 192 wrap) (nat_lt wrap 256) each.1 in
    let apart = and_parts (not (residue == 193)) (not (wrap == 192) && not (wrap == residue)) parts.1 in
    let others = and_parts (not (wrap == 192)) (not (wrap == residue)) apart.1 in
    record {
      residue_low = leb-true 192 residue first.0;
      residue_high = ltb-true residue 256 first.1;
      residue_other = unlike residue 193 apart.0;
      wrap_low = leb-true 192 wrap second.0;
      wrap_high = ltb-true wrap 256 second.1;
      wrap_other = unlike wrap 192 others.0;
      apart = unlike wrap residue others.1;
    }
