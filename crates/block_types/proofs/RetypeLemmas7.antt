-- Version 7 blocks with the other type.

use Rattle.std.proofs.Common.{◌≡◌, ℕ, List, [], ◌∷◌, map, refl, ap}
use Rattle.bundle7.specs.declared.block.Block7.{Block7}
use Rattle.bundle7.specs.declared.bundle.Bundle7.{Bundle7}
use Rattle.block_types.specs.declared.types.BlockTypes.{BlockTypes}
use Rattle.block_types.specs.Types.{swapped}
use Rattle.block_types.specs.Relabelled.{retyped7, relabelled7}
use Rattle.block_types.proofs.TypeLemmas.{swapped-twice}

-- a map that gives each element back gives the list back
pub map-each : {X : Type 0} (f : X → X) → ((x : X) → f x ≡ x) → (xs : List X) → map f xs ≡ xs
map-each f same [] = refl
map-each f same (x ∷ xs) = rw (same x, map-each f same xs) refl

pub map-twice : {X : Type 0} (f : X → X) → ((x : X) → f (f x) ≡ x) → (xs : List X) → map f (map f xs) ≡ xs
map-twice f back [] = refl
map-twice f back (x ∷ xs) = rw (back x, map-twice f back xs) refl

-- ---- blocks

-- a block whose type stays is itself
pub retyped7-same : (types : BlockTypes) (b : Block7) → swapped types b.kind ≡ b.kind → retyped7 types b ≡ b
retyped7-same types b same = ap (λ (k : ℕ). let c : Block7 = record b { kind = k } in c) same

pub retyped7-twice : (types : BlockTypes) (b : Block7) → retyped7 types (retyped7 types b) ≡ b
retyped7-twice types b = ap (λ (k : ℕ). let c : Block7 = record b { kind = k } in c) (swapped-twice types b.kind)

pub relabelled7-twice : (types : BlockTypes) (b : Bundle7) → relabelled7 types (relabelled7 types b) ≡ b
unfolding relabelled7
relabelled7-twice types b =
    ap (λ (exts : List Block7). let c : Bundle7 = record b { exts = exts } in c)
    (map-twice (retyped7 types) (retyped7-twice types) b.exts)

pub relabelled7-same : (types : BlockTypes) → ((kind : ℕ) → swapped types kind ≡ kind) → (b : Bundle7) → relabelled7 types b ≡ b
unfolding relabelled7
relabelled7-same types same b =
    ap (λ (exts : List Block7). let c : Bundle7 = record b { exts = exts } in c)
    (map-each (retyped7 types) (λ (x : Block7). retyped7-same types x (same x.kind)) b.exts)
