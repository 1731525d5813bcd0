-- What relabelling, and leaving out, mean.

use Rattle.std.specs.Prelude.{◌≡◌, ℕ, ◌^◌, ◌<◌, false, length, None}
use Rattle.bundle6.specs.declared.block.Block6.{Block6}
use Rattle.bundle6.specs.declared.bundle.Bundle6.{Bundle6}
use Rattle.bundle6.specs.Legal.{IsLegal}
use Rattle.bundle6.specs.Spelling.{canon6}
use Rattle.bundle7.specs.declared.bundle.Bundle7.{Bundle7}
use Rattle.bundle7.specs.Legal.{IsLegal7}
use Rattle.bundle7.specs.Spelling.{octets7}
use Rattle.bundle_meaning.specs.declared.blocks.Block7Like.{Block7Like}
use Rattle.bundle_meaning.specs.declared.full.Full.{Full}
use Rattle.bundle_meaning.specs.Blocks.{residue_kind, wrap_kind, sevens}
use Rattle.bundle_meaning.specs.Wrap.{wrap_old_octets}
use Rattle.translate.specs.Sound.{IsSound}
use Rattle.translate.specs.View7.{view7_of, needs_residue7}
use Rattle.translate.specs.Translation.{HoldsOctets6, HoldsOctets7, IsPlain7, IsTranslatable6, IsTranslatable7, there6, there7, norm6_of, norm7_of, to_new_refusal, to_old_refusal}
use Rattle.block_types.specs.declared.types.BlockTypes.{BlockTypes}
use Rattle.block_types.specs.Types.{swapped}
use Rattle.block_types.specs.Relabelled.{retyped6, relabelled6, relabelled7}
use Rattle.block_types.specs.Bare.{bare_of}

-- ---- types

-- A residue and a wrap have the types that were given; each type comes back; and all types stay but the
-- gateway's own and those that were given.
pub record SwapsTypes (types : BlockTypes) : Type 0 where
  pub residue : swapped types residue_kind ≡ types.residue
  pub wrap : swapped types wrap_kind ≡ types.wrap
  pub twice : (kind : ℕ) → swapped types (swapped types kind) ≡ kind
  pub others : (kind : ℕ) → (kind ≡ residue_kind → ⊥) → (kind ≡ wrap_kind → ⊥) → (kind ≡ types.residue → ⊥)
      → (kind ≡ types.wrap → ⊥) → swapped types kind ≡ kind

abbrev pub TypesSwap : Type 0
TypesSwap = (types : BlockTypes) → SwapsTypes types

-- ---- relabelling

-- relabelled twice a bundle is what it was
pub record ComesBack (types : BlockTypes) : Type 0 where
  pub seven : (b : Bundle7) → relabelled7 types (relabelled7 types b) ≡ b
  pub six : (b : Bundle6) → relabelled6 types (relabelled6 types b) ≡ b

abbrev pub RelabelledTwice : Type 0
RelabelledTwice = (types : BlockTypes) → ComesBack types

-- a legal bundle stays one, with octets for bodies, and with as many octets in its spelling
pub record StaysLegal7 (b relabelled : Bundle7) : Type 0 where
  pub legal : IsLegal7 b → IsLegal7 relabelled
  pub octets : HoldsOctets7 b → HoldsOctets7 relabelled
  pub size : length (octets7 relabelled) ≡ length (octets7 b)

pub record StaysLegal6 (b relabelled : Bundle6) : Type 0 where
  pub legal : IsLegal b → IsLegal relabelled
  pub octets : HoldsOctets6 b → HoldsOctets6 relabelled
  pub size : length (canon6 relabelled) ≡ length (canon6 b)

abbrev pub RelabelledIsLegal : Type 0
RelabelledIsLegal = (types : BlockTypes)
    → ((b : Bundle7) → StaysLegal7 b (relabelled7 types b)) × ((b : Bundle6) → StaysLegal6 b (relabelled6 types b))

-- with the types 192 and 193 nothing changes
abbrev pub NothingRelabelled : Type 0
NothingRelabelled = (types : BlockTypes) → types.residue ≡ residue_kind → types.wrap ≡ wrap_kind
    → ((b : Bundle7) → relabelled7 types b ≡ b) × ((b : Bundle6) → relabelled6 types b ≡ b)

-- a wrap with the octets of a version 7 block has after it the octets of that block with the type of the
-- wire
abbrev pub WrapsSayWireTypes : Type 0
WrapsSayWireTypes = (types : BlockTypes) (wrap : Block6) (held : Block7Like)
    → wrap.kind ≡ wrap_kind → held.kind < 2 ^ 64 → wrap.body ≡ wrap_old_octets held
    → (retyped6 types wrap).body ≡ wrap_old_octets (record held { kind = swapped types held.kind })

-- ---- translation between

-- what goes out in version 7 where a version 6 bundle came, and the other way round
abbrev pub out7 : BlockTypes → Bundle6 → Bundle7
out7 types b = relabelled7 types (there6 (relabelled6 types b))

abbrev pub out6 : BlockTypes → Bundle7 → Bundle6
out6 types b = relabelled6 types (there7 (relabelled7 types b))

-- the normal form on the wire
abbrev pub norm6_out : BlockTypes → Bundle6 → Bundle6
norm6_out types b = relabelled6 types (norm6_of (relabelled6 types b))

abbrev pub norm7_out : BlockTypes → Bundle7 → Bundle7
norm7_out types b = relabelled7 types (norm7_of (relabelled7 types b))

-- a bundle that is translated by a gateway comes back by a gateway with the same types as its normal form
abbrev pub ThereAndBackRelabelled : Type 0
ThereAndBackRelabelled = (types : BlockTypes)
    → ((b : Bundle6) → IsTranslatable6 (relabelled6 types b)
    → (to_old_refusal (relabelled7 types (out7 types b)) ≡ None) × (out6 types (out7 types b) ≡ norm6_out types b))
    × ((b : Bundle7) → IsTranslatable7 (relabelled7 types b)
    → (to_new_refusal (relabelled6 types (out6 types b)) ≡ None) × (out7 types (out6 types b) ≡ norm7_out types b))

-- ---- leaving out

-- the version 7 view of a bare record has no private block, and is its normal form; no block of version 7
-- is left out
pub record IsBare (full bare : Full) : Type 0 where
  pub residue : needs_residue7 bare ≡ false
  pub plain : IsPlain7 (view7_of bare)
  pub normal : norm7_of (view7_of bare) ≡ view7_of bare
  pub sevens : sevens bare.exts ≡ sevens full.exts

abbrev pub BareViewIsPlain : Type 0
BareViewIsPlain = (full : Full) → IsSound full → IsBare full (bare_of full)
