-- A bundle with the types of the wire, where it had those of the gateway, and the other way round.

use Rattle.std.specs.Prelude.{ℕ, ◌+◌, ◌-◌, ◌==◌, nat_le, nat_lt, Bool, ◌&&◌, if◌then◌else◌, List, [], ◌∷◌, ◌++◌, map, slice_index, slice_set}
use Rattle.endpoint.specs.Endpoints.{begins}
use Rattle.bundle6.specs.declared.block.Block6.{Block6}
use Rattle.bundle6.specs.declared.bundle.Bundle6.{Bundle6}
use Rattle.bundle7.specs.declared.block.Block7.{Block7}
use Rattle.bundle7.specs.declared.bundle.Bundle7.{Bundle7}
use Rattle.bundle_meaning.specs.Blocks.{mark, wrap_kind}
use Rattle.block_types.specs.declared.types.BlockTypes.{BlockTypes}
use Rattle.block_types.specs.Types.{swapped}

-- ---- version 7: each extension block has the other type

abbrev pub retyped7 : BlockTypes → Block7 → Block7
retyped7 types block = record block { kind = swapped types block.kind }

unfoldable pub relabelled7 : BlockTypes → Bundle7 → Bundle7
relabelled7 types b = record b { exts = map (retyped7 types) b.exts }

-- ---- version 6: a wrap says the other type

-- a wrap's body says a type from 192 to 255: those have two octets, the first of which is 81
abbrev pub says_private_type : List ℕ → Bool
says_private_type body =
    begins (mark ++ 0x81 ∷ []) body && (nat_le 0x40 (slice_index body 5) && nat_lt (slice_index body 5) 0x80)

-- the type that such a body says, from its second octet
abbrev pub said_type : ℕ → ℕ
said_type octet = 0x80 + octet

-- the body with the other type
abbrev pub retyped_body : BlockTypes → List ℕ → List ℕ
retyped_body types body = slice_set body 5 (swapped types (said_type (slice_index body 5)) - 0x80)

abbrev pub is_retyped : Block6 → Bool
is_retyped block = block.kind == wrap_kind && says_private_type block.body

abbrev pub retyped6 : BlockTypes → Block6 → Block6
retyped6 types block =
    record block { body = if is_retyped block then retyped_body types block.body else block.body }

unfoldable pub relabelled6 : BlockTypes → Bundle6 → Bundle6
relabelled6 types b = record b { blocks = map (retyped6 types) b.blocks }
