-- What `convert` says of a bundle: the octets of the bundle of the other version that it becomes, in
-- hex, or why it becomes none (RFC 5050, RFC 9171).
use Rattle.std.specs.Prelude.{ℕ, List, Option, Some, None}
use Rattle.bundle6.specs.declared.bundle.Bundle6.{Bundle6}
use Rattle.bundle6.specs.Spelling.{canon6}
use Rattle.bundle7.specs.declared.bundle.Bundle7.{Bundle7}
use Rattle.bundle7.specs.Spelling.{octets7}
use Rattle.translate.specs.declared.refused.Refused.TheVariants.{TooManyBlocks}
use Rattle.translate.specs.Refusals.{word_of}
use Rattle.translate.specs.Translation.{to_new_refusal, to_old_refusal, there6, there7}
use Rattle.bundle_runs.specs.declared.front.Bundle.{Bundle}
use Rattle.bundle_runs.specs.declared.front.Bundle.TheVariants as bundles
use Rattle.fragment_lines.specs.Said.{Said, says, refuses}
use Rattle.fragment_lines.specs.Lines.{hex_line, unless_refused}

-- a bundle of version 6 becomes one of version 7, and has its one spelling
unfoldable pub converted6 : Bundle6 → Said (Unit {0})
converted6 bundle = unless_refused (to_new_refusal bundle) (says (hex_line (octets7 (there6 bundle))) tt)

-- a bundle of version 7 becomes one of version 6, and has its canonical spelling
unfoldable pub converted7 : Bundle7 → Said (Unit {0})
converted7 bundle = unless_refused (to_old_refusal bundle) (says (hex_line (canon6 (there7 bundle))) tt)

abbrev pub converted : Bundle → Said (Unit {0})
converted (bundles.Six bundle) = converted6 bundle
converted (bundles.Seven bundle) = converted7 bundle

-- ---- what only ties code to it

-- the octets of the bundle that stands for a record, as a line, where there is room for its blocks
abbrev pub said_octets : Option (List ℕ) → Said (Unit {0})
said_octets (Some octets) = says (hex_line octets) tt
said_octets None = refuses (word_of TooManyBlocks)
