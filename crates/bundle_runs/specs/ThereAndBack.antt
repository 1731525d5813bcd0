-- There and back in octets: what `convert` writes of the octets of one bundle, and what it writes of the
-- octets that it wrote (RFC 5050, RFC 9171).
use Rattle.std.specs.Prelude.{◌≡◌, ℕ, ◌+◌, ◌^◌, ◌<◌, ◌≤◌, List, length, Some}
use Rattle.edge_traits.specs.declared.status.Status.TheVariants.{Done}
use Rattle.edge_traits.specs.Content.{most_input}
use Rattle.edge_traits.specs.Settled.{at_end}
use Rattle.wire_fields.specs.Reading.{IsOctets}
use Rattle.bundle6.specs.declared.bundle.Bundle6.{Bundle6}
use Rattle.bundle6.specs.Spelling.{canon6}
use Rattle.bundle6.specs.Legal.{Spells6}
use Rattle.bundle7.specs.declared.bundle.Bundle7.{Bundle7}
use Rattle.bundle7.specs.Spelling.{octets7}
use Rattle.bundle7.specs.Legal.{Spells7}
use Rattle.bundle_meaning.specs.Expiry.{slack_of}
use Rattle.translate.specs.declared.refused.Refused.TheVariants.{TimeTooLarge}
use Rattle.translate.specs.Refusals.{word_of}
use Rattle.translate.specs.Reading7.{full7_of}
use Rattle.translate.specs.Translation.{there6, there7, norm6_of, norm7_of, IsPlain6, IsPlain7}
use Rattle.bundle_runs.specs.declared.commands.command.Command.TheVariants as commands
use Rattle.bundle_runs.specs.declared.front.Bundle.{Bundle}
use Rattle.bundle_runs.specs.declared.front.Bundle.TheVariants as bundles
use Rattle.bundle_runs.specs.Answering.{settles}
use Rattle.bundle_runs.specs.Convert.{converted}
use Rattle.fragment_lines.specs.Said.{says, refuses}
use Rattle.fragment_lines.specs.Lines.{hex_line}

-- of the bundle `convert` writes this line
abbrev pub WritesLine : Bundle → List ℕ → Type 0
WritesLine bundle line = converted bundle ≡ says line tt

-- ---- from version 6

-- the line of a bundle, and the lines of what stands in it
pub record ComesBack6 (b : Bundle6) (line : List ℕ) : Type 0 where
  -- it is, in hex, the octets of the bundle of version 7 that the bundle becomes, each below 256
  pub hex : line ≡ hex_line (octets7 (there6 b))
  pub there_octets : IsOctets (octets7 (there6 b))
  -- and these spell that bundle, where a number says how many they are, as of all that is written
  pub there : length (octets7 (there6 b)) < 2 ^ 64 → Spells7 (there6 b) (octets7 (there6 b))
  -- of which the line is the canonical octets of the normal form
  pub back : WritesLine (bundles.Seven (there6 b)) (hex_line (canon6 (norm6_of b)))
  pub normal_octets : IsOctets (canon6 (norm6_of b))
  -- and these spell the normal form
  pub normal : length (canon6 (norm6_of b)) < 2 ^ 64 → Spells6 (norm6_of b) (canon6 (norm6_of b))
  -- of which the line is the first one again
  pub again : WritesLine (bundles.Six (norm6_of b)) line
  -- the normal form of a bundle without blocks of the gateway's own is the bundle
  pub plain : IsPlain6 b → norm6_of b ≡ b

abbrev pub ThereAndBack6 : Type 0
ThereAndBack6 = (octets : List ℕ) (b : Bundle6) (line : List ℕ) → IsOctets octets → Spells6 b octets
    → WritesLine (bundles.Six b) line → ComesBack6 b line

-- ---- from version 7

-- the same of a bundle of version 7 with these octets
pub record ComesBack7 (octets : List ℕ) (b : Bundle7) (line : List ℕ) : Type 0 where
  pub hex : line ≡ hex_line (canon6 (there7 b))
  pub there_octets : IsOctets (canon6 (there7 b))
  pub there : length (canon6 (there7 b)) < 2 ^ 64 → Spells6 (there7 b) (canon6 (there7 b))
  pub back : WritesLine (bundles.Six (there7 b)) (hex_line (octets7 (norm7_of b)))
  pub normal_octets : IsOctets (octets7 (norm7_of b))
  pub normal : length (octets7 (norm7_of b)) < 2 ^ 64 → Spells7 (norm7_of b) (octets7 (norm7_of b))
  pub again : WritesLine (bundles.Seven (norm7_of b)) line
  -- one without blocks of the gateway's own comes back octet for octet
  pub plain : IsPlain7 b → octets7 (norm7_of b) ≡ octets

-- its lifetime, lengthened to whole seconds, is still a number of version 7
abbrev pub ThereAndBack7 : Type 0
ThereAndBack7 = (octets : List ℕ) (b : Bundle7) (line : List ℕ) → IsOctets octets → Spells7 b octets
    → WritesLine (bundles.Seven b) line → b.primary.lifetime + slack_of (full7_of b).shared < 2 ^ 64
    → ComesBack7 octets b line

-- else the octets in its line spell a bundle that `convert` refuses
pub record StaysThere7 (b : Bundle7) (line : List ℕ) : Type 0 where
  pub hex : line ≡ hex_line (canon6 (there7 b))
  pub there_octets : IsOctets (canon6 (there7 b))
  pub there : length (canon6 (there7 b)) < 2 ^ 64 → Spells6 (there7 b) (canon6 (there7 b))
  pub late : converted (bundles.Six (there7 b)) ≡ refuses (word_of TimeTooLarge)

abbrev pub LateStaysThere : Type 0
LateStaysThere = (octets : List ℕ) (b : Bundle7) (line : List ℕ) → IsOctets octets → Spells7 b octets
    → WritesLine (bundles.Seven b) line → 2 ^ 64 ≤ b.primary.lifetime + slack_of (full7_of b).shared
    → StaysThere7 b line

-- ---- runs over such octets

-- a run of `convert` whose input is exactly these octets is done, and wrote the others as a line of hex
abbrev pub RunConverts : List ℕ → List ℕ → Type 0
RunConverts octets others =
    settles commands.Convert at_end octets ≡ record { text = hex_line others; ends = Some Done }

-- a run over the first octets, a run over those that it wrote, and one over those that this wrote
pub record RunsBack (first there back : List ℕ) : Type 0 where
  pub one : RunConverts first there
  pub there_octets : IsOctets there
  pub two : RunConverts there back
  pub back_octets : IsOctets back
  pub three : length back ≤ most_input → RunConverts back there

-- no input is longer than the limit
abbrev pub RunsThereAndBack6 : Type 0
RunsThereAndBack6 = (octets : List ℕ) (b : Bundle6) (line : List ℕ) → IsOctets octets → Spells6 b octets
    → WritesLine (bundles.Six b) line → length octets ≤ most_input → length (octets7 (there6 b)) ≤ most_input
    → RunsBack octets (octets7 (there6 b)) (canon6 (norm6_of b))

abbrev pub RunsThereAndBack7 : Type 0
RunsThereAndBack7 = (octets : List ℕ) (b : Bundle7) (line : List ℕ) → IsOctets octets → Spells7 b octets
    → WritesLine (bundles.Seven b) line → b.primary.lifetime + slack_of (full7_of b).shared < 2 ^ 64
    → length octets ≤ most_input → length (canon6 (there7 b)) ≤ most_input
    → RunsBack octets (canon6 (there7 b)) (octets7 (norm7_of b))
