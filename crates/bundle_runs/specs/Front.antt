-- What stands at the front of some octets: a bundle of either version, or the reason why none does.
use Rattle.std.specs.Prelude.{ℕ, ◌==◌, ◌<◌, ◌≤◌, List, codes, slice_index, Result, Ok, Err, if◌then◌else◌}
use Rattle.wire_fields.specs.Refusal.{Stop, truncated, because}
use Rattle.wire_fields.specs.Reading.{read}
use Rattle.bundle6.specs.Cause as cause6
use Rattle.bundle6.specs.Table as table6
use Rattle.bundle7.specs.Cause as cause7
use Rattle.bundle7.specs.Table as table7
use Rattle.bundle_runs.specs.declared.front.Bundle.{Bundle}
use Rattle.bundle_runs.specs.declared.front.Bundle.TheVariants as bundles
use Rattle.bundle_runs.specs.declared.front.Cause.{Cause}
use Rattle.bundle_runs.specs.declared.front.Cause.TheVariants as causes

-- What stands at the front of some octets: a bundle, and how many octets it has; or they end inside a
-- field of a bundle, which begins at a place; or no bundle does, by the place of the first field that
-- isn't there as it should be, and the cause.
pub data Front : Type 0 where
  whole : Bundle → ℕ → Front
  cut_short : ℕ → Front
  refused : ℕ → Cause → Front

abbrev pub version_of : Bundle → ℕ
version_of (bundles.Six bundle) = 6
version_of (bundles.Seven bundle) = 7

abbrev pub word_of : Cause → List ℕ
word_of causes.Version = codes "Version"
word_of (causes.Six cause) = cause6.word_of cause
word_of (causes.Seven cause) = cause7.word_of cause

-- a refusal of a version's table
abbrev pub stopped : {C : Type 0} → (C → Cause) → ℕ → Stop C → Front
stopped cause at truncated = cut_short at
stopped cause at (because c) = refused at (cause c)

-- what a version's table reads from the front of octets
abbrev pub front_read : {B C : Type 0}
    → (B → Bundle) → (C → Cause) → Result (B × ℕ) (ℕ × Stop C) → Front
front_read bundle cause (Ok x) = whole (bundle x.0) x.1
front_read bundle cause (Err s) = stopped cause s.0 s.1

-- by the table of version 6, and by that of version 7, each with at most 64 blocks beside the payload
abbrev pub front6 : List ℕ → Front
front6 octets = front_read bundles.Six causes.Six (read (table6.bundle 64) octets 0)

abbrev pub front7 : List ℕ → Front
front7 octets = front_read bundles.Seven causes.Seven (read (table7.bundle 64) octets 0)

-- the first octet names the version
abbrev pub front_by : ℕ → List ℕ → Front
front_by first octets =
    if first == 0x06 then front6 octets
    else if first == 0x9F then front7 octets
    else refused 0 causes.Version

-- what stands at the front of octets, of which there is one
unfoldable pub front_of : List ℕ → Front
front_of octets = front_by (slice_index octets 0) octets

-- a bundle has an octet, and all that is said lies within so many octets
abbrev pub IsWithin : ℕ → Front → Type 0
IsWithin most (whole bundle size) = (0 < size) × (size ≤ most)
IsWithin most (cut_short at) = at ≤ most
IsWithin most (refused at cause) = at ≤ most

-- a bundle and a refusal are settled, whatever octets follow
abbrev pub IsFirm : Front → Type 0
IsFirm (whole bundle size) = Unit {0}
IsFirm (cut_short at) = ⊥
IsFirm (refused at cause) = Unit {0}
