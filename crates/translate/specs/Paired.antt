-- Bundles of both versions that say the same.

use Rattle.std.specs.Prelude.{◌≡◌, ◌+◌, ◌-◌, ◌*◌}
use Rattle.std.specs.Int.Bits.{bit_and}
use Rattle.bundle6.specs.declared.bundle.Bundle6.{Bundle6}
use Rattle.bundle7.specs.declared.bundle.Bundle7.{Bundle7}
use Rattle.bundle_meaning.specs.Bits.{common}
use Rattle.bundle_meaning.specs.Creation.{id7_of}
use Rattle.translate.specs.Reading6.{residue6_of, content6_of}
use Rattle.translate.specs.Reading7.{content7_of}

-- they have one destination, source, report-to, payload and fragment and the same common flags, their
-- creation timestamps are counterparts, and they expire at the same millisecond
pub record IsPaired (old : Bundle6) (new : Bundle7) : Type 0 where
  pub destination : new.primary.destination ≡ old.primary.destination
  pub source : new.primary.source ≡ old.primary.source
  pub report_to : new.primary.report_to ≡ old.primary.report_to
  pub millis : new.primary.millis ≡ (id7_of old.primary.seconds old.primary.sequence).millis
  pub sequence : new.primary.sequence ≡ (id7_of old.primary.seconds old.primary.sequence).sequence
  -- the version 6 bundle's slack counts
  pub expiry : new.primary.millis + new.primary.lifetime
      ≡ 1000 * (old.primary.seconds + old.primary.lifetime) - (residue6_of old).slack
  pub flags : bit_and new.primary.flags common ≡ bit_and old.primary.flags common
  pub fragment : new.primary.fragment ≡ old.primary.fragment
  -- the same octets, or status reports that say the same
  pub payload : content7_of new ≡ content6_of old
