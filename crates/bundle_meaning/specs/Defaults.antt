-- What a version says of a bundle where nothing else is known (own rule).

use Rattle.std.specs.Prelude.{◌+◌, if◌then◌else◌}
use Rattle.endpoint.specs.declared.name.Endpoint.TheVariants.{Null}
use Rattle.endpoint.specs.Endpoints.{is_singleton}
use Rattle.bundle_meaning.specs.declared.shared.Shared.{Shared}
use Rattle.bundle_meaning.specs.declared.extra.Extra6.{Extra6}
use Rattle.bundle_meaning.specs.declared.extra.Extra7.{Extra7}

-- in version 6: priority normal, whether the destination is one receiver, no custodian, and the payload
-- as the last block
abbrev pub default6_of : Shared → Extra6
default6_of shared = record {
  flags = 0x80 + (if is_singleton shared.destination then 0x10 else 0);
  custodian = Null;
  payload_flags = 0;
  after = 0;
}

-- in version 7: CRC-16 on the primary block, and no check on the payload block
abbrev pub default7_of : Extra7
default7_of = record { flags = 0; crc = 1; payload_crc = 0; payload_flags = 0 }
