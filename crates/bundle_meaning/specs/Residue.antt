-- Residues (own): what only the other version has a field for, and the parts of a second or of a
-- millisecond that this version's numbers drop.

use Rattle.std.specs.Prelude.{ℕ, List, [], ◌∷◌, ◌++◌}
use Rattle.sdnv.specs.Shortest.{spelling}
use Rattle.wire_fields.specs.Format.{Format, give, ◌>>=◌}
use Rattle.bundle_meaning.specs.declared.fault.BlockFault.{BlockFault}
use Rattle.bundle_meaning.specs.declared.full.Full.{Full}
use Rattle.bundle_meaning.specs.declared.residue.ResidueOld.{ResidueOld}
use Rattle.bundle_meaning.specs.declared.residue_new.ResidueNew.{ResidueNew}
use Rattle.bundle_meaning.specs.Bits.{common, block_common, not_own6, block_not_own6, statuses}
use Rattle.bundle_meaning.specs.Blocks.{mark}
use Rattle.bundle_meaning.specs.Expiry.{slack_of}
use Rattle.bundle_meaning.specs.Reports.{no_time_of, rests_of}
use Rattle.bundle_meaning.specs.Body.{the_mark, shortest, below, flags_within, flags_without, name, numbers_octets, name_octets}

-- ---- in a version 6 bundle

-- the slack in milliseconds, what only version 7 says, and the statuses that have no time
unfoldable pub residue_old : Format BlockFault ResidueOld
residue_old = do
  front ← the_mark
  slack ← below 1000
  flags ← flags_without common
  crc ← below 3
  payload_crc ← below 3
  payload_flags ← flags_without block_common
  no_time ← flags_within statuses
  give (record {
    slack = slack;
    extra7 = record { flags = flags; crc = crc; payload_crc = payload_crc; payload_flags = payload_flags };
    no_time = no_time;
  })

-- that of a record
abbrev pub residue_old_of : Full → ResidueOld
residue_old_of full = record {
  slack = slack_of full.shared;
  extra7 = full.extra7;
  no_time = no_time_of full.shared.content;
}

-- its octets
unfoldable pub residue_old_octets : ResidueOld → List ℕ
residue_old_octets residue =
    mark ++ (spelling residue.slack ++ (spelling residue.extra7.flags ++ (spelling residue.extra7.crc
    ++ (spelling residue.extra7.payload_crc ++ (spelling residue.extra7.payload_flags
    ++ spelling residue.no_time)))))

-- ---- in a version 7 bundle

-- parts of four times below one millisecond, in nanoseconds: received, forwarded, delivered, deleted
unfoldable pub four_rests : Format BlockFault (List ℕ)
four_rests = do
  received ← below 1000000
  forwarded ← below 1000000
  delivered ← below 1000000
  deleted ← below 1000000
  give (received ∷ forwarded ∷ delivered ∷ deleted ∷ [])

-- what only version 6 says, and the parts of a report's times below one millisecond
unfoldable pub residue_new : Format BlockFault ResidueNew
residue_new = do
  front ← the_mark
  flags ← flags_without not_own6
  custodian ← name
  payload_flags ← flags_without block_not_own6
  after ← shortest
  rests ← four_rests
  give (record {
    extra6 = record { flags = flags; custodian = custodian; payload_flags = payload_flags; after = after };
    rests = rests;
  })

-- that of a record
abbrev pub residue_new_of : Full → ResidueNew
residue_new_of full = record { extra6 = full.extra6; rests = rests_of full.shared.content }

-- its octets
unfoldable pub residue_new_octets : ResidueNew → List ℕ
residue_new_octets residue =
    mark ++ (spelling residue.extra6.flags ++ (name_octets residue.extra6.custodian
    ++ (spelling residue.extra6.payload_flags ++ (spelling residue.extra6.after
    ++ numbers_octets residue.rests))))
