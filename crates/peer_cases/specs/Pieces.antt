-- A record as it goes out at a face among other implementations.

use Rattle.std.specs.Prelude.{ℕ, ◌-◌, ◌^◌, ◌&&◌, if◌then◌else◌, List, length}
use Rattle.bundle6.specs.Spelling.{canon6}
use Rattle.bundle7.specs.Spelling.{octets7}
use Rattle.bundle_meaning.specs.declared.full.Full.{Full}
use Rattle.translate.specs.View6.{view6_of}
use Rattle.translate.specs.View7.{view7_of}
use Rattle.gate_cases.specs.declared.face.Face.{Face}
use Rattle.gate_cases.specs.declared.face.Face.TheVariants.{Old, New}
use Rattle.block_types.specs.Relabelled.{relabelled6, relabelled7}
use Rattle.bundle_age.specs.Raised.{has_age, raised_by}
use Rattle.peer_cases.specs.declared.settings.PeerSettings.{PeerSettings}
use Rattle.peer_cases.specs.declared.pieces.SizedPiece.{SizedPiece}

-- the octets of the bundle that stands for a record, in the version of the face, with the types of the wire
unfoldable pub wire_octets : PeerSettings → Face → Full → List ℕ
wire_octets s Old full = canon6 (relabelled6 s.types (view6_of full))
wire_octets s New full = octets7 (relabelled7 s.types (view7_of full))

-- the record once it has waited for as long as can be said, where ages are raised
unfoldable pub oldest : PeerSettings → Full → Full
oldest s full = if s.raises then raised_by (2 ^ 64 - 1) full else full

-- how many octets it may have when it goes
abbrev pub greatest_size : PeerSettings → Face → Full → ℕ
greatest_size s to full = length (wire_octets s to (oldest s full))

-- its age grows while it waits, where ages are raised and it has one
abbrev pub piece_of : PeerSettings → Face → Full → SizedPiece
piece_of s to full = record {
  octets = wire_octets s to full;
  size = greatest_size s to full;
  is_dated = s.raises && has_age full;
}
