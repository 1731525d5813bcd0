use Rattle.std.proofs.Common.{◌≡◌, take}
use Rattle.crc_fields.specs.Crc.{take_text}
use Rattle.crc_fields.proofs.castagnoli.take_octets.Given as goal

abbrev pub invariant-octets : goal.invariant-octets
invariant-octets l = l.register ≡ take_text 0x82F63B78 l.start (take l.octet-index l.bytes)
