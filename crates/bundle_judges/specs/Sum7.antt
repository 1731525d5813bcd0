-- The check of a block (RFC 9171, section 4.2.1), summed as the octets of the block come.

use Rattle.std.specs.Prelude.{ℕ, ◌==◌, if◌then◌else◌, bit_xor, List, [], replicate}
use Rattle.std.specs.Int.{w16, w32, to_be_bytes}
use Rattle.crc_fields.specs.Crc.{take_text}
use Rattle.wire_fields.specs.Format.{Format, give, ◌>>=◌}
use Rattle.wire_fields.specs.Words.{exact_byte_string}
use Rattle.bundle7.specs.declared.fault.Cause7.{Cause7}
use Rattle.bundle7.specs.declared.fault.Cause7.TheVariants.{Crc}
use Rattle.bundle7.specs.Check.{exact_octets}
use Rattle.bundle_judges.specs.declared.sum7.Sum.{Sum}
use Rattle.bundle_judges.specs.declared.sum7.Sum.TheVariants.{Unchecked, Short, Long}

-- no octet came of a block with a check of this type
abbrev pub no_octets : ℕ → Sum
no_octets crc = if crc == 0 then Unchecked else if crc == 1 then Short 0xFFFF else Long 0xFFFFFFFF

-- more of its octets came
abbrev pub with_octets : Sum → List ℕ → Sum
with_octets Unchecked w = Unchecked
with_octets (Short register) w = Short (take_text 0x8408 register w)
with_octets (Long register) w = Long (take_text 0x82F63B78 register w)

-- The octets of the check, which itself is taken as zero: all before it are summed.
abbrev pub check_of : Sum → List ℕ
check_of Unchecked = []
check_of (Short register) = to_be_bytes w16 (bit_xor (take_text 0x8408 register (replicate 2 0)) 0xFFFF)
check_of (Long register) = to_be_bytes w32 (bit_xor (take_text 0x82F63B78 register (replicate 4 0)) 0xFFFFFFFF)

-- the head of a check
abbrev pub check_head : Sum → Format Cause7 (Unit {0})
check_head Unchecked = give tt
check_head (Short register) = exact_byte_string 2 Crc >>= (λ size. give tt)
check_head (Long register) = exact_byte_string 4 Crc >>= (λ size. give tt)

-- its octets
abbrev pub check_octets : Sum → Format Cause7 (Unit {0})
check_octets Unchecked = give tt
check_octets (Short register) = exact_octets 2 (check_of (Short register)) >>= (λ octets. give tt)
check_octets (Long register) = exact_octets 4 (check_of (Long register)) >>= (λ octets. give tt)
