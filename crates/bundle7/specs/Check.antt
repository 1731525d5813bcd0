-- The check of a block (RFC 9171, section 4.2.1): a byte string at the block's end, whose octets are
-- the check of the whole block with these octets taken as zero, in network order.
use Rattle.std.specs.Prelude.{ℕ, ◌==◌, List, ◌++◌, replicate}
use Rattle.std.specs.Int.{w16, w32, to_be_bytes}
use Rattle.std.specs.Str.{bytes_eq}
use Rattle.crc_fields.specs.Crc.{crc16_of, crc32c_of}
use Rattle.wire_fields.specs.Format.{Format, give, since, such_that, ◌>>=◌}
use Rattle.wire_fields.specs.Words.{needs, any_octets, exact_byte_string, choice}
use Rattle.bundle7.specs.declared.fault.Cause7.{Cause7}
use Rattle.bundle7.specs.declared.fault.Cause7.TheVariants.{Crc}

-- the octets of the two checks, after the octets of a block
abbrev pub check16 : List ℕ → List ℕ
check16 block = to_be_bytes w16 (crc16_of (block ++ replicate 2 0))

abbrev pub check32 : List ℕ → List ℕ
check32 block = to_be_bytes w32 (crc32c_of (block ++ replicate 4 0))

-- so many octets, which are the check
abbrev pub exact_octets : ℕ → List ℕ → Format Cause7 (List ℕ)
exact_octets n check = such_that (any_octets n Crc) (λ octets. needs (bytes_eq octets check) Crc)

-- a check of so many octets, of the block since a place
abbrev pub check_field : ℕ → (List ℕ → List ℕ) → ℕ → Format Cause7 (Unit {0})
check_field n check start = do
  size ← exact_byte_string n Crc
  block ← since start
  octets ← exact_octets n (check block)
  give tt

-- the check of the block since a place, by its type: 0 is none, 1 is CRC-16, 2 is CRC-32C
unfoldable pub crc_field : ℕ → ℕ → Format Cause7 (Unit {0})
crc_field crc start =
    choice (crc == 0) (give tt)
    (choice (crc == 1) (check_field 2 check16 start) (check_field 4 check32 start))
