use Rattle.std.proofs.Common.{◌≡◌, length}
use Rattle.crc_fields.specs.Crc.{take_text}
use Rattle.crc_fields.proofs.x25.take_words.Given as goal

abbrev pub invariant-words : goal.invariant-words
invariant-words l = take_text 0x8408 l.register l.rest ≡ take_text 0x8408 l.start l.bytes

abbrev pub decreases-words : goal.decreases-words
decreases-words l = length l.rest
