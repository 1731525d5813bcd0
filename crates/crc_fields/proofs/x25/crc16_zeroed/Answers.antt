use Rattle.std.proofs.Common.{◌+◌, refl}
use Rattle.std.proofs.lemmas.List.{take_rest}
use Rattle.crc_fields.proofs.Chain.{zeroed-parts}
use Rattle.crc_fields.proofs.x25.crc16_zeroed.Goals as goal

pub returns : goal.returns
returns c = zeroed-parts 0x8408 c.args.at 2 c.args.bytes.now _ _ _ _ _ _ _ _ c.new.ensures refl (take_rest c.args.bytes.now (c.args.at + 2)) c.update.ensures c.update-2.ensures c.update-3.ensures c.finish.ensures
