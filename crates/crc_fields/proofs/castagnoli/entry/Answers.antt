use Rattle.crc_fields.proofs.TableLemmas.{entry32}
use Rattle.crc_fields.proofs.castagnoli.entry.Goals as goal

pub returns : goal.returns
returns c = entry32 c.args.k c.args.octet _ 0 c.requires c.ranges.octet.fits
