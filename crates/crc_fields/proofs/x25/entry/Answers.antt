use Rattle.crc_fields.proofs.TableLemmas.{entry16}
use Rattle.crc_fields.proofs.x25.entry.Goals as goal

pub returns : goal.returns
returns c = entry16 c.args.k c.args.octet _ 0 c.requires c.ranges.octet.fits
