use Rattle.std.proofs.Common.{rules}
use Rattle.bundle7.specs.Spelling.{bare_octets}
use Rattle.bundle7.proofs.WritingLemmas.{checked}
use Rattle.bundle7.proofs.writing.append_block.Goals as goal

pub returns : goal.returns
returns c =
    checked c.args.block.now.crc c.len-start.result c.args.out.now.items (bare_octets c.args.block.now) c.append_bare.new.out.items c.append_check.new.out.items
    (search rules) c.in_ok-append_bare.ensures c.in_ok-append_check.ensures
