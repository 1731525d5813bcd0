use Rattle.std.proofs.Common.{rules}
use Rattle.bundle7.specs.Spelling.{main_octets}
use Rattle.bundle7.proofs.WritingLemmas.{checked}
use Rattle.bundle7.proofs.writing.append_primary.Goals as goal

pub returns : goal.returns
returns c =
    checked c.args.primary.now.crc c.len-start.result c.args.out.now.items (main_octets c.args.primary.now) c.append_main.new.out.items c.append_check.new.out.items
    (search rules) c.in_ok-append_main.ensures c.in_ok-append_check.ensures
