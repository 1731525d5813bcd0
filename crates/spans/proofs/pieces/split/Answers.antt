use Rattle.spans.proofs.Split.{split_at-made}
use Rattle.spans.proofs.pieces.split.Goals as goal

pub returns-clause-ok : goal.returns-clause-ok
returns-clause-ok c =
    split_at-made c.args.chunks.now.items c.insert.new.self.items c.args.chunk c.args.keep c.index.result.now c.in_ok-rest.rest c.index_mut.result.now c.truncate.new.self
    c.requires.within c.index.ensures c.in_ok-rest.ensures c.in_ok-insert.ensures.items c.index_mut.ensures.value c.truncate.ensures
