-- Nothing was kept before the piece.
use Rattle.bundle7.proofs.ReaderLemmas.{stands-longer}
use Rattle.bundle7.proofs.reader.Held.begin.Goals as goal

pub look-requires-clause-stands : goal.look-requires-clause-stands
look-requires-clause-stands c =
    rw c.requires.empty at
    (stands-longer 64 c.args.self.now.kept.items c.args.piece.now c.args.self.now.pass c.requires.held.stands)
