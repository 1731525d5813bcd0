use Rattle.std.proofs.Common.{◌∙◌, sym}
use Rattle.cells.proofs.FilledLemmas.{is_whole-same}
use Rattle.ltp_receiver.proofs.kept.Kept.is_whole.Goals as goal

pub returns-then-eq : goal.returns-then-eq
returns-then-eq c =
    let same = is_whole-same c.places.result.now c.args.self.now.cells c.reach-reach.result c.args.self.now.length c.places.ensures c.reach-reach.ensures.reach in
    let test = sym c.eq.ensures ∙ c.if-eq.true in
    rw c.is_whole.ensures (rw test at same)
