use Rattle.std.proofs.Common.{refl}
use Rattle.peer_gateway.proofs.FaceLemmas.{empty-so}
use Rattle.peer_gateway.proofs.faces.FaceParts.empty.Goals as goal

pub returns : goal.returns
returns c =
    empty-so _ c.args.keys c.args.now c.args.marks.now c.requires.keys c.requires.bounds refl c.in_ok-new.ensures c.new-2.ensures refl c.none.ensures
