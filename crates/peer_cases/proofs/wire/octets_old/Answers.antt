use Rattle.std.proofs.Common.{All, sym, subst}
use Rattle.bundle6.specs.declared.bundle.Bundle6.{Bundle6}
use Rattle.bundle6.specs.Legal.{IsLegal}
use Rattle.translate.specs.Legal.{IsSized6}
use Rattle.peer_cases.proofs.wire.octets_old.Goals as goal

pub encode6-requires : goal.encode6-requires
encode6-requires c =
    let view = c.in-Ok.ensures.view in
    let sized = rw c.as_slice.ensures at c.sized6.ensures in
    c.relabel6.ensures.legal
    (subst IsLegal (sym view)
    (c.view6_is_legal.ensures c.args.full.now c.requires.sound c.requires.fits (subst (λ (b : Bundle6). All IsSized6 b.blocks) view sized)))
