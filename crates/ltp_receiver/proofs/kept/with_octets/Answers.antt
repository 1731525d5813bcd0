use Rattle.std.proofs.Common.{◌∙◌, sym}
use Rattle.endpoint.proofs.PlacesLemmas.{on_err}
use Rattle.ltp_receiver.proofs.QuietLemmas.{all-filled, some-filled}
use Rattle.ltp_receiver.proofs.kept.with_octets.Goals as goal

pub returns-then-covers-clause-now : goal.returns-then-covers-clause-now
returns-then-covers-clause-now c =
    sym (all-filled c.places.result.now c.args.cells c.args.piece.now.offset c.args.piece.now.body.now
    c.places.ensures c.requires.some c.requires.fits (sym c.covers.ensures ∙ c.if-covers.true))

pub returns-clause-wanted : goal.returns-clause-wanted
returns-clause-wanted c = on_err c.with.result
    (some-filled c.places.result.now c.args.cells c.args.piece.now.offset c.args.piece.now.body.now
    c.places.ensures c.requires.fits (sym c.covers.ensures ∙ c.if-covers.false))
