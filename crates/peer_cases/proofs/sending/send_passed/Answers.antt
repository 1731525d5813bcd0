use Rattle.std.proofs.Common.{sym, ◌∙◌}
use Rattle.peer_cases.proofs.SendLemmas.{unfit-sent, short-sent, passed-sent}
use Rattle.peer_cases.proofs.sending.send_passed.Goals as goal

pub returns-then-not-fits : goal.returns-then-not-fits
returns-then-not-fits c =
    unfit-sent c.args.settings c.args.to c.args.passed.full c.args.cut c.args.passed.left c.args.room c.stopped.result
    (sym c.fits.ensures ∙ c.if-not-fits.true) c.stopped.ensures

pub returns-in-None : goal.returns-in-None
returns-in-None c =
    short-sent c.args.settings c.args.to c.args.passed.full c.args.cut c.args.passed.left c.args.room c.stopped-in-None.result
    (sym c.fits.ensures ∙ c.if-not-fits.false) (rw c.in-None.is at c.in_ok-sized_pieces.ensures) c.stopped-in-None.ensures

pub returns-in-Some : goal.returns-in-Some
returns-in-Some c =
    passed-sent c.args.settings c.args.to c.args.passed.full c.args.cut c.args.passed.left c.args.room c.in-Some.pieces
    (sym c.fits.ensures ∙ c.if-not-fits.false) (rw c.in-Some.is at c.in_ok-sized_pieces.ensures)
