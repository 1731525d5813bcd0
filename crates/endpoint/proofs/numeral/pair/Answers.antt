use Rattle.std.proofs.Common.{sym, ◌∙◌}
use Rattle.endpoint.proofs.NumeralLemmas.{pair_of-none, pair_of-no_first, pair_of-no_second, pair_of-found}
use Rattle.endpoint.proofs.numeral.pair.Goals as goal

pub returns-in_err-dot : goal.returns-in_err-dot
returns-in_err-dot c = c.from_residual.ensures ∙ sym (pair_of-none c.args.text.now (sym c.in_err-dot.ensures))

pub returns-in_err-one : goal.returns-in_err-one
returns-in_err-one c =
    c.from_residual-in_err-one.ensures
    ∙ sym (pair_of-no_first c.args.text.now c.in_ok-dot.dot c.in_ok-dot.ensures c.in_err-one.ensures)

pub returns-in_err-other : goal.returns-in_err-other
returns-in_err-other c =
    c.from_residual-in_err-other.ensures
    ∙ sym (pair_of-no_second c.args.text.now c.in_ok-dot.dot c.in_ok-dot.ensures c.in_err-other.ensures)

pub returns : goal.returns
returns c =
    sym (pair_of-found c.args.text.now c.in_ok-dot.dot c.in_ok-one.one c.in_ok-other.other
    c.in_ok-dot.ensures c.in_ok-one.ensures c.in_ok-other.ensures)
