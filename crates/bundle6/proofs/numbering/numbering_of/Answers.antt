use Rattle.std.proofs.Common.{sym, ◌∙◌, ap}
use Rattle.bundle6.specs.Numbering.{lent_out}
use Rattle.bundle6.proofs.NumberingLemmas.{result-none, result-some}
use Rattle.bundle6.proofs.numbering.numbering_of.Goals as goal

pub returns-then-are_numbered : goal.returns-then-are_numbered
returns-then-are_numbered c =
    result-none c.args.bundle.now (lent_out c.as_slice-endpoints.result.now) c.without_dictionary.result
    (ap lent_out c.as_slice-endpoints.ensures.value ∙ c.in_ok-endpoints.ensures)
    (sym c.are_numbered.ensures ∙ c.if-are_numbered.true) c.without_dictionary.ensures

pub returns : goal.returns
returns c =
    result-some c.args.bundle.now (lent_out c.as_slice-endpoints.result.now) c.with_dictionary.result
    (ap lent_out c.as_slice-endpoints.ensures.value ∙ c.in_ok-endpoints.ensures)
    (sym c.are_numbered.ensures ∙ c.if-are_numbered.false) c.with_dictionary.ensures
