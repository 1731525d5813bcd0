use Rattle.std.proofs.Common.{sym, ◌∙◌}
use Rattle.journal_file.specs.Ties.{kept_of}
use Rattle.journal_file.proofs.WantsLemmas.{on_err_of}
use Rattle.peer_records.proofs.TiedLemmas.{tied-new, no-rise, no-octets}
use Rattle.peer_records.proofs.keeping.Keeping.new.Goals as goal

pub returns-then-not-rises-clause-wanted : goal.returns-then-not-rises-clause-wanted
returns-then-not-rises-clause-wanted c = λ none.
    no-rise c.args.kept.greatest c.as_slice.result.now (sym c.rises.ensures ∙ c.if-not-rises.true) (c.as_slice.ensures.value ∙ none)

pub returns-in_err-said-clause-wanted : goal.returns-in_err-said-clause-wanted
returns-in_err-said-clause-wanted c =
    on_err_of _ _ (no-octets c.args.kept.pending.items c.in_err-said.ensures.wanted)

pub invariant_of-result : goal.invariant_of-result
invariant_of-result c =
    tied-new (kept_of c.args.kept) c.in_ok-said.said c.new-held.result c.in_ok-to_add.to_add c.as_slice.result.now c.as_slice-2.result.now
    c.in_ok-said.ensures.ok c.new-held.ensures c.in_ok-to_add.ensures.ok c.as_slice-2.ensures.value (sym c.rises.ensures ∙ c.if-not-rises.false) c.as_slice.ensures.value
