use Rattle.std.proofs.Common.{sym, ◌∙◌, inl, inr}
use Rattle.endpoint.specs.Lent.{endpoint_of}
use Rattle.bundle6.proofs.NamesLemmas.{resolve-misses, place-found}
use Rattle.bundle6.proofs.names.place_in.Goals as goal

pub returns-in_err-scheme : goal.returns-in_err-scheme
returns-in_err-scheme c =
    rw c.from_residual.ensures
    (sym (resolve-misses c.args.dictionary.now c.args.pair (sym c.is_empty.ensures ∙ c.if-is_empty.false)
    (inl c.in_err-scheme.ensures)))

pub returns-in_err-ssp : goal.returns-in_err-ssp
returns-in_err-ssp c =
    rw c.from_residual-in_err-ssp.ensures
    (sym (resolve-misses c.args.dictionary.now c.args.pair (sym c.is_empty.ensures ∙ c.if-is_empty.false)
    (inr c.in_err-ssp.ensures)))

pub returns : goal.returns
returns c =
    rw c.place_named.ensures
    (place-found c.args.dictionary.now c.args.pair c.in_ok-scheme.scheme.now c.in_ok-ssp.ssp.now (endpoint_of c.in_ok-name.name)
    (sym c.is_empty.ensures ∙ c.if-is_empty.false) c.in_ok-scheme.ensures c.in_ok-ssp.ensures (sym c.in_ok-name.ensures))
