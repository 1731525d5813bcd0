use Rattle.std.proofs.Common.{sym, ◌∙◌}
use Rattle.gate_config.specs.declared.keys.Key.TheVariants as keys
use Rattle.gate_config.specs.Lent.{seen}
use Rattle.gate_config.proofs.DocumentLemmas.{first_misfit-fits, first_misfit-other, first_misfit-end}
use Rattle.gate_config.proofs.judging.judge_kinds.Goals as goal

pub returns-then-not-fits : goal.returns-then-not-fits
returns-then-not-fits c =
    let test = rw (c.kind-kind.ensures, c.at.ensures, c.if-not-fits.true) at c.fits.ensures in
    let other = first_misfit-other c.args.within c.args.known.now (seen c.args.place) c.keys.key-index keys.Gateway c.keys-test.true (sym test) in
    rw (c.wanted_of.ensures, c.kind-kind.ensures) (sym other ∙ c.keys.invariant)

pub keys-preserved : goal.keys-preserved
keys-preserved c =
    let test = rw (c.kind-kind.ensures, c.at.ensures, c.if-not-fits.false) at c.fits.ensures in
    sym (first_misfit-fits c.args.within c.args.known.now (seen c.args.place) c.keys.key-index keys.Gateway c.keys-test.true (sym test)) ∙ c.keys.invariant

pub returns : goal.returns
returns c = sym (first_misfit-end c.args.within c.args.known.now (seen c.args.place) c.keys.key-index c.keys-test.false) ∙ c.keys.invariant
