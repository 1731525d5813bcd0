use Rattle.std.proofs.Common.{◌≡◌, sym, ◌∙◌, take, take_all}
use Rattle.std.proofs.lemmas.Bool.{lt-ltb}
use Rattle.endpoint.proofs.NumeralLemmas.{number_of-stops, digits-more, number_of-all, number_of-begins}
use Rattle.replay_script.proofs.numeral.number.Goals as goal

pub returns-then-not-begins_as_numeral : goal.returns-then-not-begins_as_numeral
returns-then-not-begins_as_numeral c =
    sym (number_of-begins c.args.text.now (sym c.begins_as_numeral.ensures ∙ c.if-not-begins_as_numeral.true))

pub returns-in_err-value : goal.returns-in_err-value
returns-in_err-value c =
    c.from_residual.ensures ∙ sym (number_of-stops c.args.text.now c.loop-digit.digit-index
    c.loop-digit-test.true (rw c.loop-digit.invariant.value at c.in_err-value.ensures))

pub loop-digit-preserved : goal.loop-digit-preserved
loop-digit-preserved c =
    let more = digits-more c.args.text.now c.loop-digit.digit-index c.loop-digit.value c.loop-digit-test.true
    c.loop-digit.invariant.value c.loop-digit.invariant.digits c.in_ok-value.ensures.0 in
    record {
      digits = more.0;
      value = c.in_ok-value.ensures.1 ∙ more.1;
      low = rw c.in_ok-value.ensures.1 c.in_ok-value.ensures.0.1;
    }

pub returns : goal.returns
returns c =
    let whole : take c.loop-digit.digit-index c.args.text.now ≡ c.args.text.now =
    take_all c.loop-digit.digit-index c.args.text.now c.loop-digit-test.false in
    sym (number_of-all c.args.text.now c.loop-digit.value (sym c.begins_as_numeral.ensures ∙ c.if-not-begins_as_numeral.false)
    (rw whole at c.loop-digit.invariant.digits) (rw whole at c.loop-digit.invariant.value)
    (lt-ltb _ _ c.loop-digit.invariant.low))
