use Rattle.std.proofs.Common.{◌∙◌}
use Rattle.std.proofs.lemmas.Bool.{ne_eqb}
use Rattle.hex_text.proofs.TextLemmas.{even-hex, odd-hex}
use Rattle.hex_text.proofs.reading.is_hex.Goals as goal

pub returns-then-text-eq0 : goal.returns-then-text-eq0
returns-then-text-eq0 c = c.are_digits.ensures ∙ even-hex c.args.text.now c.if-text-eq0.true

pub returns-else-text-eq0 : goal.returns-else-text-eq0
returns-else-text-eq0 c = ne_eqb _ _ c.if-text-eq0.false ∙ odd-hex c.args.text.now c.if-text-eq0.false
