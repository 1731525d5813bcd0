use Rattle.std.proofs.Common.{◌∙◌}
use Rattle.crc_fields.proofs.Chain.{words-step}
use Rattle.crc_fields.proofs.x25.take_words.Goals as goal

pub words-preserved : goal.words-preserved
words-preserved c =
    let parts = c.in-Some.ensures.cases in
    words-step 0x8408 4 c.words.register c.take_word-register.result c.words.rest.now c.in-Some.word.now c.in-Some.after.now parts.0 parts.1 c.take_word-register.ensures
    ∙ c.words.invariant
