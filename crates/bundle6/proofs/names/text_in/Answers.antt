use Rattle.bundle6.proofs.NamesLemmas.{text_at-past, text_at-near, text_at-far}
use Rattle.bundle6.proofs.names.text_in.Goals as goal

pub returns-then-dictionary-offset : goal.returns-then-dictionary-offset
returns-then-dictionary-offset c = text_at-past c.args.dictionary.now c.args.offset c.if-dictionary-offset.true

pub returns-in-Some : goal.returns-in-Some
returns-in-Some c =
    text_at-near c.args.dictionary.now c.split_at.result.1.now c.args.offset c.min.result c.in-Some.end
    c.split_at.ensures.back c.min.ensures c.in-Some.ensures

pub returns-in-None : goal.returns-in-None
returns-in-None c =
    text_at-far c.args.dictionary.now c.split_at.result.1.now c.args.offset c.min.result
    c.split_at.ensures.back c.min.ensures c.in-None.ensures
