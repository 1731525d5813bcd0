use Rattle.std.proofs.Common.{◌≡◌, ◌==◌, length, true, false, ◌∙◌, rules}
use Rattle.bundle_json.proofs.WalkLemmas.{named-numbers, named-texts, named-there, texts-visible}
use Rattle.bundle_json.proofs.name.named.Goals as goal

pub returns-then-is_empty : goal.returns-then-is_empty
returns-then-is_empty c = λ endpoint named.
    let none : (length c.args.dictionary.now == 0) ≡ true = search rules in
    rw (← (named-numbers c.args.dictionary.now c.args.pair endpoint none named), ← c.numbered.ensures.is) c.name_of.ensures

pub returns-in-Some-text_in : goal.returns-in-Some-text_in
returns-in-Some-text_in c = λ endpoint named.
    let some : (length c.args.dictionary.now == 0) ≡ false = search rules in
    let visible = texts-visible c.args.dictionary.now c.args.pair endpoint c.in-Some.scheme.now c.in-Some-text_in.ssp.now some c.in-Some.ensures
    c.in-Some-text_in.ensures named in
    rw (← (named-texts c.args.dictionary.now c.args.pair endpoint c.in-Some.scheme.now c.in-Some-text_in.ssp.now some c.in-Some.ensures c.in-Some-text_in.ensures named))
    (c.joined.ensures visible.0 visible.1)

pub returns-in-None : goal.returns-in-None
returns-in-None c = λ endpoint named.
    let some : (length c.args.dictionary.now == 0) ≡ false = search rules in
    let (scheme, ssp, first, second) = named-there c.args.dictionary.now c.args.pair endpoint some named in
    absurd (cc (c.in-None.ensures ∙ first))

pub returns-in-None-text_in : goal.returns-in-None-text_in
returns-in-None-text_in c = λ endpoint named.
    let some : (length c.args.dictionary.now == 0) ≡ false = search rules in
    let (scheme, ssp, first, second) = named-there c.args.dictionary.now c.args.pair endpoint some named in
    absurd (cc (c.in-None-text_in.ensures ∙ second))
