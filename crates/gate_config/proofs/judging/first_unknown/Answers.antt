use Rattle.std.proofs.Common.{◌≡◌, ◌∷◌, [], sym, ap, ◌∙◌, arith}
use Rattle.std.proofs.lemmas.Grind.{common_steps}
use Rattle.toml.proofs.Views.{Entry}
use Rattle.toml.specs.View.{members_view}
use Rattle.gate_config.specs.Meaning.{first_unknown}
use Rattle.gate_config.proofs.DocumentLemmas.{first_unknown-known, first_unknown-other, first_unknown-end}
use Rattle.gate_config.proofs.judging.first_unknown.Goals as goal

pub returns-then-not-is_known : goal.returns-then-not-is_known
returns-then-not-is_known c =
    let e : Entry = (c.in-Some.key.now, c.in-Some.field-0-1.now) in
    let iter : c.keys.key-iterator ≡ e ∷ c.next.new.self = grind (arith, common_steps) in
    let test = rw (c.as_str.ensures.value, c.if-not-is_known.true) at c.is_known.ensures in
    let found = first_unknown-other c.args.known.now e c.next.new.self (sym test) in
    let here = ap (λ es. first_unknown c.args.known.now (members_view es)) iter in
    rw c.as_str-then-not-is_known.ensures.value (sym found ∙ sym here ∙ c.keys.invariant)

pub keys-preserved : goal.keys-preserved
keys-preserved c =
    let e : Entry = (c.in-Some.key.now, c.in-Some.field-0-1.now) in
    let iter : c.keys.key-iterator ≡ e ∷ c.next.new.self = grind (arith, common_steps) in
    let test = rw (c.as_str.ensures.value, c.if-not-is_known.false) at c.is_known.ensures in
    let here = ap (λ es. first_unknown c.args.known.now (members_view es)) iter in
    sym (first_unknown-known c.args.known.now e c.next.new.self (sym test)) ∙ sym here ∙ c.keys.invariant

pub returns : goal.returns
returns c =
    let iter : c.keys.key-iterator ≡ [] = grind (arith, common_steps) in
    let here = ap (λ es. first_unknown c.args.known.now (members_view es)) iter in
    sym (first_unknown-end c.args.known.now) ∙ sym here ∙ c.keys.invariant
