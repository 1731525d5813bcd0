use Rattle.std.proofs.Common.{◌+◌, ◌++◌, ◌∷◌, [], drop, ap, sym, ◌∙◌}
use Rattle.toml.specs.View.{view, items_view}
use Rattle.gate_config.specs.Meaning.{contact_of, contacts_of}
use Rattle.gate_config.proofs.ListLemmas.{pushed, finished}
use Rattle.gate_config.proofs.DocumentLemmas.{contacts_of-more, contacts_of-end}
use Rattle.gate_config.proofs.building.contacts_of.Goals as goal

pub values-preserved : goal.values-preserved
values-preserved c =
    let vs = c.args.values.now in
    let i = c.values.value-index in
    let more = contacts_of-more vs i c.value-item.result c.values-test.true in
    let contact = c.contact_of.ensures ∙ ap (λ v. contact_of (view v)) c.value-item.is in
    let after = contacts_of (items_view (drop (i + 1) vs)) in
    let piece = more ∙ ap (λ x. (x ∷ []) ++ after) (sym contact) in
    rw c.in_ok-push.ensures.items
    (pushed c.values.contacts.items (c.contact_of.result ∷ []) after (contacts_of (items_view (drop i vs))) (contacts_of (items_view vs)) c.values.invariant piece)

pub returns : goal.returns
returns c =
    let rest = contacts_of (items_view (drop c.values.value-index c.args.values.now)) in
    c.from_vec.ensures ∙ finished c.values.contacts.items rest (contacts_of (items_view c.args.values.now)) c.values.invariant
    (contacts_of-end c.args.values.now c.values.value-index c.values-test.false)
