use Rattle.std.proofs.Common.{◌∷◌, [], refl, ◌∙◌}
use Rattle.std.specs.String.{string_bytes}
use Rattle.endpoint.specs.declared.name.Endpoint.TheVariants.{Null}
use Rattle.bundle_json.specs.Json.{name}
use Rattle.bundle_json.proofs.ListLemmas.{items-step-at, comma-step-at}
use Rattle.bundle_json.proofs.name.write_names.Goals as goal

pub names-preserved : goal.names-preserved
unfolding lib.Utf8.encode
names-preserved c =
    let inside = rw c.len-at-end.ensures at c.names-test.true in
    let is = c.in_ok-endpoint.ensures.owned ∙ c.get.ensures in (
      items-step-at name c.args.refs.now c.names.at c.in_ok-endpoint.endpoint Null (string_bytes c.args.text.now)
          (string_bytes c.names.text) c.names.comma.now (string_bytes c.push_str.new.self) (string_bytes c.show.new.text)
          inside is c.names.invariant.0 c.names.invariant.1 c.in_ok-push_str.ensures.bytes c.in_ok-show.ensures,
      comma-step-at c.args.refs.now c.names.at c.in_ok-endpoint.endpoint Null inside is,
      (44 ∷ [], (refl, refl)),
    )
