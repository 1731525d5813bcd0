use Rattle.std.proofs.Common.{◌∷◌, [], refl}
use Rattle.std.specs.String.{string_bytes}
use Rattle.bundle_json.proofs.ListLemmas.{items-step, comma-step}
use Rattle.bundle_json.proofs.list.write_items.Goals as goal

pub items-preserved : goal.items-preserved
unfolding lib.Utf8.encode
items-preserved g c = (
  items-step g.T.Shown.json c.args.items.now c.items.item-index c.item-item.result (string_bytes c.args.text.now) (string_bytes c.items.text) c.items.comma.now
      (string_bytes c.push_str.new.self) (string_bytes c.show.new.text) c.items-test.true c.item-item.is c.items.invariant.0 c.items.invariant.1
      c.in_ok-push_str.ensures.bytes c.in_ok-show.ensures,
  comma-step c.args.items.now c.items.item-index c.item-item.result c.items-test.true c.item-item.is,
  (44 ∷ [], (refl, refl)),
)
