use Rattle.std.proofs.Common.{◌≡◌, ◌++◌, take, false}
use Rattle.std.specs.String.{string_bytes}
use denote.Shadow.{shadow}
use denote.Text.{Utf8}
use Rattle.bundle_json.specs.Commas.{with_commas, comma_after}
use Rattle.bundle_json.proofs.list.write_items.Given as goal

abbrev pub invariant-items : goal.invariant-items
invariant-items g l =
    (string_bytes l.text ≡ string_bytes l.fn.text ++ with_commas g.T.Shown.json false (take l.item-index l.items))
    × (l.comma ≡ comma_after (take l.item-index l.items)) × shadow (Utf8 l.comma)
