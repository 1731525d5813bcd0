use Rattle.std.proofs.Common.{◌≡◌, ◌++◌, take, false}
use Rattle.std.specs.String.{string_bytes}
use denote.Shadow.{shadow}
use denote.Text.{Utf8}
use Rattle.bundle_json.specs.Json.{name}
use Rattle.bundle_json.specs.Commas.{with_commas, comma_after}
use Rattle.bundle_json.proofs.name.write_names.Given as goal

abbrev pub invariant-names : goal.invariant-names
invariant-names l =
    (string_bytes l.text ≡ string_bytes l.fn.text ++ with_commas name false (take l.at l.refs))
    × (l.comma ≡ comma_after (take l.at l.refs)) × shadow (Utf8 l.comma)
