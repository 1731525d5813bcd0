use Rattle.std.proofs.Common.{◌≡◌, ◌++◌, false, nat_lt, drop}
use Rattle.std.specs.String.{string_bytes}
use Rattle.serde_json.specs.Written.{items_text}
use Rattle.gate_log.specs.Values.{count_items}
use Rattle.gate_log.proofs.member.push_items.Given as goal

abbrev pub invariant-numbers : goal.invariant-numbers
invariant-numbers l =
    string_bytes l.text ++ items_text (nat_lt 0 l.index) (count_items (drop l.index l.numbers)) ≡ string_bytes l.initial.text ++ items_text false (count_items l.numbers)
