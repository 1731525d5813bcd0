use Rattle.std.proofs.Common.{ℕ, List}
use Rattle.std.specs.String.{string_bytes}
use Rattle.bundle_json.specs.Telling.{Left, Tells}
use Rattle.bundle_json.proofs.telling6.Telling6.tell.Given as goal

abbrev pub invariant-steps : goal.invariant-steps
invariant-steps l = (rest : List ℕ) → Left l.octets l.fn.self rest
    → Tells l.octets l.fn.self l.self (string_bytes l.fn.text) (string_bytes l.text) rest
