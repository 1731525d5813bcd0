use Rattle.std.specs.String.{string_bytes}
use Rattle.fragment_lines.specs.Tells.{TellsText}
use Rattle.fragment_lines.proofs.telling.Telling.tell.Given as goal

abbrev pub invariant-steps : goal.invariant-steps
invariant-steps l = TellsText l.fn.self l.self (string_bytes l.fn.text) (string_bytes l.text)
