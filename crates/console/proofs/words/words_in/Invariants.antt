use Rattle.std.proofs.Common.{◌≡◌, map}
use Rattle.std.specs.String.{string_bytes}
use Rattle.console.proofs.words.words_in.Given as goal

abbrev pub invariant-loop-text : goal.invariant-loop-text
invariant-loop-text l = l.words.items ≡ map string_bytes l.yielded
