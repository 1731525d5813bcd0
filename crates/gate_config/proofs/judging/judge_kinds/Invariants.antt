use Rattle.std.proofs.Common.{◌≡◌, drop}
use Rattle.gate_config.specs.Lent.{seen}
use Rattle.gate_config.specs.Meaning.{first_misfit}
use Rattle.gate_config.proofs.judging.judge_kinds.Given as goal

abbrev pub invariant-keys : goal.invariant-keys
invariant-keys l = first_misfit l.within (drop l.key-index l.known) (seen l.place) ≡ first_misfit l.within l.known (seen l.place)
