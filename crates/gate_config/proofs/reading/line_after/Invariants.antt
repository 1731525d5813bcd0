use Rattle.std.proofs.Common.{◌≡◌, take}
use Rattle.gate_config.specs.Reading.{line_of}
use Rattle.gate_config.proofs.reading.line_after.Given as goal

abbrev pub invariant-octets : goal.invariant-octets
invariant-octets l = l.line ≡ line_of (take l.octet-index l.before)
