use Rattle.std.proofs.Common.{◌≡◌, drop}
use Rattle.translate.specs.Reading6.{payload_in}
use Rattle.gate_log.proofs.subject.payload_len.Given as goal

abbrev pub invariant-looking : goal.invariant-looking
invariant-looking l = payload_in (drop l.block-index l.blocks) ≡ payload_in l.blocks
