use Rattle.std.proofs.Common.{◌≡◌, take, drop}
use Rattle.std.specs.List.{All, list_all}
use Rattle.wire_fields.specs.Reading.{IsOctets}
use Rattle.translate.specs.Reading6.{is_wrap_legal6}
use Rattle.translate.proofs.reading6.all_wraps6.Given as goal

abbrev pub invariant-loop-block : goal.invariant-loop-block
invariant-loop-block l = record {
  rest : list_all is_wrap_legal6 (drop l.block-index l.blocks) ≡ list_all is_wrap_legal6 l.blocks;
  octets : All (λ block. IsOctets block.body) (take l.block-index l.blocks);
}
