use Rattle.std.proofs.Common.{◌∙◌, sym, arith}
use Rattle.wire_fields.specs.Reading.{IsOctets}
use Rattle.bundle7.specs.declared.block.Block7.{Block7}
use Rattle.translate.specs.Reading7.{is_wrap_legal7}
use Rattle.translate.proofs.LoopLemmas.{all-step, have-step, have-all}
use Rattle.translate.proofs.reading7.all_wraps7.Goals as goal

pub loop-block-preserved : goal.loop-block-preserved
loop-block-preserved c = record {
  rest = all-step is_wrap_legal7 c.args.blocks.now c.loop-block.block-index c.block-item.result c.loop-block-test.true c.block-item.is
      (sym c.is_wrap_legal7.ensures.exact ∙ c.if-not-is_wrap_legal7.false) c.loop-block.invariant.rest;
  octets = have-step (λ (b : Block7). IsOctets b.body) c.args.blocks.now c.loop-block.block-index c.block-item.result
      c.loop-block-test.true c.block-item.is c.is_wrap_legal7.ensures.octets c.loop-block.invariant.octets;
}

pub returns-clause-octets : goal.returns-clause-octets
returns-clause-octets c = λ yes.
    have-all (λ (b : Block7). IsOctets b.body) c.args.blocks.now c.loop-block.block-index (omega arith) c.loop-block.invariant.octets
