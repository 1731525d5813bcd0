use Rattle.std.proofs.Common.{arith, ◌≡◌, ◌+◌, ap, ◌∙◌}
use Rattle.block_types.specs.Types.{swapped}
use Rattle.block_types.proofs.RetypeLemmas6.{said-octet}
use Rattle.block_types.proofs.wire6.other_octet.Goals as goal

said : (c : goal.After-swapped) → c.swapped.result ≡ swapped c.args.types (128 + c.args.octet)
said c = c.swapped.ensures ∙ ap (λ n. swapped c.args.types (128 + n)) c.from.ensures

pub overflow_sub-result : goal.overflow_sub-result
overflow_sub-result c = (said-octet c.args.types c.args.octet c.swapped.result c.requires.low c.requires.high (said c)).0

pub overflow_cast-result : goal.overflow_cast-result
overflow_cast-result c =
    let small = said-octet c.args.types c.args.octet c.swapped.result c.requires.low c.requires.high (said c) in
    omega (arith, small)

pub returns : goal.returns
returns c =
    let small = said-octet c.args.types c.args.octet c.swapped.result c.requires.low c.requires.high (said c) in
    omega (arith, small, said c)
