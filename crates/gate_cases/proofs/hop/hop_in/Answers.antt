use Rattle.std.proofs.Common.{arith}
use Rattle.gate_cases.proofs.HopLemmas.{hop-is}
use Rattle.gate_cases.proofs.hop.hop_in.Goals as goal

pub returns : goal.returns
returns c = hop-is c.args.body.now c.hop_of.result (λ i. omega (arith, c.type_inv.body i)) c.hop_of.ensures.found c.hop_of.ensures.only
