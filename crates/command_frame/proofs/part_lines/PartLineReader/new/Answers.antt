use Rattle.std.proofs.Common.{refl, inl, inr, ap, length, arith, [], None}
use Rattle.command_frame.proofs.LinesLemmas.{in_line-new, finish-writes}
use Rattle.command_frame.proofs.LimitsLemmas.{in_limits-within, in_limits-new}
use Rattle.command_frame.proofs.part_lines.PartLineReader.new.Goals as goal

pub returns-clause-stands : goal.returns-clause-stands
returns-clause-stands g c = λ start shows.
    in_line-new g.L.PartLineStep.rules (g.L.PartLineStep.Shows c.args.step []) 1 c.new.result.items start shows refl c.new.ensures.items

pub returns-clause-fresh : goal.returns-clause-fresh
returns-clause-fresh g c = λ writes settles stands began. elim began [
  | inl some ↦ absurd (omega (arith, some, ap length c.new.ensures.items))
  | inr wants ↦
      finish-writes g.L.PartLineStep.rules (g.L.PartLineStep.Shows c.args.step []) (g.L.PartLineStep.Shows c.args.step []) 1 c.new.result.items settles stands
      c.new.ensures.items (writes stands.state stands.shows wants)
]

pub returns-clause-within : goal.returns-clause-within
returns-clause-within g c = λ start shows.
    in_limits-within g.L.PartLineStep.rules (g.L.PartLineStep.Shows c.args.step []) 1 c.new.result.items None _
    (in_limits-new g.L.PartLineStep.rules (g.L.PartLineStep.Shows c.args.step []) 1 c.new.result.items None start shows refl c.new.ensures.items refl)
