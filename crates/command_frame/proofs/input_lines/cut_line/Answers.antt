use Rattle.std.proofs.Common.{add-one, arith}
use Rattle.std.proofs.lemmas.List.{take_rest}
use Rattle.command_frame.proofs.InputLinesLemmas.{cut-parts, cut-plain, ended_part-none}
use Rattle.command_frame.proofs.input_lines.cut_line.Goals as goal

pub returns-in-Some-clause-some : goal.returns-in-Some-clause-some
returns-in-Some-clause-some c =
    let parts = cut-parts c.args.octets.now c.in-Some.at c.in-Some.ensures.0.high c.in-Some.ensures.1 in
    let plain = cut-plain c.args.octets.now c.in-Some.at c.in-Some.ensures.0.high
    (λ k low. c.in-Some.ensures.0.before k (omega arith) low) in
    (rw (take_rest c.args.octets.now, add-one) parts, plain)

pub returns-in-None-clause-none : goal.returns-in-None-clause-none
returns-in-None-clause-none c = λ is. ended_part-none c.args.octets.now (λ k high. c.in-None.ensures k (omega arith) high)
