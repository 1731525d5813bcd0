use Rattle.gate_log.proofs.PlainLemmas.{low-utf8}
use Rattle.gate_log.proofs.name.text_in.Goals as goal

pub returns-in-Err : goal.returns-in-Err
returns-in-Err c = λ low. absurd (c.in-Err.ensures.cases.0 (low-utf8 c.args.octets.now low))
