use Rattle.gate_run.proofs.TellLemmas.{lines-written}
use Rattle.gate_run.proofs.telling.write_lines.Goals as goal

pub returns-clause-goes : goal.returns-clause-goes
returns-clause-goes g c = λ p at.
    lines-written _ p _ c.write_text.result _ _ _ _ at (c.text.ensures p.standing at.shown)
    c.write_text.ensures.ahead c.write_text.ensures.made
