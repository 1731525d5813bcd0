use Rattle.std.proofs.lemmas.Result.{on_ok_weaker}
use Rattle.gate_config.specs.Lines.{low_text}
use Rattle.gate_config.proofs.ListLemmas.{two_pieces}
use Rattle.gate_config.proofs.lines.push_low.Goals as goal

pub returns : goal.returns
unfolding low_text
returns c = on_ok_weaker c.push_number.result (λ h. two_pieces _ _ _ _ _ c.in_ok-extend_from_slice.ensures.items h) c.push_number.ensures
