use Rattle.gate_config.specs.Lines.{line_text}
use Rattle.gate_config.proofs.ListLemmas.{three_pieces}
use Rattle.gate_config.proofs.lines.push_line.Goals as goal

pub returns : goal.returns
unfolding line_text
returns c =
    three_pieces _ _ _ _ _ _ _ c.in_ok-extend_from_slice.ensures.items c.in_ok-push_number.ensures c.in_ok-extend_from_slice-2.ensures.items
