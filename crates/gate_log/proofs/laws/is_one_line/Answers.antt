use Rattle.std.proofs.Common.{refl}
use Rattle.serde_json.specs.Written.{compact_text}
use Rattle.gate_log.specs.Values.{object_of}
use Rattle.gate_log.specs.Lines.{line_entries, line_of}
use Rattle.gate_log.proofs.ShownLemmas.{value-shown}
use Rattle.gate_log.proofs.laws.is_one_line.Goals as goal

pub returns : goal.returns
unfolding line_of
returns c = λ at event. (compact_text (object_of (line_entries at event)), refl, value-shown (object_of (line_entries at event)))
