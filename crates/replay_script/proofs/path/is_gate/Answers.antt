use Rattle.std.proofs.Common.{◌∙◌}
use Rattle.replay_script.proofs.FieldLemmas.{gate-text}
use Rattle.replay_script.proofs.path.is_gate.Goals as goal

pub returns : goal.returns
returns c = c.is_gate_text.ensures ∙ gate-text c.args.text.now
