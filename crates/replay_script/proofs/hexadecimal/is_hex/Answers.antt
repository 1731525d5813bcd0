use Rattle.std.proofs.Common.{◌∙◌}
use Rattle.replay_script.proofs.FieldLemmas.{hex-is}
use Rattle.replay_script.proofs.hexadecimal.is_hex.Goals as goal

pub returns : goal.returns
returns c = c.is_hex.ensures ∙ hex-is c.args.text.now
