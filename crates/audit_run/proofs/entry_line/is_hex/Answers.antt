use Rattle.std.proofs.Common.{◌∙◌}
use Rattle.audit_run.proofs.HexLemmas.{hex-is}
use Rattle.audit_run.proofs.entry_line.is_hex.Goals as goal

pub returns : goal.returns
returns c = c.is_hex.ensures ∙ hex-is c.args.text.now
