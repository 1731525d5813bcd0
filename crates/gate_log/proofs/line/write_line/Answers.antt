use Rattle.std.proofs.Common.{◌++◌, sym, ap, ◌∙◌}
use Rattle.std.proofs.lemmas.Result.{on_ok_weaker}
use Rattle.std.specs.String.{string_bytes}
use Rattle.gate_log.proofs.LineLemmas.{line-text}
use Rattle.gate_log.proofs.line.write_line.Goals as goal

pub returns : goal.returns
returns c =
    on_ok_weaker c.push_line.result (λ h. h ∙ ap (λ v. string_bytes c.args.text.now ++ v) (sym (line-text c.args.at c.args.event.now))) c.push_line.ensures
