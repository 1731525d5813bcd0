use Rattle.std.proofs.Common.{◌++◌, sym, ap, ◌∙◌}
use Rattle.std.proofs.lemmas.Result.{on_ok_weaker}
use Rattle.std.specs.String.{string_bytes}
use Rattle.gate_log.proofs.LineLemmas.{bundle-text}
use Rattle.gate_log.proofs.line.push_bundle.Goals as goal

pub returns : goal.returns
returns c =
    on_ok_weaker c.push_object.result (λ h. h ∙ ap (λ v. string_bytes c.args.text.now ++ v) (sym (bundle-text c.args.subject.now))) c.push_object.ensures
