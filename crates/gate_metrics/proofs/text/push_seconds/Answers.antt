use Rattle.std.proofs.Common.{◌++◌, ◌/◌, ◌%◌, codes, decimal, sym, ap, ◌∙◌}
use Rattle.std.proofs.lemmas.Result.{on_ok_weaker}
use Rattle.std.specs.String.{string_bytes}
use Rattle.gate_metrics.specs.Text.{sample_text, at}
use Rattle.gate_metrics.proofs.PieceLemmas.{three-digits}
use Rattle.gate_metrics.proofs.text.push_seconds.Goals as goal

pub returns : goal.returns
returns c =
    on_ok_weaker c.push_parted.result
    (λ h. h ∙ ap (λ v. string_bytes c.args.text.now ++ sample_text (codes "next_contact_seconds") (at c.args.face (decimal (c.args.ms / 1000) ++ (codes "." ++ v))))
    (sym (three-digits (c.args.ms % 1000))))
    c.push_parted.ensures
