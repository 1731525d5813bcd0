use Rattle.std.proofs.Common.{◌++◌, codes, sym, ap, ◌∙◌}
use Rattle.std.proofs.lemmas.Result.{on_ok_weaker}
use Rattle.std.specs.String.{string_bytes}
use Rattle.moment_text.specs.Text.{moment_text}
use Rattle.gate_log.proofs.TextLemmas.{plain-moment, plain-escape, plain-low}
use Rattle.gate_log.proofs.member.push_moment.Goals as goal

pub returns : goal.returns
returns c =
    let plain = plain-moment c.args.at in
    let shown = c.text_in-shown.ensures (rw c.spell-spelled.ensures (plain-low (moment_text c.args.at) plain)) ∙ c.spell-spelled.ensures in
    on_ok_weaker c.write.result
    (λ h. h ∙ ap (λ v. string_bytes c.args.text.now ++ (codes "\"" ++ (v ++ codes "\""))) (shown ∙ sym (plain-escape (moment_text c.args.at) plain)))
    c.write.ensures.bytes
