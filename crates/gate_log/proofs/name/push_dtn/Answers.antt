use Rattle.std.proofs.Common.{◌++◌, codes, ap, ◌∙◌}
use Rattle.std.proofs.lemmas.Result.{on_ok_weaker}
use Rattle.std.specs.String.{string_bytes}
use Rattle.json.specs.Print.{quoted}
use Rattle.gate_log.proofs.PlainLemmas.{ssp-low}
use Rattle.gate_log.proofs.name.push_dtn.Goals as goal

pub returns : goal.returns
returns c =
    let shown = c.text_in.ensures (rw c.as_slice.ensures (ssp-low c.args.ssp.now c.requires)) ∙ c.as_slice.ensures in
    on_ok_weaker c.push_named.result (λ h. h ∙ ap (λ v. string_bytes c.args.text.now ++ quoted (codes "dtn:" ++ v)) shown) c.push_named.ensures
