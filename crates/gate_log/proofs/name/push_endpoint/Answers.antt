use Rattle.std.proofs.Common.{◌++◌, sym, ap, ◌∙◌}
use Rattle.std.proofs.lemmas.Result.{on_ok_weaker}
use Rattle.std.specs.String.{string_bytes}
use Rattle.gate_log.proofs.PlainLemmas.{quoted-ipn}
use Rattle.gate_log.proofs.name.push_endpoint.Goals as goal

pub returns-in-Ipn : goal.returns-in-Ipn
returns-in-Ipn c =
    rw c.in-Ipn.is
    (on_ok_weaker c.push_ipn.result (λ h. h ∙ ap (λ v. string_bytes c.args.text.now ++ v) (sym (quoted-ipn c.in-Ipn.node c.in-Ipn.service))) c.push_ipn.ensures)
