use Rattle.std.proofs.Common.{◌++◌, sym, ap, ◌∙◌}
use Rattle.std.proofs.lemmas.Result.{on_ok_weaker}
use Rattle.std.specs.String.{string_bytes}
use Rattle.gate_metrics.proofs.PieceLemmas.{before, peer-parts}
use Rattle.gate_metrics.proofs.text.write_peer_metrics.Goals as goal

pub returns : goal.returns
returns c =
    on_ok_weaker c.push_beside.result
    (λ h. before (string_bytes c.args.text.now) (string_bytes c.write_metrics.new.text) (string_bytes c.push_beside.new.text) _ _ c.in_ok-write_metrics.ensures h
    ∙ ap (λ v. string_bytes c.args.text.now ++ v) (sym (peer-parts c.args.counters.now c.args.gauges.now c.args.old_gathered c.args.new_gathered)))
    c.push_beside.ensures
