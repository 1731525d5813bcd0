use Rattle.std.proofs.Common.{◌++◌, sym, ap, ◌∙◌}
use Rattle.std.proofs.lemmas.Result.{on_ok_weaker}
use Rattle.std.specs.String.{string_bytes}
use Rattle.gate_metrics.proofs.PieceLemmas.{before, metrics-parts}
use Rattle.gate_metrics.proofs.text.write_metrics.Goals as goal

pub returns : goal.returns
returns c =
    on_ok_weaker c.push_pending.result
    (λ h. before (string_bytes c.args.text.now) (string_bytes c.push_traffic.new.text) (string_bytes c.push_pending.new.text) _ _ c.in_ok-push_traffic.ensures
    (before (string_bytes c.push_traffic.new.text) (string_bytes c.push_troubles.new.text) (string_bytes c.push_pending.new.text) _ _ c.in_ok-push_troubles.ensures
    (before (string_bytes c.push_troubles.new.text) (string_bytes c.push_kept.new.text) (string_bytes c.push_pending.new.text) _ _ c.in_ok-push_kept.ensures
    (before (string_bytes c.push_kept.new.text) (string_bytes c.push_links.new.text) (string_bytes c.push_pending.new.text) _ _ c.in_ok-push_links.ensures h)))
    ∙ ap (λ v. string_bytes c.args.text.now ++ v) (sym (metrics-parts c.args.counters.now c.args.gauges.now)))
    c.push_pending.ensures
