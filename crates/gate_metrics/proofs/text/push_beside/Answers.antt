use Rattle.std.proofs.lemmas.Result.{on_ok_weaker}
use Rattle.std.specs.String.{string_bytes}
use Rattle.gate_metrics.proofs.PieceLemmas.{before, ends}
use Rattle.gate_metrics.proofs.text.push_beside.Goals as goal

pub returns : goal.returns
returns c =
    on_ok_weaker c.push_gauge.result
    (λ h. before (string_bytes c.args.text.now) (string_bytes c.push_counter.new.text) (string_bytes c.push_gauge.new.text) _ _ c.in_ok-push_counter.ensures
    (before (string_bytes c.push_counter.new.text) (string_bytes c.push_counter-2.new.text) (string_bytes c.push_gauge.new.text) _ _ c.in_ok-push_counter-2.ensures
    (ends (string_bytes c.push_counter-2.new.text) (string_bytes c.push_gauge.new.text) _ h)))
    c.push_gauge.ensures
