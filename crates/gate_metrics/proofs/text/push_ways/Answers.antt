use Rattle.std.proofs.lemmas.Result.{on_ok_weaker}
use Rattle.std.specs.String.{string_bytes}
use Rattle.gate_metrics.proofs.PieceLemmas.{before, ends}
use Rattle.gate_metrics.proofs.text.push_ways.Goals as goal

pub returns : goal.returns
returns c =
    on_ok_weaker c.push_by-3.result
    (λ h. before (string_bytes c.args.text.now) (string_bytes c.push_by.new.text) (string_bytes c.push_by-3.new.text) _ _ c.in_ok-push_by.ensures
    (before (string_bytes c.push_by.new.text) (string_bytes c.push_by-2.new.text) (string_bytes c.push_by-3.new.text) _ _ c.in_ok-push_by-2.ensures
    (ends (string_bytes c.push_by-2.new.text) (string_bytes c.push_by-3.new.text) _ h)))
    c.push_by-3.ensures
