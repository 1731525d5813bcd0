use Rattle.std.proofs.lemmas.Result.{on_ok_weaker}
use Rattle.std.specs.String.{string_bytes}
use Rattle.gate_metrics.specs.Text.{family_text}
use Rattle.gate_metrics.proofs.PieceLemmas.{before, ends}
use Rattle.gate_metrics.proofs.text.push_pending.Goals as goal

pub returns : goal.returns
unfolding family_text
returns c =
    on_ok_weaker c.push_alone.result
    (λ h. ends (string_bytes c.args.text.now) (string_bytes c.push_alone.new.text) _
    (before (string_bytes c.args.text.now) (string_bytes c.push_head.new.text) (string_bytes c.push_alone.new.text) _ _ c.in_ok-push_head.ensures
    (ends (string_bytes c.push_head.new.text) (string_bytes c.push_alone.new.text) _ h)))
    c.push_alone.ensures
