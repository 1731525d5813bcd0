use Rattle.std.proofs.lemmas.Result.{on_ok_weaker}
use Rattle.std.specs.String.{string_bytes}
use Rattle.gate_log.proofs.LineLemmas.{ends}
use Rattle.gate_log.proofs.line.push_event.Goals as goal

pub returns-in-MetricsFailed : goal.returns-in-MetricsFailed
returns-in-MetricsFailed c =
    rw c.in-MetricsFailed.is (on_ok_weaker c.push_word.result (λ h. ends (string_bytes c.args.text.now) (string_bytes c.push_word.new.text) _ h) c.push_word.ensures)
