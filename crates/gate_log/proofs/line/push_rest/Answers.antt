use Rattle.std.proofs.lemmas.Result.{on_ok_weaker}
use Rattle.std.specs.String.{string_bytes}
use Rattle.gate_log.proofs.LineLemmas.{before, ends}
use Rattle.gate_log.proofs.line.push_rest.Goals as goal

pub returns : goal.returns
returns c =
    on_ok_weaker c.push_version.result
    (λ h. before (string_bytes c.args.text.now) (string_bytes c.push_name.new.text) (string_bytes c.push_version.new.text) _ _ c.in_ok-push_name.ensures
    (before (string_bytes c.push_name.new.text) (string_bytes c.push_fragment.new.text) (string_bytes c.push_version.new.text) _ _ c.in_ok-push_fragment.ensures
    (before (string_bytes c.push_fragment.new.text) (string_bytes c.push_count.new.text) (string_bytes c.push_version.new.text) _ _ c.in_ok-push_count.ensures
    (before (string_bytes c.push_count.new.text) (string_bytes c.push_name-2.new.text) (string_bytes c.push_version.new.text) _ _ c.in_ok-push_name-2.ensures
    (ends (string_bytes c.push_name-2.new.text) (string_bytes c.push_version.new.text) _ h)))))
    c.push_version.ensures
