use Rattle.std.proofs.Common.{codes}
use Rattle.std.proofs.lemmas.Result.{on_ok_weaker}
use Rattle.std.specs.String.{string_bytes}
use Rattle.json.specs.Print.{escape_byte}
use Rattle.serde_json.specs.Written.{compact_text}
use Rattle.gate_log.specs.Values.{or_null, bundle}
use Rattle.gate_log.specs.Written.{later_text}
use Rattle.gate_log.proofs.LineLemmas.{before}
use Rattle.gate_log.proofs.line.push_subject.Goals as goal

pub returns : goal.returns
unfolding later_text escape_byte
returns c =
    on_ok_weaker c.push_bundle_or_null.result
    (λ h. before (string_bytes c.args.text.now) (string_bytes c.push_str.new.self) (string_bytes c.push_bundle_or_null.new.text)
    (codes ",\"subject\":") (compact_text (or_null bundle c.args.subject.now)) c.in_ok-push_str.ensures.bytes h)
    c.push_bundle_or_null.ensures
