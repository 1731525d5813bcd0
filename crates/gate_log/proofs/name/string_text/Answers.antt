use Rattle.std.proofs.Common.{refl}
use Rattle.std.proofs.lemmas.Result.{IfOk-weaker}
use Rattle.std.specs.String.{string_bytes}
use Rattle.serde_json.proofs.FreeTexts.{text_of_value}
use Rattle.serde_json.specs.Data.{string}
use Rattle.gate_log.proofs.name.string_text.Goals as goal

pub returns : goal.returns
returns c =
    IfOk-weaker c.json_text.result _ _ (λ text sent. text_of_value (string c.args.octets.now) sent.0 (string_bytes text) sent.1 sent.2 refl) c.json_text.ensures
