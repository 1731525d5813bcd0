use Rattle.std.proofs.lemmas.Result.{IfOk-weaker}
use Rattle.std.specs.String.{string_bytes}
use Rattle.serde_json.proofs.FreeTexts.{text_of_value}
use Rattle.bundle_json.specs.Frames.{head6_shown}
use Rattle.bundle_json.proofs.ObjectLemmas.{head6-whole}
use Rattle.bundle_json.proofs.shown.Head6.text.Goals as goal

pub returns : goal.returns
returns c =
    let head = c.args.self.now in
    IfOk-weaker c.json_text.result _ _ (λ text sent. text_of_value (head6_shown head) sent.0 (string_bytes text) sent.1 sent.2 (head6-whole head)) c.json_text.ensures
