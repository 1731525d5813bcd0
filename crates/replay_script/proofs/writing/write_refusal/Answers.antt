use Rattle.std.proofs.Common.{◌++◌, ◌∷◌, [], codes, ap, ◌∙◌, append_assoc}
use Rattle.std.proofs.lemmas.Result.{on_ok_weaker}
use Rattle.std.specs.Fmt.{decimal}
use Rattle.std.specs.String.{string_bytes}
use Rattle.replay_script.specs.Words.{after_spaces}
use Rattle.replay_script.specs.Lines.{if_number}
use Rattle.replay_script.proofs.writing.write_refusal.Goals as goal

pub returns : goal.returns
returns c =
    let rest = after_spaces (if_number c.args.at ++ c.args.cause.now ∷ []) in
    on_ok_weaker c.write_cause.result
    (λ h. h ∙ (ap (λ t. t ++ rest) c.in_ok-write_refused.ensures ∙ append_assoc (string_bytes c.args.text.now) (codes "refused line " ++ decimal c.args.line) rest))
    c.write_cause.ensures
