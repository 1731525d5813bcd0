use Rattle.std.proofs.Common.{[], ◌∷◌, ◌++◌, codes, sym, ap, ◌∙◌}
use Rattle.std.proofs.lemmas.Result.{on_ok_weaker}
use Rattle.std.specs.String.{string_bytes}
use Rattle.serde_json.specs.Data.{string}
use Rattle.gate_log.specs.Values.{count}
use Rattle.gate_log.specs.Lines.{called, at_face, in_session}
use Rattle.gate_log.proofs.LineLemmas.{before, later_counted}
use Rattle.gate_log.proofs.line.push_lost_block.Goals as goal

pub returns : goal.returns
returns c =
    let rest = called c.args.event.now ∷ at_face c.args.face ∷ (codes "reason", count c.args.reason) ∷ in_session c.args.session ∷ (codes "side", string (codes "sending")) ∷ [] in
    on_ok_weaker c.push_ended.result
    (λ h. before (string_bytes c.args.text.now) (string_bytes c.push_count_if.new.text) (string_bytes c.push_ended.new.text) _ _ c.in_ok-push_count_if.ensures h
    ∙ ap (λ v. string_bytes c.args.text.now ++ v) (sym (later_counted (codes "bundles") c.args.bundles rest)))
    c.push_ended.ensures
