use Rattle.std.proofs.Common.{codes}
use Rattle.std.proofs.lemmas.Result.{on_ok_weaker}
use Rattle.gate_cases.specs.declared.face.Face.TheVariants.{Old, New}
use Rattle.gate_metrics.specs.Text.{sample_text, family_text, by_case}
use Rattle.gate_metrics.proofs.PieceLemmas.{lists-after}
use Rattle.gate_metrics.proofs.text.push_blocks.Goals as goal

pub returns : goal.returns
unfolding family_text
returns c =
    on_ok_weaker c.push_cases-2.result
    (λ h. lists-after (sample_text (codes "blocks_total")) (by_case Old c.args.old.now) (by_case New c.args.new.now) _ _ _ _ _
    c.in_ok-push_head.ensures c.in_ok-push_cases.ensures h)
    c.push_cases-2.ensures
