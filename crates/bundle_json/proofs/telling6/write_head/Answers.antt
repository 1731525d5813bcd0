use Rattle.std.proofs.Common.{◌∙◌}
use Rattle.bundle_json.specs.Telling.{head_text}
use Rattle.bundle_json.proofs.ObjectLemmas.{frame6-text}
use Rattle.bundle_json.proofs.telling6.write_head.Goals as goal

pub returns : goal.returns
returns c =
    c.write_between.ensures (head_text c.args.flags c.args.kind) (c.as_str.ensures.value ∙ c.in_ok-frame_text.ensures ∙ frame6-text c.args.flags c.args.kind)
