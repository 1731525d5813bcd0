use Rattle.std.proofs.Common.{codes, ◌∙◌}
use Rattle.bundle_json.specs.Telling.{primary_text}
use Rattle.bundle_json.proofs.ObjectLemmas.{head6-text, to-end}
use Rattle.bundle_json.proofs.telling6.write_primary.Goals as goal

pub returns : goal.returns
returns c = λ primary shows.
    c.write_between.ensures (primary_text primary)
    (to-end _ _ (codes "{\"blocks\":[") (primary_text primary) c.as_str.ensures.value (c.in_ok-head_text.ensures primary shows ∙ head6-text primary))
