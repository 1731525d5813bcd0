use Rattle.std.proofs.Common.{codes, ◌∙◌}
use Rattle.bundle_json.specs.Telling.{closing_text}
use Rattle.bundle_json.proofs.ObjectLemmas.{last6-text, to-end}
use Rattle.bundle_json.proofs.telling6.write_closing.Goals as goal

pub returns : goal.returns
returns c = λ primary shows.
    let last = c.args.last in
    c.write_between.ensures (closing_text last.flags last.kind primary)
    (to-end _ _ (codes "{\"blocks\":[{\"body\":\"") (closing_text last.flags last.kind primary) c.as_str.ensures.value
    (c.in_ok-head_text.ensures primary shows ∙ last6-text last primary))
