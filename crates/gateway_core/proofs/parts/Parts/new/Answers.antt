use Rattle.std.proofs.Common.{rules, refl}
use Rattle.ltp_segment.specs.PolicyViews.{policy_value}
use Rattle.gateway_core.proofs.DidLemmas.{whole-new}
use Rattle.gateway_core.proofs.parts.Parts.new.Goals as goal

pub returns-clause-whole : goal.returns-clause-whole
returns-clause-whole c = whole-new _ (policy_value c.args.config.policy) (search rules) c.requires.legal c.new.ensures.shows c.new-2.ensures.shows c.new.ensures.bounds c.new-2.ensures.bounds

pub returns-clause-shows : goal.returns-clause-shows
returns-clause-shows c = record { old_face = c.new.ensures.shows; new_face = c.new-2.ensures.shows; counter = refl }
