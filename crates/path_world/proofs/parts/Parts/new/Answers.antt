use Rattle.std.proofs.Common.{refl, arith}
use Rattle.ltp_segment.specs.PolicyViews.{policy_value}
use Rattle.path_world.proofs.NewLemmas.{begins-shows, begins-whole}
use Rattle.path_world.proofs.parts.Parts.new.Goals as goal

pub returns-clause-whole : goal.returns-clause-whole
returns-clause-whole c = begins-whole _ c.args.config.gate (policy_value c.args.config.policy) c.args.config.cut c.args.now (record {
  old_node = c.new.ensures.value;
  new_node = c.new-4.ensures.value;
  gate_is = c.new-3.ensures.value;
  old_joiner = c.new-2.ensures.empty;
  new_joiner = c.new-5.ensures.empty;
  old_few = c.new-2.ensures.bounded;
  new_few = c.new-5.ensures.bounded;
  sent = c.new-6.ensures;
  moment = refl;
  early = c.requires.moment;
  cuts = omega (arith, c.args.config.policy.segment_least);
  waits = (
    omega (arith, c.args.config.policy.timeout_least),
    omega (arith, c.args.config.policy.timeout_least, c.args.config.policy.cap_least),
  );
  old_shows = c.new.ensures.shows;
  new_shows = c.new-4.ensures.shows;
  gate_shows = c.new-3.ensures.shows;
  old_bounds = c.new.ensures.bounds;
  new_bounds = c.new-4.ensures.bounds;
  gate_bounds = c.new-3.ensures.bounds;
})

pub returns-clause-shows : goal.returns-clause-shows
returns-clause-shows c = begins-shows _ c.args.config.gate (policy_value c.args.config.policy) c.args.config.cut c.args.now (record {
  old_node = c.new.ensures.value;
  new_node = c.new-4.ensures.value;
  gate_is = c.new-3.ensures.value;
  old_joiner = c.new-2.ensures.empty;
  new_joiner = c.new-5.ensures.empty;
  old_few = c.new-2.ensures.bounded;
  new_few = c.new-5.ensures.bounded;
  sent = c.new-6.ensures;
  moment = refl;
  early = c.requires.moment;
  cuts = omega (arith, c.args.config.policy.segment_least);
  waits = (
    omega (arith, c.args.config.policy.timeout_least),
    omega (arith, c.args.config.policy.timeout_least, c.args.config.policy.cap_least),
  );
  old_shows = c.new.ensures.shows;
  new_shows = c.new-4.ensures.shows;
  gate_shows = c.new-3.ensures.shows;
  old_bounds = c.new.ensures.bounds;
  new_bounds = c.new-4.ensures.bounds;
  gate_bounds = c.new-3.ensures.bounds;
})
