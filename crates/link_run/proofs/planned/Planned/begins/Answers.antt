use Rattle.std.proofs.Common.{◌∙◌, sym}
use Rattle.ltp_segment.specs.PolicyViews.{policy_value}
use Rattle.link_run.proofs.SetupLemmas.{begun, made-by, parties-begin, windows-are}
use Rattle.link_run.proofs.planned.Planned.begins.Goals as goal

pub returns : goal.returns
returns c = λ start windows planned. record {
  stands =
      begun c.new.result c.in_ok-plan.plan c.args.self.now (policy_value c.args.self.policy) start windows planned.policy planned.now planned.is_plan
      (made-by c.args.self.windows c.args.self.plan c.in_ok-plan.plan windows c.in_ok-plan.ensures planned.given planned.plan)
      c.new.ensures.whole
      (c.new.ensures.parties ∙ parties-begin (policy_value c.args.self.policy) c.new-first.result c.new-second.result c.new-first.ensures.value c.new-second.ensures.value)
      c.new.ensures.plan c.new.ensures.moment c.new.ensures.shows c.new.ensures.contact;
  windows = windows-are start windows ∙ sym planned.given;
}
