use Rattle.std.proofs.Common.{subst}
use Rattle.std.specs.String.{string_bytes}
use Rattle.link_run.specs.declared.link.Course.{Course}
use Rattle.link_run.specs.Shows.{StandsFor}
use Rattle.link_run.proofs.LineLemmas.{turn-over, turn-plans}
use Rattle.link_run.proofs.link.step.Goals as goal

pub returns-in-Plans-clause-turn : goal.returns-in-Plans-clause-turn
returns-in-Plans-clause-turn c = λ state stands.
    turn-plans _ c.in-Plans.planned state c.plan.result c.args.number c.args.line.now (string_bytes c.args.text.now) (string_bytes c.plan.new.text)
    (subst (λ (course : Course). StandsFor course state) c.in-Plans.is stands) c.plan.ensures.turn

pub returns-in_ok-write_refused_line-in-Over-clause-turn :
    goal.returns-in_ok-write_refused_line-in-Over-clause-turn
returns-in_ok-write_refused_line-in-Over-clause-turn c = λ state stands.
    turn-over state c.args.number c.args.line.now (string_bytes c.args.text.now) (string_bytes c.write_refused_line.new.text)
    (subst (λ (course : Course). StandsFor course state) c.in-Over.is stands) c.in_ok-write_refused_line-in-Over.ensures
