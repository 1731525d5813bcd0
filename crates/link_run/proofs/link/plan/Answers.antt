use Rattle.std.proofs.Common.{Result, IfOk, subst, sym, ap, ◌∙◌}
use Rattle.std.specs.String.{string_bytes}
use Rattle.replay_script.specs.declared.fault.LineFault.{LineFault}
use Rattle.replay_script.specs.declared.link.LinkEvent.{LinkEvent}
use Rattle.command_frame.specs.Lines.{Turn}
use Rattle.link_run.specs.Link.{LinkState, link_course, link_setup, later_said, planned_line, without_picks}
use Rattle.link_run.specs.Shows.{Answers}
use Rattle.link_run.proofs.LineLemmas.{other-line}
use Rattle.link_run.proofs.link.plan.Goals as goal

pub returns-in_ok-begins-in-None-clause-turn : goal.returns-in_ok-begins-in-None-clause-turn
returns-in_ok-begins-in-None-clause-turn c = λ start windows planned.
    subst (λ (said : Result LinkEvent LineFault). IfOk c.answer.result (Answers (planned_line c.args.number start windows said)
    (string_bytes c.args.text.now) (string_bytes c.answer.new.text)))
    (c.in_ok-said.ensures ∙ ap (λ given. without_picks given c.args.line.now (later_said c.args.line.now)) planned.given)
    (subst (λ (turn : Turn LinkState). IfOk c.answer.result (Answers turn (string_bytes c.args.text.now) (string_bytes c.answer.new.text)))
    (sym (other-line c.args.number start windows c.in_ok-said.said (sym c.in-None.ensures)))
    (c.answer.ensures.turn (link_setup start windows) (link_course (link_setup start windows) start.now) (c.in_ok-begins-in-None.ensures start windows planned)))
