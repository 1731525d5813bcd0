use Rattle.std.proofs.Common.{Result, Ok, IfOk, List, subst, sym, ap, ◌∙◌}
use Rattle.std.specs.String.{string_bytes}
use Rattle.replay_script.specs.declared.fault.LineFault.{LineFault}
use Rattle.replay_script.specs.declared.link.LinkEvent.{LinkEvent}
use Rattle.replay_script.specs.declared.picks.PickWord.{PickWord}
use Rattle.link_run.specs.Link.{drains_by_picks, link_line}
use Rattle.link_run.specs.Picks.{said_picks}
use Rattle.link_run.specs.Shows.{Answers}
use Rattle.link_run.proofs.link.answer.Goals as goal

pub returns-in-Ok-DrainBy-clause-turn : goal.returns-in-Ok-DrainBy-clause-turn
returns-in-Ok-DrainBy-clause-turn c = λ s lc runs.
    subst (λ (said : Result LinkEvent LineFault). IfOk c.drain_by.result (Answers (link_line c.args.number s lc said) (string_bytes c.args.text.now) (string_bytes c.drain_by.new.text)))
    (sym (c.in-Ok-DrainBy.is ∙ ap Ok c.in-Ok-DrainBy.field-0-is))
    (subst (λ (ps : List PickWord). IfOk c.drain_by.result (Answers (drains_by_picks s lc (said_picks ps)) (string_bytes c.args.text.now) (string_bytes c.drain_by.new.text)))
    c.as_slice-in-Ok-DrainBy.ensures (c.drain_by.ensures.turn s lc runs))
