use Rattle.std.proofs.Math.Path.{subst}
use Rattle.make_run.specs.Draws.{next, drawn}
use Rattle.make_run.specs.Script.{event_by, event_on}
use Rattle.make_run.specs.Ties.{Plays}
use Rattle.make_run.proofs.PlayLemmas.{plays-on, waits-so, delivers-so}
use Rattle.make_run.proofs.script.play_other.Goals as goal

pub returns-then-r-eq3-clause-plays : goal.returns-then-r-eq3-clause-plays
returns-then-r-eq3-clause-plays c = λ s w script more leaves.
    plays-on s w script (event_by (drawn (next c.args.draws.now.state)) (drawn (next (next c.args.draws.now.state)))) more
    c.args.making.now c.wait.new.self leaves c.wait.result
    (λ x stands.
    let second = rw c.draw-r.ensures.state at c.draw-t.ensures.number in
    let same = waits-so c.draw-r.result c.draw-t.result (drawn (next c.args.draws.now.state)) (drawn (next (next c.args.draws.now.state)))
    c.if-r-eq3.true c.draw-r.ensures.number second in
    subst (λ plan. Plays s x (event_on x plan) c.args.making.now c.wait.new.self c.wait.result) same (c.wait.ensures.plays s x stands))

pub returns-else-r-eq3-clause-plays : goal.returns-else-r-eq3-clause-plays
returns-else-r-eq3-clause-plays c = λ s w script more leaves.
    plays-on s w script (event_by (drawn (next c.args.draws.now.state)) (drawn (next (next c.args.draws.now.state)))) more
    c.args.making.now c.deliver.new.self leaves c.deliver.result
    (λ x stands.
    let second = rw c.draw-r.ensures.state at c.draw-t.ensures.number in
    let same = delivers-so c.draw-r.result c.draw-t.result (drawn (next c.args.draws.now.state)) (drawn (next (next c.args.draws.now.state)))
    c.if-r-eq3.false c.draw-r.ensures.number second in
    subst (λ plan. Plays s x (event_on x plan) c.args.making.now c.deliver.new.self c.deliver.result) same (c.deliver.ensures.plays s x stands))
