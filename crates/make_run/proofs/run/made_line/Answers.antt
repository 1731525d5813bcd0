use Rattle.std.proofs.Common.{[], Err, inl, sym, ap, ◌∙◌}
use Rattle.std.proofs.Math.Path.{subst}
use Rattle.path_laws.specs.Path.{path_run}
use Rattle.world_run.specs.World.{drain_made}
use Rattle.make_run.specs.Script.{the_setup, the_start, script_of}
use Rattle.make_run.specs.declared.stop.Stop.TheVariants as stops
use Rattle.make_run.specs.Ties.{PlaysUpTo, Drains, with_line}
use Rattle.make_run.proofs.AnswerLemmas.{leaves-all, made-stops, script-past, script-played, drained-past, drained-out, line-out, drained-so}
use Rattle.make_run.proofs.run.made_line.Goals as goal

pub returns-in_err-play : goal.returns-in_err-play
returns-in_err-play c =
    made-stops c.args.seed c.args.count c.in_err-play.field-0.0
    (λ is. script-past c.args.seed c.args.count c.play.new.making
    (subst (λ stop. PlaysUpTo the_setup the_start (script_of c.args.seed c.args.count) [] c.play.new.making (Err stop)) is
    (c.in_err-play.ensures.plays the_setup the_start (script_of c.args.seed c.args.count)
    (leaves-all c.args.seed c.args.count c.new-making.result c.new-making.ensures.begins))))
    (λ is. inl (subst (λ stop. PlaysUpTo the_setup the_start (script_of c.args.seed c.args.count) [] c.play.new.making (Err stop)) is
    (c.in_err-play.ensures.plays the_setup the_start (script_of c.args.seed c.args.count)
    (leaves-all c.args.seed c.args.count c.new-making.result c.new-making.ensures.begins))))
    c.from_residual.result c.from_residual.ensures.1

pub returns-in_err-events : goal.returns-in_err-events
returns-in_err-events c =
    let leaves = c.in_ok-play.ensures.plays the_setup the_start (script_of c.args.seed c.args.count)
    (leaves-all c.args.seed c.args.count c.new-making.result c.new-making.ensures.begins) in
    let so_far = script-played c.args.seed c.args.count c.play.new.making leaves in
    made-stops c.args.seed c.args.count c.in_err-events.field-0.0
    (λ is. drained-past c.args.seed c.args.count c.play.new.making leaves
    (subst (λ stop. Drains the_setup (path_run the_setup the_start (script_of c.args.seed c.args.count))
    (drain_made the_setup (path_run the_setup the_start (script_of c.args.seed c.args.count))) c.play.new.making c.drain.new.self (Err stop)) is
    (c.in_err-events.ensures the_setup (path_run the_setup the_start (script_of c.args.seed c.args.count)) so_far.stands)))
    (λ is. drained-out c.args.seed c.args.count c.play.new.making leaves
    (subst (λ stop. Drains the_setup (path_run the_setup the_start (script_of c.args.seed c.args.count))
    (drain_made the_setup (path_run the_setup the_start (script_of c.args.seed c.args.count))) c.play.new.making c.drain.new.self (Err stop)) is
    (c.in_err-events.ensures the_setup (path_run the_setup the_start (script_of c.args.seed c.args.count)) so_far.stands)))
    c.from_residual-in_err-events.result c.from_residual-in_err-events.ensures.1

pub returns : goal.returns
returns c =
    let leaves = c.in_ok-play.ensures.plays the_setup the_start (script_of c.args.seed c.args.count)
    (leaves-all c.args.seed c.args.count c.new-making.result c.new-making.ensures.begins) in
    let so_far = script-played c.args.seed c.args.count c.play.new.making leaves in
    let drained = c.in_ok-events.ensures the_setup (path_run the_setup the_start (script_of c.args.seed c.args.count)) so_far.stands in
    let text = rw c.new-line.ensures.bytes at c.in_ok-write_line.ensures in
    drained-so c.args.seed c.args.count c.play.new.making leaves c.drain.new.self c.in_ok-events.events drained
    ∙ ap with_line (sym text)

pub returns-in_err-write_line : goal.returns-in_err-write_line
returns-in_err-write_line c =
    let leaves = c.in_ok-play.ensures.plays the_setup the_start (script_of c.args.seed c.args.count)
    (leaves-all c.args.seed c.args.count c.new-making.result c.new-making.ensures.begins) in
    let so_far = script-played c.args.seed c.args.count c.play.new.making leaves in
    let drained = c.in_ok-events.ensures the_setup (path_run the_setup the_start (script_of c.args.seed c.args.count)) so_far.stands in
    made-stops c.args.seed c.args.count stops.Memory (λ is. absurd (cc))
    (λ is. line-out c.args.seed c.args.count c.play.new.making leaves c.drain.new.self c.in_ok-events.events drained)
    c.from_residual-in_err-write_line.result c.from_residual-in_err-write_line.ensures.1
