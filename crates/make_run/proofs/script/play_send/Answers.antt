use Rattle.std.proofs.Common.{◌∷◌, Err, inr, ◌∙◌}
use Rattle.std.proofs.Math.Path.{subst}
use Rattle.make_run.specs.Draws.{next, drawn}
use Rattle.make_run.specs.Script.{send_by}
use Rattle.make_run.specs.Ties.{Plays}
use Rattle.make_run.specs.declared.stop.Stop.TheVariants as stops
use Rattle.make_run.proofs.PlayLemmas.{plays-on, sends-so, stops-so}
use Rattle.make_run.proofs.script.play_send.Goals as goal

pub returns-clause-plays : goal.returns-clause-plays
returns-clause-plays c = λ s w script more leaves.
    plays-on s w script (send_by c.args.i (drawn (next c.args.draws.now.state))) more c.args.making.now c.send.new.self leaves c.send.result
    (λ x stands.
    let octets = c.as_slice.ensures ∙ c.in_ok-bundle.ensures in
    let same = sends-so c.sender_of.result c.as_slice.result.now c.args.i c.draw.result (drawn (next c.args.draws.now.state))
    c.sender_of.ensures octets c.draw.ensures.number x in
    subst (λ event. Plays s x event c.args.making.now c.send.new.self c.send.result) same (c.send.ensures.plays s x stands))

pub returns-in_err-bundle-clause-plays : goal.returns-in_err-bundle-clause-plays
returns-in_err-bundle-clause-plays c = λ s w script more leaves.
    stops-so s w script (send_by c.args.i (drawn (next c.args.draws.now.state)) ∷ more) more c.args.making.now c.args.making.now stops.Memory
    (plays-on s w script (send_by c.args.i (drawn (next c.args.draws.now.state))) more c.args.making.now c.args.making.now leaves
    (Err stops.Memory) (λ x stands. inr tt))
    c.from_residual.result c.from_residual.ensures.1
