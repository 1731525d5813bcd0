use Rattle.std.proofs.lemmas.Result.{on_ok_weaker, on_err_weaker}
use Rattle.endpoint.proofs.PlacesLemmas.{on_err}
use Rattle.gate_cases.specs.declared.face.Face.TheVariants as faces
use Rattle.peer_live.proofs.QuietLemmas.{none-lost, none-lost-then}
use Rattle.peer_live.proofs.PartLemmas.{does-end}
use Rattle.peer_live.proofs.work.Work.end_sending.Goals as goal

pub returns-in_err-say_troubles-clause-wanted : goal.returns-in_err-say_troubles-clause-wanted
returns-in_err-say_troubles-clause-wanted c = on_err c.from_residual.result (λ s shows quiet.
    let none = none-lost c.args.self.now faces.Old s shows quiet in
    c.in_err-say_troubles.ensures.wanted none.full none.lost)

pub returns-clause-after : goal.returns-clause-after
returns-clause-after c =
    on_ok_weaker c.say_troubles-2.result (does-end c.args.self.now c.say_troubles.new.self c.say_troubles-2.new.self c.requires c.in_ok-say_troubles.ensures.after) c.say_troubles-2.ensures.after

pub returns-clause-wanted : goal.returns-clause-wanted
returns-clause-wanted c =
    on_err_weaker c.say_troubles-2.result (λ some. λ s shows quiet.
    let none = none-lost-then c.args.self.now c.say_troubles.new.self faces.Old faces.New s c.in_ok-say_troubles.ensures.after shows quiet in
    some none.full none.lost)
    c.say_troubles-2.ensures.wanted
