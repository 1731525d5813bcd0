use Rattle.std.proofs.Common.{refl}
use Rattle.gate_cases.specs.declared.face.Face.TheVariants as faces
use Rattle.gateway_core.proofs.DidLemmas.{heard}
use Rattle.std.proofs.lemmas.Result.{on_err_weaker}
use Rattle.gateway_core.proofs.WantLemmas.{hears-wants}
use Rattle.gateway_core.proofs.parts.Parts.hear.Goals as goal

pub returns-in-Old-clause-did : goal.returns-in-Old-clause-did
returns-in-Old-clause-did c = heard c.args.face faces.Old c.args.self.now _ c.args.datagram.now c.args.now c.arrive.result c.in-Old.is c.requires.whole
    (record { other = refl; gate = refl; cut = refl; counter = refl }) c.arrive.ensures.done c.arrive.ensures.bounds

pub returns-in-New-clause-did : goal.returns-in-New-clause-did
returns-in-New-clause-did c = heard c.args.face faces.New c.args.self.now _ c.args.datagram.now c.args.now c.arrive-in-New.result c.in-New.is c.requires.whole
    (record { other = refl; gate = refl; cut = refl; counter = refl }) c.arrive-in-New.ensures.done c.arrive-in-New.ensures.bounds

pub returns-in-Old-clause-wanted : goal.returns-in-Old-clause-wanted
returns-in-Old-clause-wanted c = on_err_weaker c.arrive.result
    (hears-wants c.args.face faces.Old c.args.self.now c.args.datagram.now c.args.now c.in-Old.is) c.arrive.ensures.wanted

pub returns-in-New-clause-wanted : goal.returns-in-New-clause-wanted
returns-in-New-clause-wanted c = on_err_weaker c.arrive-in-New.result
    (hears-wants c.args.face faces.New c.args.self.now c.args.datagram.now c.args.now c.in-New.is) c.arrive-in-New.ensures.wanted
