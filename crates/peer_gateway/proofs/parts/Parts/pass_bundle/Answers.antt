use Rattle.peer_gateway.specs.Views.{moments_of}
use Rattle.peer_gateway.proofs.GateLemmas.{face-there}
use Rattle.peer_gateway.proofs.PassLemmas.{bounds-there, passes-so}
use Rattle.peer_gateway.proofs.AddedLemmas.{decided-added}
use Rattle.peer_gateway.proofs.ReportLemmas.{decided-report}
use Rattle.peer_gateway.proofs.parts.Parts.pass_bundle.Goals as goal

pub room-requires : goal.room-requires
room-requires c = face-there c.other-to.result c.args.self.now c.face.result.now c.face.ensures c.requires.whole

pub decide-requires-clause-bounds : goal.decide-requires-clause-bounds
decide-requires-clause-bounds c =
    bounds-there c.other-to.result c.args.self.now c.face.result.now c.in_ok-room.room c.face.ensures c.requires.whole c.in_ok-room.ensures

pub carry_out-requires-clause-pieces : goal.carry_out-requires-clause-pieces
carry_out-requires-clause-pieces c =
    decided-added c.args.self.now.settings c.args.face c.args.octets.now c.args.moments.wall c.args.self.now.cut c.in_ok-room.room c.in_ok-decision.decision
    c.are_octets.ensures c.in_ok-decision.ensures.exact c.in_ok-decision.ensures.sendable

pub carry_out-requires-clause-report : goal.carry_out-requires-clause-report
carry_out-requires-clause-report c =
    decided-report c.args.self.now.settings c.args.face c.args.octets.now c.args.moments.wall c.args.self.now.cut c.in_ok-room.room c.in_ok-decision.decision
    c.in_ok-decision.ensures.exact c.in_ok-decision.ensures.askable

pub returns : goal.returns
returns c =
    passes-so c.args.self.now c.carry_out.new.self c.args.answer.now c.carry_out.new.answer c.args.face c.other-to.result (moments_of c.args.moments) c.args.index
    c.args.session c.args.octets.now c.face.result.now c.in_ok-room.room c.in_ok-decision.decision c.carry_out.result c.other-to.ensures c.face.ensures
    c.in_ok-room.ensures c.in_ok-decision.ensures.exact c.carry_out.ensures
