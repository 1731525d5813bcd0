use Rattle.std.proofs.Common.{arith}
use Rattle.peer_gateway.specs.Views.{moments_of}
use Rattle.peer_gateway.proofs.GateLemmas.{face-there}
use Rattle.peer_gateway.proofs.PassLemmas.{answers-none, spent-not, unreported-so, reported-so}
use Rattle.peer_gateway.proofs.ReportLemmas.{report-made}
use Rattle.peer_gateway.proofs.parts.Parts.answer.Goals as goal

pub returns-in_default : goal.returns-in_default
returns-in_default c =
    answers-none c.args.self.now c.args.answer.now c.args.face (moments_of c.args.moments) c.args.index c.args.session c.args.report c.requires.whole c.in_default.is

pub returns-then-self-ge-NUMBERS : goal.returns-then-self-ge-NUMBERS
returns-then-self-ge-NUMBERS c =
    spent-not c.args.self.now c.args.answer.now c.tell.new.self c.args.face (moments_of c.args.moments) c.args.index c.args.session c.args.report
    c.in-Some.asked c.tell.result c.requires.whole c.in-Some.is (omega (arith, c.if-self-ge-NUMBERS.true)) c.tell.ensures

pub room-requires : goal.room-requires
room-requires c = face-there c.args.face c.args.self.now c.face.result.now c.face.ensures c.requires.whole

pub returns-then-is_unreported : goal.returns-then-is_unreported
returns-then-is_unreported c =
    unreported-so c.args.self.now c.args.answer.now c.tell-then-is_unreported.new.self c.args.face (moments_of c.args.moments) c.args.index c.args.session c.args.report
    c.in-Some.asked c.in_ok-octets.octets c.len.result c.face.result.now c.in_ok-room.room c.is_unreported.result c.tell-then-is_unreported.result c.requires.whole c.in-Some.is
    c.in_ok-octets.ensures.exact c.len.ensures c.face.ensures c.in_ok-room.ensures c.is_unreported.ensures c.if-is_unreported.true c.tell-then-is_unreported.ensures

pub report-requires-clause-sized : goal.report-requires-clause-sized
report-requires-clause-sized c =
    report-made c.args.self.now.settings c.args.face c.args.self.now.gate c.args.self.now.counter c.args.moments.wall c.args.report c.in-Some.asked
    c.in_ok-octets.octets c.in-Some.is c.requires.report ((c.requires.whole).config).legal (omega (arith, c.if-self-ge-NUMBERS.false))
    (c.requires.moments).wall c.in_ok-octets.ensures.exact c.in_ok-octets.ensures.block

pub returns : goal.returns
returns c =
    reported-so c.args.self.now c.report.new.self c.args.answer.now c.report.new.answer c.args.face (moments_of c.args.moments) c.args.index c.args.session
    c.args.report c.in-Some.asked c.in_ok-octets.octets c.len.result c.face.result.now c.in_ok-room.room c.is_unreported.result c.report.result c.in-Some.is
    c.in_ok-octets.ensures.exact c.len.ensures c.face.ensures c.in_ok-room.ensures c.is_unreported.ensures c.if-is_unreported.false c.report.ensures
