use Rattle.std.proofs.Common.{◌+◌, ◌-◌, sym, ◌∙◌, arith}
use Rattle.peer_gateway.specs.Views.{moments_of}
use Rattle.peer_gateway.proofs.GateLemmas.{face-there, count-there, waiting-there, some-there, goes-next, all-none, all-went}
use Rattle.peer_gateway.proofs.parts.Parts.go_all.Goals as goal

pub next_count-requires : goal.next_count-requires
next_count-requires c = face-there c.args.face c.going.self c.face-in-going.result.now c.face-in-going.ensures c.going.invariant.whole

pub returns-then-next_count-eq0 : goal.returns-then-next_count-eq0
returns-then-next_count-eq0 c =
    all-none c.args.self.now c.going.self c.args.answer.now c.going.answer c.args.face (moments_of c.args.moments) c.args.until c.len-waiting.result
    (c.len-waiting.result - c.going.counter)
    (waiting-there c.args.face c.args.self.now c.face.result.now c.len-waiting.result c.face.ensures c.len-waiting.ensures) c.going.invariant
    (sym (count-there c.args.face c.going.self c.face-in-going.result.now c.args.until c.next_count.result c.face-in-going.ensures c.next_count.ensures)
    ∙ c.if-next_count-eq0.true)

pub going-preserved : goal.going-preserved
going-preserved c =
    goes-next c.args.self.now c.going.self c.go.new.self c.args.answer.now c.going.answer c.go.new.answer c.args.face (moments_of c.args.moments) c.args.until
    c.len-waiting.result (c.len-waiting.result - c.going.counter) (c.len-waiting.result - (c.going.counter + 1)) (omega (arith, c.going-test.true))
    c.going.invariant
    (some-there c.args.face c.going.self c.face-in-going.result.now c.args.until c.next_count.result c.face-in-going.ensures c.next_count.ensures
    c.if-next_count-eq0.false)
    c.in_ok-go.ensures

pub returns : goal.returns
returns c =
    all-went c.args.self.now c.going.self c.args.answer.now c.going.answer c.args.face (moments_of c.args.moments) c.args.until c.len-waiting.result
    (c.len-waiting.result - c.going.counter)
    (waiting-there c.args.face c.args.self.now c.face.result.now c.len-waiting.result c.face.ensures c.len-waiting.ensures)
    (omega (arith, c.going-test.false)) c.going.invariant
