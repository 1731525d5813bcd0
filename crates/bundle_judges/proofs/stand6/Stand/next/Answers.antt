-- What stands after a field of few octets.
use Rattle.std.proofs.Common.{Ok, refl, arith}
use Rattle.bundle_judges.proofs.StandLemmas6.{enters-leaves, moves-entered, later-fuller, steps-same, set_seen}
use Rattle.bundle_judges.proofs.stand6.Stand.next.Goals as goal

pub returns-then-size-eq0 : goal.returns-then-size-eq0
returns-then-size-eq0 c = λ text enters.
    steps-same text c.args.self.now (set_seen c.args.self.now c.args.seen) (Ok c.leave.result) c.leave.new.self refl refl refl
    (c.leave.ensures text (enters-leaves text c.args.self.now c.args.seen c.in-Body.last c.args.more (rw (c.in-Body.is, c.if-size-eq0.true) at enters)))

pub returns-else-size-eq0 : goal.returns-else-size-eq0
returns-else-size-eq0 c = λ text enters.
    rw c.enter.ensures
    (moves-entered text c.args.self.now c.args.self.now c.args.seen _ c.args.more (rw c.in-Body.is at enters)
    (omega (arith, c.if-size-eq0.false)) refl refl)

pub returns-in_default : goal.returns-in_default
returns-in_default c = λ text enters.
    rw c.enter-in_default.ensures
    (moves-entered text c.args.self.now c.args.self.now c.args.seen c.args.stage c.args.more enters
    (later-fuller c.args.stage enters.later c.in_default.not-Body) refl refl)
