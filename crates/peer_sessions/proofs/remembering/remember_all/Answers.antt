use Rattle.std.proofs.Common.{rules, arith}
use Rattle.peer_sessions.proofs.MemoryLemmas.{closing-step, closing-room, closing-end}
use Rattle.peer_sessions.proofs.remembering.remember_all.Goals as goal

pub close-requires : goal.close-requires
close-requires c = closing-room c.closing.numbers.items c.pop.new.self.items c.in-Some.n c.closing.memory (search rules) c.closing.invariant.2

pub closing-preserved : goal.closing-preserved
closing-preserved c =
    let step = closing-step c.closing.numbers.items c.pop.new.self.items c.in-Some.n c.closing.memory c.close.new.self _ (search rules) (omega arith) c.in_ok-close.ensures.ok
    c.closing.invariant.1 c.closing.invariant.2 c.closing.invariant.0 in
    (step.goes_on, step.set, step.places)

pub returns : goal.returns
returns c = closing-end c.closing.numbers.items c.closing.memory _ (search rules) c.closing.invariant.0
