use Rattle.std.proofs.Common.{None, arith}
use Rattle.bundle_runs.specs.Given.{IsRead}
use Rattle.bundle_runs.specs.Taking.{with_unfinished}
use Rattle.bundle_runs.proofs.TakingLemmas.{whole-room, refused-room, step-refused}
use Rattle.bundle_runs.proofs.ReadingLemmas.{let-go, reads-said, reads-part, reads-refusal, reads-refused}
use Rattle.bundle_runs.proofs.bundle_reader.Standing.step.Goals as goal

pub overflow_add-size : goal.overflow_add-size
overflow_add-size c =
    let room = whole-room IsRead c.args.self.now c.decoded.new.self c.args.left.now c.requires.sound (λ i. omega (arith, c.type_inv.left i))
    c.requires.some c.requires.room c.in-Whole.bundle c.in-Whole.used (rw c.in-Whole.is at c.in_ok-bundle.ensures) in
    omega (arith, room.0)

pub pass-requires-clause-few : goal.pass-requires-clause-few
pass-requires-clause-few c =
    rw c.let_go.ensures
    (whole-room IsRead c.args.self.now c.decoded.new.self c.args.left.now c.requires.sound (λ i. omega (arith, c.type_inv.left i))
    c.requires.some c.requires.room c.in-Whole.bundle c.in-Whole.used (rw c.in-Whole.is at c.in_ok-bundle.ensures)).0

pub refuse-requires : goal.refuse-requires
refuse-requires c = record {
  few = refused-room IsRead c.args.self.now c.decoded.new.self c.args.left.now c.requires.sound (λ i. omega (arith, c.type_inv.left i))
      c.requires.some c.requires.room c.in-Refused.at c.in-Refused.cause (rw c.in-Refused.is at c.in_ok-bundle.ensures);
}

pub returns-in-Ok : goal.returns-in-Ok
returns-in-Ok c =
    let took = let-go IsRead c.args.self.now c.decoded.new.self c.args.left.now c.in-Whole.bundle c.in-Whole.used (rw c.in-Whole.is at c.in_ok-bundle.ensures) in
    rw (c.pass.ensures.next, c.pass.ensures.is, c.let_go.ensures, c.owe.ensures)
    (reads-said c.args.self.now (with_unfinished c.decoded.new.self None) c.args.left.now c.requires.sound (λ i. omega (arith, c.type_inv.left i))
    c.requires.some c.requires.room c.in-Whole.bundle c.in-Whole.used c.say.new.joiner c.in-Ok.telling _ _ took
    (rw (c.in-Ok.is, c.let_go.ensures) at c.in_ok-telling-in-Whole.ensures.said) c.in_ok-telling-in-Whole.ensures.memory)

pub returns-in-Part : goal.returns-in-Part
returns-in-Part c =
    rw (c.wait.ensures.next, c.wait.ensures.is, c.requires.none_due)
    (reads-part c.args.self.now c.decoded.new.self c.args.left.now c.requires.sound (λ i. omega (arith, c.type_inv.left i))
    c.requires.some c.requires.room _ (rw c.in-Part.is at c.in_ok-bundle.ensures))

pub turn_down-requires-clause-few : goal.turn_down-requires-clause-few
turn_down-requires-clause-few c =
    rw c.let_go.ensures
    (whole-room IsRead c.args.self.now c.decoded.new.self c.args.left.now c.requires.sound (λ i. omega (arith, c.type_inv.left i))
    c.requires.some c.requires.room c.in-Whole.bundle c.in-Whole.used (rw c.in-Whole.is at c.in_ok-bundle.ensures)).0

pub returns-in_ok-write_turned_down-in-Err : goal.returns-in_ok-write_turned_down-in-Err
returns-in_ok-write_turned_down-in-Err c =
    let took = let-go IsRead c.args.self.now c.decoded.new.self c.args.left.now c.in-Whole.bundle c.in-Whole.used (rw c.in-Whole.is at c.in_ok-bundle.ensures) in
    reads-refusal c.args.self.now (with_unfinished c.decoded.new.self None) c.args.left.now c.requires.sound (λ i. omega (arith, c.type_inv.left i))
    c.requires.some c.requires.room _ c.turn_down.result c.in-Whole.bundle c.in-Whole.used c.say.new.joiner c.in-Err.cause _ _ _ _ took
    (rw (c.in-Err.is, c.let_go.ensures) at c.in_ok-telling-in-Whole.ensures.said) (rw c.let_go.ensures at c.in_ok-telling-in-Whole.ensures.leaves) c.in_ok-telling-in-Whole.ensures.memory
    (rw (c.word.ensures, c.let_go.ensures) at c.in_ok-write_turned_down-in-Err.ensures) (rw c.let_go.ensures at c.turn_down.ensures.ends)
    (rw c.let_go.ensures at c.turn_down.ensures.next) (rw c.let_go.ensures at c.turn_down.ensures.is) c.requires.none_due

pub returns-in-Refused : goal.returns-in-Refused
returns-in-Refused c =
    reads-refused c.args.self.now c.decoded.new.self c.args.left.now _ _ _ c.refuse.result c.refuse.ensures.next c.refuse.ensures.line
    (step-refused IsRead c.args.self.now c.decoded.new.self c.args.left.now c.requires.sound (λ i. omega (arith, c.type_inv.left i))
    c.requires.some c.requires.room c.in-Refused.at c.in-Refused.cause _ _ (rw c.in-Refused.is at c.in_ok-bundle.ensures)) c.requires.none_due
