-- What the steps into a part give.
use Rattle.std.proofs.Common.{◌++◌, arith, length-append}
use Rattle.bundle_judges.specs.Stand7.{Stays, Ends}
use Rattle.bundle_judges.proofs.StepLemmas7.{fails-inside}
use Rattle.bundle_judges.proofs.FeedLemmas7.{at-longer, rest-there, ended-whole, part-ends, part-open, part-long, part-fails, part-room}
use Rattle.bundle_judges.proofs.stand7.Stand.go_on.Goals as goal

pub run-requires : goal.run-requires
run-requires c =
    let kept = c.requires.came.0.kept in
    let come = c.requires.came.1.come in
    record {
      there = (
        kept ++ c.args.part.now,
        at-longer kept c.args.part.now c.args.self.now (λ i. omega (arith, c.type_inv.part i)) come.stands,
        rest-there kept c.args.part.now c.args.self.now come,
      );
      counted = omega (arith, c.requires.counted);
    }

pub close-requires : goal.close-requires
close-requires c =
    let kept = c.requires.came.0.kept in
    let come = c.requires.came.1.come in
    let longer = at-longer kept c.args.part.now c.args.self.now (λ i. omega (arith, c.type_inv.part i)) come.stands in
    let ends : Ends (kept ++ c.args.part.now) c.args.self.now c.in-Ok-Some.end c.run.new.self =
    (rw c.in-Ok-Some.field-0-is at c.in-Ok-Some.ensures) (kept ++ c.args.part.now) longer (rest-there kept c.args.part.now c.args.self.now come) in
    let whole = ended-whole (kept ++ c.args.part.now) c.in-Ok-Some.end longer.octets ends.ended in
    omega (arith, whole.1.within, length-append kept c.args.part.now, ends.before, come.all, c.requires.counted)

pub overflow_add-result : goal.overflow_add-result
overflow_add-result c =
    let kept = c.requires.came.0.kept in
    let come = c.requires.came.1.come in
    let longer = at-longer kept c.args.part.now c.args.self.now (λ i. omega (arith, c.type_inv.part i)) come.stands in
    let inside = fails-inside (kept ++ c.args.part.now) c.args.self.now c.in-Err-Refused.at c.in-Err-Refused.cause longer.octets
    ((rw c.in-Err-Refused.field-0-is at c.in-Err-Refused.ensures) (kept ++ c.args.part.now) longer (rest-there kept c.args.part.now c.args.self.now come)) in
    omega (arith, inside, length-append kept c.args.part.now, come.all, c.requires.counted)

pub returns-in-Ok-Some : goal.returns-in-Ok-Some
returns-in-Ok-Some c = λ stream took.
    let longer = at-longer stream.kept c.args.part.now c.args.self.now (λ i. omega (arith, c.type_inv.part i)) took.come.stands in
    part-ends stream c.args.part.now c.args.cut c.in-Ok-Some.end c.args.self.now c.run.new.self _ longer.octets took.come took.before
    ((rw c.in-Ok-Some.field-0-is at c.in-Ok-Some.ensures) (stream.kept ++ c.args.part.now) longer (rest-there stream.kept c.args.part.now c.args.self.now took.come))
    c.close.ensures.come c.close.ensures.before

pub returns-in-Ok-None : goal.returns-in-Ok-None
returns-in-Ok-None c = λ stream took.
    let longer = at-longer stream.kept c.args.part.now c.args.self.now (λ i. omega (arith, c.type_inv.part i)) took.come.stands in
    let came : Stays (stream.kept ++ c.args.part.now) c.args.self.now c.run.new.self =
    (rw c.in-Ok-None.field-0-is at c.in-Ok-None.ensures) (stream.kept ++ c.args.part.now) longer (rest-there stream.kept c.args.part.now c.args.self.now took.come) in
    rw c.if-cut.true (part-long stream c.args.part.now c.args.self.now.before c.run.new.self came.come took.before)

pub returns-in-Err-Refused : goal.returns-in-Err-Refused
returns-in-Err-Refused c = λ stream took.
    let longer = at-longer stream.kept c.args.part.now c.args.self.now (λ i. omega (arith, c.type_inv.part i)) took.come.stands in
    part-fails stream c.args.part.now c.args.cut c.args.self.now.before c.in-Err-Refused.at c.in-Err-Refused.cause c.args.self.now took.before
    ((rw c.in-Err-Refused.field-0-is at c.in-Err-Refused.ensures) (stream.kept ++ c.args.part.now) longer (rest-there stream.kept c.args.part.now c.args.self.now took.come))

pub overflow_sub-result : goal.overflow_sub-result
overflow_sub-result c =
    let kept = c.requires.came.0.kept in
    let come = c.requires.came.1.come in
    let ends : Ends (kept ++ c.args.part.now) c.args.self.now c.in-Ok-Some.end c.run.new.self =
    (rw c.in-Ok-Some.field-0-is at c.in-Ok-Some.ensures) (kept ++ c.args.part.now)
    (at-longer kept c.args.part.now c.args.self.now (λ i. omega (arith, c.type_inv.part i)) come.stands)
    (rest-there kept c.args.part.now c.args.self.now come) in
    ends.late

pub returns-in-Ok-None-2 : goal.returns-in-Ok-None-2
returns-in-Ok-None-2 c = λ stream took.
    let longer = at-longer stream.kept c.args.part.now c.args.self.now (λ i. omega (arith, c.type_inv.part i)) took.come.stands in
    let came : Stays (stream.kept ++ c.args.part.now) c.args.self.now c.run.new.self =
    (rw c.in-Ok-None.field-0-is at c.in-Ok-None.ensures) (stream.kept ++ c.args.part.now) longer (rest-there stream.kept c.args.part.now c.args.self.now took.come) in
    part-open stream c.args.part.now c.args.cut c.args.self.now.before c.run.new.self c.if-cut.false took.before (came.come, came.before)

pub returns-in-Err-Memory : goal.returns-in-Err-Memory
returns-in-Err-Memory c = λ stream took.
    let longer = at-longer stream.kept c.args.part.now c.args.self.now (λ i. omega (arith, c.type_inv.part i)) took.come.stands in
    part-room stream c.args.part.now c.args.cut c.args.self.now took.come
    ((rw c.in-Err-Memory.field-0-is at c.in-Err-Memory.ensures) (stream.kept ++ c.args.part.now) longer (rest-there stream.kept c.args.part.now c.args.self.now took.come))
    c.requires.begun
