use Rattle.std.proofs.Common.{◌≡◌, None, refl, arith, rules}
use Rattle.bundle_runs.proofs.CheckStepLemmas.{check-room-of, check-refused-room-of, check-whole-of, check-part-of, check-refused-of}
use Rattle.bundle_runs.proofs.check_reader.Checking.check.Goals as goal

pub overflow_add-self : goal.overflow_add-self
overflow_add-self c =
    let old = c.requires.shadowed.0 in
    let room = check-room-of c.args.self.now old c.args.left.now c.requires.shadowed.1 (λ i. omega (arith, c.type_inv.left i))
    c.requires.some c.requires.room c.judged.new.self c.in-Whole.version c.in-Whole.used c.in_ok-version.ensures.same
    ((rw c.in-Whole.is at c.in_ok-version.ensures.judged) old c.requires.shadowed.1) in
    omega (arith, room.0)

pub overflow_add-self-in-Whole-2 : goal.overflow_add-self-in-Whole-2
overflow_add-self-in-Whole-2 c =
    let old = c.requires.shadowed.0 in
    let room = check-room-of c.args.self.now old c.args.left.now c.requires.shadowed.1 (λ i. omega (arith, c.type_inv.left i))
    c.requires.some c.requires.room c.judged.new.self c.in-Whole.version c.in-Whole.used c.in_ok-version.ensures.same
    ((rw c.in-Whole.is at c.in_ok-version.ensures.judged) old c.requires.shadowed.1) in
    omega (arith, room.0)

pub overflow_add-self-in-Whole-3 : goal.overflow_add-self-in-Whole-3
overflow_add-self-in-Whole-3 c =
    let old = c.requires.shadowed.0 in
    let room = check-room-of c.args.self.now old c.args.left.now c.requires.shadowed.1 (λ i. omega (arith, c.type_inv.left i))
    c.requires.some c.requires.room c.judged.new.self c.in-Whole.version c.in-Whole.used c.in_ok-version.ensures.same
    ((rw c.in-Whole.is at c.in_ok-version.ensures.judged) old c.requires.shadowed.1) in
    omega (arith, room.0)

pub overflow_add-self-in-Refused : goal.overflow_add-self-in-Refused
overflow_add-self-in-Refused c =
    let old = c.requires.shadowed.0 in
    let room = check-refused-room-of c.args.self.now old c.args.left.now c.requires.shadowed.1 (λ i. omega (arith, c.type_inv.left i))
    c.requires.some c.requires.room c.judged.new.self c.in-Refused.at c.in-Refused.cause c.in_ok-version.ensures.same
    ((rw c.in-Refused.is at c.in_ok-version.ensures.judged) old c.requires.shadowed.1) in
    omega (arith, room)

pub returns-then-is_some : goal.returns-then-is_some
returns-then-is_some c = λ old shadows.
    check-whole-of c.args.self.now old c.args.left.now shadows (λ i. omega (arith, c.type_inv.left i))
    c.requires.some c.requires.room c.judged.new.self _ c.in-Whole.version c.in-Whole.used _ _ c.in_ok-version.ensures.same
    ((rw c.in-Whole.is at c.in_ok-version.ensures.judged) old shadows) c.in_ok-write_check-in-Whole.ensures c.let_go.ensures

pub returns-else-is_some : goal.returns-else-is_some
returns-else-is_some c = λ old shadows.
    let none : c.judged.new.self.begun ≡ None = search rules in
    check-whole-of c.args.self.now old c.args.left.now shadows (λ i. omega (arith, c.type_inv.left i))
    c.requires.some c.requires.room c.judged.new.self _ c.in-Whole.version c.in-Whole.used _ _ c.in_ok-version.ensures.same
    ((rw c.in-Whole.is at c.in_ok-version.ensures.judged) old shadows) c.in_ok-write_check-in-Whole.ensures (rw none refl)

pub returns-in-Part : goal.returns-in-Part
returns-in-Part c = λ old shadows.
    check-part-of c.args.self.now old c.args.left.now shadows (λ i. omega (arith, c.type_inv.left i))
    c.requires.some c.requires.room c.judged.new.self _ c.in_ok-version.ensures.same
    ((rw c.in-Part.is at c.in_ok-version.ensures.judged) old shadows)

pub returns-in_ok-write_refused-in-Refused : goal.returns-in_ok-write_refused-in-Refused
returns-in_ok-write_refused-in-Refused c = λ old shadows.
    check-refused-of c.args.self.now old c.args.left.now shadows (λ i. omega (arith, c.type_inv.left i))
    c.requires.some c.requires.room c.judged.new.self c.judged.new.self c.in-Refused.at c.in-Refused.cause _ _ c.in_ok-version.ensures.same
    ((rw c.in-Refused.is at c.in_ok-version.ensures.judged) old shadows)
    (rw c.word.ensures at c.in_ok-write_refused-in-Refused.ensures)
