use Rattle.std.proofs.Common.{◌≡◌, length, refl, rules, arith}
use Rattle.std.proofs.lemmas.List.{take_rest, length-drop}
use Rattle.bundle_runs.proofs.ReadingLemmas.{read-more, read-room, read-all, read-due}
use Rattle.bundle_runs.proofs.bundle_reader.Reading.take.Goals as goal

pub returns-then-not-is_over-clause-fed : goal.returns-then-not-is_over-clause-fed
returns-then-not-is_over-clause-fed c =
    let so_far = read-more c.args.self.now.standing c.bundles.self.standing c.step.new.self.standing c.args.piece.now c.bundles.left.now c.in-After.used
    _ c.step.new.self.due _ _ _ c.bundles.invariant.none_due c.bundles.invariant.so_far (rw c.in-After.is at c.in_ok-used.ensures) in
    rw (take_rest c.bundles.left.now c.in-After.used)
    (read-due c.args.self.now.standing c.step.new.self c.args.piece.now _ _ _ _ refl so_far)

pub bundles-preserved : goal.bundles-preserved
bundles-preserved c =
    let step = rw c.in-After.is at c.in_ok-used.ensures in
    let room = read-room c.bundles.self.standing c.step.new.self.standing c.bundles.left.now c.in-After.used _ c.step.new.self.due _
    c.bundles.invariant.room step in
    rw (take_rest c.bundles.left.now c.in-After.used) (record {
      sound = room.0;
      none_due = search rules;
      inside = omega (arith, c.bundles.invariant.inside, length-drop c.in-After.used c.bundles.left.now);
      room = room.1;
      so_far =
          read-more c.args.self.now.standing c.bundles.self.standing c.step.new.self.standing c.args.piece.now c.bundles.left.now c.in-After.used
          _ c.step.new.self.due _ _ _ c.bundles.invariant.none_due c.bundles.invariant.so_far step;
    })

pub returns-clause-fed : goal.returns-clause-fed
returns-clause-fed c =
    let none : length c.bundles.left.now ≡ 0 = search rules in
    read-all c.args.self.now.standing c.bundles.self c.args.piece.now c.bundles.left.now _ _ none c.bundles.invariant.none_due c.bundles.invariant.so_far
