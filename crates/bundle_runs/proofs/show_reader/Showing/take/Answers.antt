use Rattle.std.proofs.Common.{◌≡◌, None, length, refl, rules, arith}
use Rattle.std.proofs.lemmas.List.{take_rest, length-drop}
use Rattle.bundle_runs.proofs.ShowStepLemmas.{shows-kept, so-far-more, so-far-all, so-far-due, so-far-stop}
use Rattle.bundle_runs.proofs.show_reader.Showing.take.Goals as goal

pub returns-then-is_some-clause-showing : goal.returns-then-is_some-clause-showing
returns-then-is_some-clause-showing c = λ on.
    let step = rw c.in-After.is at c.in_ok-used.ensures in
    let kept = shows-kept c.bundles.self c.show.new.self c.bundles.left.now c.in-After.used _ _ c.bundles.invariant.none_due c.bundles.invariant.showing
    c.bundles.invariant.room step in
    kept.0

pub returns-then-is_some-clause-fed : goal.returns-then-is_some-clause-fed
returns-then-is_some-clause-fed c = λ old shows.
    let step = rw c.in-After.is at c.in_ok-used.ensures in
    let so_far = so-far-more old c.bundles.self c.show.new.self c.args.piece.now c.bundles.left.now c.in-After.used _ _ _ c.bundles.invariant.none_due
    (c.bundles.invariant.so_far old shows) step in
    rw (take_rest c.bundles.left.now c.in-After.used) (so-far-due old c.show.new.self c.args.piece.now _ _ _ _ refl so_far)

pub bundles-preserved : goal.bundles-preserved
bundles-preserved c =
    let step = rw c.in-After.is at c.in_ok-used.ensures in
    let kept = shows-kept c.bundles.self c.show.new.self c.bundles.left.now c.in-After.used _ _ c.bundles.invariant.none_due c.bundles.invariant.showing
    c.bundles.invariant.room step in
    let none : c.show.new.self.telling ≡ None = search rules in
    rw (take_rest c.bundles.left.now c.in-After.used) (record {
      showing = kept.0;
      none_due = none;
      inside = omega (arith, c.bundles.invariant.inside, length-drop c.in-After.used c.bundles.left.now);
      room = kept.1;
      so_far = λ old shows.
          so-far-more old c.bundles.self c.show.new.self c.args.piece.now c.bundles.left.now c.in-After.used _ _ _ c.bundles.invariant.none_due
          (c.bundles.invariant.so_far old shows) step;
    })

pub returns-in-End-clause-fed : goal.returns-in-End-clause-fed
returns-in-End-clause-fed c = λ old shows.
    so-far-stop old c.bundles.self c.show.new.self c.args.piece.now c.bundles.left.now _ _ _ c.bundles.invariant.none_due
    (c.bundles.invariant.so_far old shows) (rw c.in-End.is at c.in_ok-used.ensures)

pub returns-clause-fed : goal.returns-clause-fed
returns-clause-fed c = λ old shows.
    let none : length c.bundles.left.now ≡ 0 = search rules in
    so-far-all old c.bundles.self c.args.piece.now c.bundles.left.now _ _ c.bundles.invariant.none_due none (c.bundles.invariant.so_far old shows)
