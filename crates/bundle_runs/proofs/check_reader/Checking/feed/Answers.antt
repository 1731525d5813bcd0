use Rattle.std.proofs.Common.{◌≡◌, length, rules}
use Rattle.std.proofs.lemmas.List.{take_rest}
use Rattle.bundle_runs.proofs.CheckStepLemmas.{checks-kept, checks-more, checks-end, checks-stop}
use Rattle.bundle_runs.proofs.check_reader.Checking.feed.Goals as goal

pub bundles-preserved : goal.bundles-preserved
bundles-preserved c =
    let step = rw c.in-After.is at c.in_ok-used.ensures in
    let kept = checks-kept c.bundles.self c.check.new.self c.bundles.left.now c.in-After.used _ _ c.bundles.invariant.shadowed
    c.bundles.invariant.room step in
    rw (take_rest c.bundles.left.now c.in-After.used) (record {
      shadowed = kept.0;
      room = kept.1;
      so_far = λ start shadows.
          checks-more start c.bundles.self c.check.new.self c.args.piece.now c.bundles.left.now c.in-After.used _ _ _
          (c.bundles.invariant.so_far start shadows) step;
    })

pub returns-in-End-clause-fed : goal.returns-in-End-clause-fed
returns-in-End-clause-fed c = λ old shadows.
    checks-stop old c.bundles.self c.check.new.self _ c.args.piece.now c.bundles.left.now _ _ _ (c.bundles.invariant.so_far old shadows)
    (rw c.in-End.is at c.in_ok-used.ensures)

pub returns-clause-fed : goal.returns-clause-fed
returns-clause-fed c = λ old shadows.
    let none : length c.bundles.left.now ≡ 0 = search rules in
    checks-end old c.bundles.self c.args.piece.now c.bundles.left.now _ _ none (c.bundles.invariant.so_far old shadows)
