use Rattle.std.proofs.Common.{arith, ◌++◌, length-append}
use Rattle.bundle_json.proofs.WalkLemmas.{passing-start, passing-next, passing-end, refs-long, lies-long}
use Rattle.bundle_json.proofs.walk.skip_refs.Goals as goal

pub references-init : goal.references-init
references-init c = λ dictionary text rest refs are many lies.
    passing-start c.args.octets.now dictionary c.args.at _ text rest refs are (omega (arith, many)) lies

pub references-preserved : goal.references-preserved
references-preserved c = λ dictionary text rest refs are many lies.
    passing-next c.args.octets.now dictionary c.references.after _ _ _ rest _ (c.references.invariant dictionary text rest refs are many lies)
    (omega (arith, c.references-test.true)) c.pair_at-next.ensures

pub returns : goal.returns
returns c = λ dictionary text rest refs are many lies.
    let last = passing-end c.args.octets.now dictionary c.references.after _ _ rest (c.references.invariant dictionary text rest refs are many lies) (omega (arith, c.references-test.false)) in (
      omega (
        arith,
        refs-long dictionary text refs are,
        many,
        lies-long c.args.octets.now c.args.at (text ++ rest) lies,
        lies-long c.args.octets.now c.references.after rest last,
        length-append text rest,
      ),
      last,
    )

pub returns-then-count-octets : goal.returns-then-count-octets
returns-then-count-octets c = λ dictionary text rest refs are many lies.
    absurd (omega (
      arith,
      c.if-count-octets.true,
      refs-long dictionary text refs are,
      many,
      lies-long c.args.octets.now c.args.at (text ++ rest) lies,
      length-append text rest,
    ))
