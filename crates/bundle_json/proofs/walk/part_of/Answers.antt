use Rattle.std.proofs.Common.{◌++◌, arith, length-append}
use Rattle.bundle_json.proofs.WalkLemmas.{lies-long}
use Rattle.bundle_json.proofs.walk.part_of.Goals.{then-at-octets-via-then-at-octets, then-at-octets-via-else-at-octets+then-size-octets}
use Rattle.bundle_json.proofs.walk.part_of.Goals as goal

pub returns-then-at-octets : goal.returns-then-at-octets
returns-then-at-octets c = λ text rest long lies.
    let there = lies-long c.args.octets.now c.args.at (text ++ rest) lies in
    elim c.then-at-octets.branch [
      | then-at-octets-via-then-at-octets w ↦ absurd (omega (arith, w.if-at-octets, lies.inside))
      | then-at-octets-via-else-at-octets+then-size-octets w ↦
          absurd (omega (arith, w.if-at-octets, w.if-size-octets, there, long, length-append text rest))
    ]
