use Rattle.std.proofs.Common.{rules, ◌≡◌, ◌++◌, true, refl}
use Rattle.bundle6.specs.declared.fault.Cause6.TheVariants.{Number}
use Rattle.bundle6.specs.Bits.{has_bit}
use Rattle.bundle6.specs.Table.{fragment}
use Rattle.bundle_json.proofs.WalkLemmas.{lies-parts, lies-none}
use Rattle.bundle_json.proofs.walk.part.Goals as goal

pub returns : goal.returns
unfolding fragment
returns c = λ front text rest value s lies.
    let yes : has_bit 0 c.args.flags ≡ true = search rules in
    let here = rw yes at s in
    let f = here.4 in
    let t = f.5 in
    let before = lies-parts _ _ text here.0 here.1 rest lies here.3 in
    let a = c.number-offset.ensures Number front f.0 (f.1 ++ (here.1 ++ rest)) f.2 f.4 (lies-parts _ _ here.0 f.0 f.1 (here.1 ++ rest) before f.3) in
    let b = c.number-total.ensures Number front t.0 (t.1 ++ (here.1 ++ rest)) t.2 t.4 (lies-parts _ _ f.1 t.0 t.1 (here.1 ++ rest) a.1 t.3) in (
      rw (here.5.1, t.5.1, a.0, b.0) refl,
      lies-none _ _ here.1 rest (lies-none _ _ t.1 (here.1 ++ rest) b.1 t.5.0) here.5.0,
    )
