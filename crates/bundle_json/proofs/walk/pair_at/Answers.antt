use Rattle.std.proofs.Common.{◌++◌}
use Rattle.bundle6.specs.declared.fault.Cause6.TheVariants.{Number}
use Rattle.bundle6.specs.Table.{offsets}
use Rattle.bundle_json.proofs.WalkLemmas.{lies-parts, lies-none, pair-is}
use Rattle.bundle_json.proofs.walk.pair_at.Goals as goal

pub returns : goal.returns
unfolding offsets
returns c = λ front text rest value s lies.
    let t = s.5 in
    let a = c.number-scheme.ensures Number front s.0 (s.1 ++ rest) s.2 s.4 (lies-parts _ _ text s.0 s.1 rest lies s.3) in
    let b = c.number-ssp.ensures Number front t.0 (t.1 ++ rest) t.2 t.4 (lies-parts _ _ s.1 t.0 t.1 rest a.1 t.3) in
    (pair-is c.number-scheme.result.0 c.number-ssp.result.0 s.2 t.2 value a.0 b.0 t.5.1, lies-none _ _ t.1 rest b.1 t.5.0)
