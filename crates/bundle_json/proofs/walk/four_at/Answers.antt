use Rattle.std.proofs.Common.{◌++◌}
use Rattle.bundle6.specs.Table.{four_names}
use Rattle.bundle_json.proofs.WalkLemmas.{lies-parts, lies-none}
use Rattle.bundle_json.proofs.walk.four_at.Goals as goal

pub returns : goal.returns
unfolding four_names
returns c = λ front text rest value s lies.
    let t = s.5 in
    let v = t.5 in
    let w = v.5 in
    let a = c.pair_at-at.ensures front s.0 (s.1 ++ rest) s.2 s.4 (lies-parts _ _ text s.0 s.1 rest lies s.3) in
    let b = c.pair_at-at-2.ensures (front ++ s.0) t.0 (t.1 ++ rest) t.2 t.4 (lies-parts _ _ s.1 t.0 t.1 rest a.1 t.3) in
    let d = c.pair_at-at-3.ensures ((front ++ s.0) ++ t.0) v.0 (v.1 ++ rest) v.2 v.4 (lies-parts _ _ t.1 v.0 v.1 rest b.1 v.3) in
    let e = c.pair_at-at-4.ensures (((front ++ s.0) ++ t.0) ++ v.0) w.0 (w.1 ++ rest) w.2 w.4 (lies-parts _ _ v.1 w.0 w.1 rest d.1 w.3) in
    (rw w.5.1 (record { destination = a.0; source = b.0; report_to = d.0; custodian = e.0 }), lies-none _ _ w.1 rest e.1 w.5.0)
