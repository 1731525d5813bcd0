use Rattle.std.proofs.Common.{◌++◌, ◌∙◌, [], sym, ap}
use Rattle.bundle6.specs.declared.fault.Cause6.TheVariants.{Version, Number}
use Rattle.bundle6.specs.Table.{primary}
use Rattle.bundle_json.proofs.WalkLemmas.{lies-start, lies-parts, lies-none, all-by, names-by}
use Rattle.bundle_json.proofs.walk.primary.Goals as goal

pub returns : goal.returns
unfolding primary
returns c = λ dictionary front rest value is s.
    let f = s.5 in
    let z = f.5 in
    let st = z.5 in
    let pr = st.5 in
    let se = pr.5 in
    let sq = se.5 in
    let lt = sq.5 in
    let nm = lt.5 in
    let pt = nm.5 in
    let en = pt.5 in
    let ed = en.5 in
    let a0 = c.octet-at.ensures Version [] s.0 (s.1 ++ rest) s.2 s.4.0 (lies-parts _ _ front s.0 s.1 rest (lies-start c.args.octets.now (front ++ rest) is) s.3) in
    let a1 = c.number-flags.ensures Number [] f.0 (f.1 ++ rest) f.2 f.4 (lies-parts _ _ s.1 f.0 f.1 rest a0.1 f.3) in
    let a2 = c.number-at.ensures Number [] z.0 (z.1 ++ rest) z.2 z.4 (lies-parts _ _ f.1 z.0 z.1 rest a1.1 z.3) in
    let a3 = lies-none _ _ st.0 (st.1 ++ rest) (lies-parts _ _ z.1 st.0 st.1 rest a2.1 st.3) st.4.0 in
    let a4 = c.four_at-at.ensures _ pr.0 (pr.1 ++ rest) pr.2 pr.4 (lies-parts _ _ st.1 pr.0 pr.1 rest a3 pr.3) in
    let a5 = c.number-seconds.ensures Number [] se.0 (se.1 ++ rest) se.2 se.4 (lies-parts _ _ pr.1 se.0 se.1 rest a4.1 se.3) in
    let a6 = c.number-sequence.ensures Number [] sq.0 (sq.1 ++ rest) sq.2 sq.4 (lies-parts _ _ se.1 sq.0 sq.1 rest a5.1 sq.3) in
    let a7 = c.number-lifetime.ensures Number [] lt.0 (lt.1 ++ rest) lt.2 lt.4 (lies-parts _ _ sq.1 lt.0 lt.1 rest a6.1 lt.3) in
    let a8 = c.dictionary-at.ensures pr.2 _ nm.0 (nm.1 ++ rest) nm.2 nm.4 (lies-parts _ _ lt.1 nm.0 nm.1 rest a7.1 nm.3) in
    let a9 = c.part-fragment.ensures _ pt.0 (pt.1 ++ rest) pt.2 (rw (← a1.0) at pt.4) (lies-parts _ _ nm.1 pt.0 pt.1 rest a8.1 pt.3) in
    let b0 = lies-none _ _ en.0 (en.1 ++ rest) (lies-parts _ _ pt.1 en.0 en.1 rest a9.1 en.3) en.4.0 in
    let b1 = lies-none _ _ ed.0 (ed.1 ++ rest) (lies-parts _ _ en.1 ed.0 ed.1 rest b0 ed.3) ed.4.0.0 in
    let all = all-by nm.2.1 pr.2 a8.0.resolve in (
      a8.0.is ∙ sym (ap (λ v. v.1) ed.5.1),
      rw (ap (λ v. v.0) ed.5.1) (record {
        order = a8.0.order;
        inside = a8.0.inside;
        flags = a1.0;
        destination = rw a8.0.is (names-by nm.2.1 _ pr.2.destination nm.2.0.destination a4.0.destination all.0 (ap (λ v. v.destination) a8.0.names));
        source = rw a8.0.is (names-by nm.2.1 _ pr.2.source nm.2.0.source a4.0.source all.1 (ap (λ v. v.source) a8.0.names));
        report_to = rw a8.0.is (names-by nm.2.1 _ pr.2.report_to nm.2.0.report_to a4.0.report_to all.2 (ap (λ v. v.report_to) a8.0.names));
        custodian = rw a8.0.is (names-by nm.2.1 _ pr.2.custodian nm.2.0.custodian a4.0.custodian all.3 (ap (λ v. v.custodian) a8.0.names));
        seconds = a5.0;
        sequence = a6.0;
        lifetime = a7.0;
        fragment = a9.0;
      }),
      lies-none _ _ ed.1 rest b1 ed.5.0,
    )
