use Rattle.std.proofs.Common.{◌++◌, ◌∙◌, List, ℕ, [], sym, ap, arith, length, refl}
use Rattle.bundle6.specs.declared.fault.Cause6.TheVariants.{Number}
use Rattle.bundle6.specs.Table.{block, references}
use Rattle.bundle_json.proofs.WalkLemmas.{lies-parts, lies-none, lies-as, refs-are, refs-long, block-room}
use Rattle.bundle_json.proofs.walk.block.Goals as goal

pub returns : goal.returns
unfolding block references
returns c = λ dictionary own rest value spelled lies.
    let s = spelled.spells in
    let f = s.5 in
    let r = f.5 in
    let z = r.5 in
    let b = z.5 in
    let rc = r.4 in
    let a0 = c.octet-kind.ensures Number [] s.0 (s.1 ++ rest) s.2 s.4.0 (lies-parts _ _ own s.0 s.1 rest lies s.3) in
    let a1 = c.number-flags.ensures Number [] f.0 (f.1 ++ rest) f.2 f.4.0 (lies-parts _ _ s.1 f.0 f.1 rest a0.1 f.3) in
    let a2 = c.count-count.ensures _ rc.0 (rc.1 ++ (r.1 ++ rest)) rc.2 (rw (← a1.0, ← c.has_bit.ensures) at rc.4)
    (lies-parts _ _ r.0 rc.0 rc.1 (r.1 ++ rest) (lies-parts _ _ f.1 r.0 r.1 rest a1.1 r.3) rc.3) in
    let refs = refs-are rc.2 dictionary _ rc.1 [] r.2 rc.5 in
    let a3 = c.skip_refs-at.ensures dictionary rc.1 (r.1 ++ rest) refs.0 refs.2 (a2.0 ∙ refs.3) a2.1 in
    let a4 = c.number-size.ensures Number [] z.0 (z.1 ++ rest) z.2 z.4.0 (lies-parts _ _ r.1 z.0 z.1 rest a3.1 z.3) in
    let there = lies-parts _ _ z.1 b.0 b.1 rest a4.1 b.3 in
    let a5 = c.skip-after.ensures b.0 (b.1 ++ rest) (b.4.1 ∙ sym a4.0) there in
    let last = lies-none _ _ b.1 rest a5.1 b.5.0 in
    let is = ap (λ v. v.0) b.5.1 in (
      rw is (record {
        kind = a0.0;
        flags = rw (c.without-2.ensures, c.without.ensures, a1.0) refl;
        count = a2.0 ∙ refs.3 ∙ sym (ap length refs.1);
        text = rc.1;
        more = r.1 ++ rest;
        refs = rw refs.1 refs.2;
        refs_lie = a2.1;
        rest = rest;
        body_lies = lies-as _ _ b.0 b.1 b.2 rest there b.4.0 b.5.0;
        after_lies = last;
        room = block-room _ _ _ _ c.args.octets.now own rest s.0 s.1 f.0 f.1 r.0 r.1 rc.0 rc.1 z.0 z.1 b.0 lies last
            s.3 (ap length s.4.0) f.3 (omega (arith, f.4.0.ends)) r.3 rc.3
            (omega (arith, a2.0, refs.3, refs-long dictionary rc.1 refs.0 refs.2)) z.3 (omega (arith, z.4.0.ends))
            (b.3 ∙ ap (λ (t : List ℕ). b.0 ++ t) b.5.0) (ap length b.4.0);
      }),
      last,
    )
