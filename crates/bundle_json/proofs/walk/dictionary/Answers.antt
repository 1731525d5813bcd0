use Rattle.std.proofs.Common.{ℕ, List, ◌++◌, ◌∙◌, sym, ap, arith}
use Rattle.bundle6.specs.declared.fault.Cause6.TheVariants.{Number, Names}
use Rattle.bundle6.specs.Names.{all_resolve, names_of}
use Rattle.bundle6.specs.Table.{dictionary}
use Rattle.bundle_json.proofs.WalkLemmas.{lies-parts, lies-none, texts-lie, met}
use Rattle.bundle_json.proofs.walk.dictionary.Goals as goal

pub returns : goal.returns
unfolding dictionary
returns c = λ pairs front text rest value s lies.
    let t = s.5 in
    let a = c.number-size.ensures Number front s.0 (s.1 ++ rest) s.2 s.4 (lies-parts _ _ text s.0 s.1 rest lies s.3) in
    let there = lies-parts _ _ s.1 t.0 t.1 rest a.1 t.3 in
    let b = c.skip-to.ensures t.0 (t.1 ++ rest) (t.4.0.1 ∙ sym a.0) there in (
      record {
        order = omega (arith, b.0);
        inside = b.1.inside;
        is = texts-lie _ _ _ t.0 (t.1 ++ rest) there (omega (arith, b.0, t.4.0.1, a.0)) ∙ t.4.0.0 ∙ sym (ap (λ v. v.1) t.5.1);
        resolve = rw t.5.1 (met (all_resolve t.2 pairs) Names t.4.1);
        names = ap (λ v. v.0) t.5.1 ∙ ap (λ (w : List ℕ). names_of w pairs) (sym (ap (λ v. v.1) t.5.1));
      },
      lies-none _ _ t.1 rest b.1 t.5.0,
    )
