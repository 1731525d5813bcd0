-- A step that is refused refuses the bundle.
use Rattle.bundle6.proofs.PassLemmas.{comes-refused}
use Rattle.bundle6.proofs.pass.Pass.run.Goals as goal

pub returns-in-Err : goal.returns-in-Err
returns-in-Err c = record {
  fits = c.stepping.invariant.fits;
  stands = c.stepping.invariant.stands;
  comes = comes-refused c.args.most c.args.text.now c.stepping.pass c.in-Err.refused c.stepping.invariant.stands
      c.in-Err.ensures.exact;
}
