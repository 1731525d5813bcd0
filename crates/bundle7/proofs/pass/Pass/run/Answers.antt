-- A step that is refused refuses the bundle.
use Rattle.bundle7.proofs.PassLemmas.{comes-refused, stands-kept}
use Rattle.bundle7.proofs.pass.Pass.run.Goals as goal

pub returns-in-Err : goal.returns-in-Err
returns-in-Err c = record {
  fits = c.step.ensures.fits;
  stands = stands-kept c.args.most c.args.text.now c.stepping.self c.step.new.self c.in-Err.ensures.exact.0
      c.stepping.invariant.stands;
  comes = comes-refused c.args.most c.args.text.now c.stepping.self c.in-Err.refused c.stepping.invariant.stands
      c.in-Err.ensures.exact.1;
}
