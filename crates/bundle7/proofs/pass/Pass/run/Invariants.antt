-- What is left is all of the bundle that is still to be read.
use Rattle.bundle7.specs.Passing.{Fits, Stands, steps_left}
use Rattle.bundle7.proofs.pass.Pass.run.Given as goal

abbrev pub invariant-stepping : goal.invariant-stepping
invariant-stepping l = record {
  fits : Fits l.most l.text l.self;
  stands : Stands l.most l.text l.self;
}

abbrev pub decreases-stepping : goal.decreases-stepping
decreases-stepping l = steps_left l.most l.self
