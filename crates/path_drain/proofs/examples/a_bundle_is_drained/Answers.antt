use Rattle.std.proofs.Common.{refl}
use Rattle.path_drain.proofs.BundleExamples.{bundle-complete, bundle-drained, bundle-ready}
use Rattle.path_drain.proofs.examples.a_bundle_is_drained.Goals as goal

pub returns : goal.returns
returns c = record {
  policy = refl;
  ready = bundle-ready;
  clean = bundle-drained.clean;
  over = bundle-drained.over;
  noted = bundle-drained.noted;
  begins = bundle-drained.begins;
  comes = bundle-drained.comes;
  complete = bundle-complete;
}
