use Rattle.std.proofs.Common.{refl}
use Rattle.bundle_runs.proofs.coming.begin_six.Goals as goal

pub returns : goal.returns
returns c = (c.in_ok-begin6.field-0, refl, c.in_ok-begin6.ensures)
