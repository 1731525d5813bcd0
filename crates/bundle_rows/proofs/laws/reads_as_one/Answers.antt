use Rattle.bundle_rows.proofs.RowLemmas.{reads_as_one}
use Rattle.bundle_rows.proofs.laws.reads_as_one.Goals as goal

pub returns : goal.returns
returns c = reads_as_one
