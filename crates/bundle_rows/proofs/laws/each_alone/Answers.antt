use Rattle.bundle_rows.proofs.RowLemmas.{each_alone}
use Rattle.bundle_rows.proofs.laws.each_alone.Goals as goal

pub returns : goal.returns
returns c = each_alone
