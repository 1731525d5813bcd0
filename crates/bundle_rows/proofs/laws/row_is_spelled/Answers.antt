use Rattle.bundle_rows.proofs.RowLemmas.{row_is_spelled}
use Rattle.bundle_rows.proofs.laws.row_is_spelled.Goals as goal

pub returns : goal.returns
returns c = row_is_spelled
