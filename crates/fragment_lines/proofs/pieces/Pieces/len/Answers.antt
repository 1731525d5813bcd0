use Rattle.fragment_lines.specs.Lines.{octets_old, octets_new}
use Rattle.fragment_lines.proofs.TellsLemmas.{none-left, some-left}
use Rattle.fragment_lines.proofs.pieces.Pieces.len.Goals as goal

pub returns-in-Six : goal.returns-in-Six
returns-in-Six c = rw c.in-Six.is (record {
  over = λ none. none-left octets_old _ _ c.len.ensures none;
  some = λ some. some-left octets_old _ _ c.len.ensures some;
})

pub returns-in-Seven : goal.returns-in-Seven
returns-in-Seven c = rw c.in-Seven.is (record {
  over = λ none. none-left octets_new _ _ c.len-in-Seven.ensures none;
  some = λ some. some-left octets_new _ _ c.len-in-Seven.ensures some;
})
