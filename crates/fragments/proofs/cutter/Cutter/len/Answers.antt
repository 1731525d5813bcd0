use Rattle.std.proofs.Common.{sym}
use Rattle.fragments.proofs.CutterLemmas.{length-pieces}
use Rattle.fragments.proofs.cutter.Cutter.len.Goals as goal

pub returns-in-Pieces : goal.returns-in-Pieces
returns-in-Pieces c = rw (← c.self.view_is, c.in-Pieces.is) (sym (length-pieces _ _ _ _))
