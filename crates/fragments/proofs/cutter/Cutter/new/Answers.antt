-- The pieces are valid.
use Rattle.std.proofs.Common.{arith}
use Rattle.std.proofs.lemmas.Bool.{lt-ltb}
use Rattle.fragments.specs.Cutting.{octets_of, how_many}
use Rattle.fragments.proofs.ValidLemmas.{valid-pieces}
use Rattle.fragments.proofs.cutter.Cutter.new.Goals as goal

pub returns-clause-valid : goal.returns-clause-valid
returns-clause-valid c =
    rw c.octets_of-octets.ensures
    (valid-pieces c.args.full c.args.size 0 (how_many c.args.size (octets_of c.args.full.shared.content)) c.requires.valid
    (lt-ltb _ _ (omega (arith, (rw c.octets_of-octets.ensures at c.if-length-size.false)))) (omega arith))
