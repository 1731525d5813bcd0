use Rattle.std.proofs.Common.{All, sym, subst}
use Rattle.bundle_meaning.specs.Valid.{IsValid}
use Rattle.fragment_lines.specs.Writable.{HasRoom7}
use Rattle.fragment_lines.proofs.RoomLemmas.{room7-pieces}
use Rattle.fragment_lines.proofs.cutting.lines7.Goals as goal

pub pieces7-requires : goal.pieces7-requires
pieces7-requires c =
    subst (All HasRoom7) (sym c.in-Some.ensures.pieces)
    (room7-pieces c.args.full c.args.size c.requires.room (subst (All IsValid) c.in-Some.ensures.pieces c.in-Some.ensures.valid))
