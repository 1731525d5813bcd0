use Rattle.std.proofs.Common.{All, sym, subst}
use Rattle.bundle_meaning.specs.Valid.{IsValid}
use Rattle.fragment_lines.specs.Writable.{HasRoom6}
use Rattle.fragment_lines.proofs.RoomLemmas.{room6-pieces}
use Rattle.fragment_lines.proofs.cutting.lines6.Goals as goal

pub pieces6-requires : goal.pieces6-requires
pieces6-requires c =
    subst (All HasRoom6) (sym c.in-Some.ensures.pieces)
    (room6-pieces c.args.full c.args.size c.requires.room (subst (All IsValid) c.in-Some.ensures.pieces c.in-Some.ensures.valid))
