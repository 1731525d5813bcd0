use Rattle.std.proofs.Common.{All, sym, subst}
use Rattle.bundle_meaning.specs.Valid.{IsValid}
use Rattle.translate.specs.Sound.{IsSound}
use Rattle.gate_cases.proofs.PieceLemmas.{sound-pieces}
use Rattle.gate_cases.proofs.sending.piece_records.Goals as goal

pub returns-in-Ok-clause-sound : goal.returns-in-Ok-clause-sound
returns-in-Ok-clause-sound c =
    subst (All IsSound) (sym c.in-Ok.ensures.pieces)
    (sound-pieces c.args.full c.args.size c.requires.sound (subst (All IsValid) c.in-Ok.ensures.pieces c.in-Ok.ensures.valid))
