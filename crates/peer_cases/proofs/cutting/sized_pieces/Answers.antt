use Rattle.std.proofs.Common.{All, sym, subst, ◌∙◌, arith}
use Rattle.bundle_meaning.specs.Valid.{IsValid}
use Rattle.translate.specs.Sound.{IsSound}
use Rattle.gate_cases.proofs.PieceLemmas.{sound-pieces}
use Rattle.peer_cases.proofs.CutLemmas.{outside-none, over-none, alone-room, cut-fit}
use Rattle.peer_cases.proofs.cutting.sized_pieces.Goals.{then-not-is_within-via-then-not-is_within, then-not-is_within-via-else-not-is_within+then-is_over}
use Rattle.peer_cases.proofs.cutting.sized_pieces.Goals as goal

pub returns-then-not-is_within : goal.returns-then-not-is_within
returns-then-not-is_within c = elim c.then-not-is_within.branch [
  | then-not-is_within-via-then-not-is_within w ↦
      outside-none c.args.settings c.args.to c.args.room c.args.full c.args.cut (sym c.is_within.ensures ∙ w.if-not-is_within.true)
  | then-not-is_within-via-else-not-is_within+then-is_over w ↦
      over-none c.args.settings c.args.to c.args.room c.args.full c.args.cut (sym w.is_over.ensures ∙ w.if-is_over.true)
]

pub returns-then-piece_count-eq1 : goal.returns-then-piece_count-eq1
returns-then-piece_count-eq1 c =
    alone-room c.args.settings c.args.to c.args.room c.args.full c.args.cut c.alone.result c.requires.some
    (sym c.piece_count.ensures ∙ c.if-piece_count-eq1.true) c.alone.ensures

pub cut_pieces-requires-clause-sound : goal.cut_pieces-requires-clause-sound
cut_pieces-requires-clause-sound c =
    subst (All IsSound) (sym c.in-Some.ensures.pieces)
    (sound-pieces c.args.full c.args.cut c.requires.sound (subst (All IsValid) c.in-Some.ensures.pieces c.in-Some.ensures.valid))

pub cut_pieces-requires-clause-fit : goal.cut_pieces-requires-clause-fit
cut_pieces-requires-clause-fit c =
    cut-fit c.args.to c.args.full c.args.cut c.in-Some.cutter c.in-Some.ensures.pieces
    (λ one. omega (arith, one, c.if-piece_count-eq1.false, c.piece_count.ensures)) c.requires.fits
