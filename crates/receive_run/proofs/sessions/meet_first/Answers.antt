use Rattle.std.proofs.Common.{◌∙◌, refl, sym, arith, [], None}
use Rattle.ltp_session.specs.Cells.{filled, length_after}
use Rattle.ltp_session.specs.RedPart.{red_stop}
use Rattle.receive_run.specs.declared.table.Standing.TheVariants as standings
use Rattle.receive_run.specs.Session.{handed_up, open_part}
use Rattle.receive_run.specs.Views.{named_piece, red_piece}
use Rattle.receive_run.proofs.SessionsLemmas.{first-out, first-alone, first-open, shows_absent, shows_put}
use Rattle.receive_run.proofs.sessions.meet_first.Goals as goal

pub returns-then-is_out_of_bounds-clause-met : goal.returns-then-is_out_of_bounds-clause-met
returns-then-is_out_of_bounds-clause-met c = λ kept lacks few.
    rw (first-out _ (named_piece c.args.piece.now) lacks.first (sym c.is_out_of_bounds.ensures ∙ c.if-is_out_of_bounds.true))
    (refl, shows_absent _ kept _ lacks)

pub returns-then-is_alone-clause-met : goal.returns-then-is_alone-clause-met
returns-then-is_alone-clause-met c = λ kept lacks few.
    rw (first-alone _ (named_piece c.args.piece.now) lacks.first (sym c.is_out_of_bounds.ensures ∙ c.if-is_out_of_bounds.false)
    (sym c.is_alone.ensures ∙ c.if-is_alone.true)) (
      refl,
      shows_put c.args.sessions.now c.put.new.sessions c.put.new.sessions kept _ standings.HandedUp handed_up
          lacks.others c.in_ok-put.ensures refl refl (rw lacks.first refl),
    )

pub returns-clause-met : goal.returns-clause-met
returns-clause-met c = λ kept lacks few.
    rw (first-open _ (named_piece c.args.piece.now) lacks.first (sym c.is_out_of_bounds.ensures ∙ c.if-is_out_of_bounds.false)
    (sym c.is_alone.ensures ∙ c.if-is_alone.false)) (
      refl,
      shows_put c.args.sessions.now c.put-2.new.sessions _ kept _ (standings.Open c.in_ok-part.part)
          (open_part (filled [] c.args.piece.now.offset c.args.piece.now.body.now)
          (length_after None c.args.piece.now.ends (red_stop (red_piece c.args.piece.now))))
          lacks.others c.in_ok-put-2.ensures
          (_, _, refl, rw c.in_ok-part.ensures.ok (rw (c.empty_part-part.ensures.came, c.empty_part-part.ensures.length_is) at c.in_ok-take.ensures))
          refl (rw lacks.first (omega (arith, few, c.saturating_add-sessions.ensures, c.in_ok-put-2.ensures.count))),
    )
