use Rattle.std.proofs.Common.{◌≡◌, refl, false, arith, None, Some, length}
use Rattle.ltp_segment.specs.declared.session.TheConstants.{BLOCK_MAX}
use Rattle.ltp_session.specs.Cells.{filled, length_after}
use Rattle.ltp_session.specs.RedPart.{red_stop}
use Rattle.receive_run.specs.declared.table.Standing.TheVariants as standings
use Rattle.receive_run.specs.Session.{handed_up, open_part, is_out_of_bounds}
use Rattle.receive_run.specs.Views.{named_piece, red_piece}
use Rattle.receive_run.proofs.TableLemmas.{unfinished-open}
use Rattle.receive_run.proofs.SessionsLemmas.{open-inside, shows_put}
use Rattle.receive_run.proofs.sessions.meet_open.Goals as goal

pub returns-in-Some : goal.returns-in-Some
returns-in-Some c = λ kept cells known lacks.
    let test : is_out_of_bounds BLOCK_MAX (length cells) known (red_piece c.args.piece.now) ≡ false =
    rw (← lacks.stands.came, ← lacks.stands.length_is) c.requires in
    let stands = rw (c.deref_mut.ensures.value, lacks.stands.came, lacks.stands.length_is) at c.in_ok-take.ensures in
    let w = rw (c.in-Some.is, c.deref.ensures, stands.came, stands.length_is) at c.in_ok-body.ensures in
    rw (open-inside _ (named_piece c.args.piece.now) cells known (Some c.in-Some.body.items) lacks.is_open test w) (
      refl,
      shows_put c.args.sessions.now c.put.new.sessions _ kept _ standings.HandedUp handed_up
          lacks.others c.in_ok-put-in-Some.ensures refl refl
          (rw lacks.is_open (omega (
            arith,
            c.saturating_sub-sessions.ensures,
            c.in_ok-put-in-Some.ensures.count,
            lacks.others.count,
            unfinished-open c.args.piece.now.name kept (rw lacks.is_open refl),
          ))),
    )

pub returns : goal.returns
returns c = λ kept cells known lacks.
    let test : is_out_of_bounds BLOCK_MAX (length cells) known (red_piece c.args.piece.now) ≡ false =
    rw (← lacks.stands.came, ← lacks.stands.length_is) c.requires in
    let stands = rw (c.deref_mut.ensures.value, lacks.stands.came, lacks.stands.length_is) at c.in_ok-take.ensures in
    let w = rw (c.in-None.is, c.deref.ensures, stands.came, stands.length_is) at c.in_ok-body.ensures in
    rw (open-inside _ (named_piece c.args.piece.now) cells known None lacks.is_open test w) (
      refl,
      shows_put c.args.sessions.now c.put-in-None.new.sessions c.put-in-None.new.sessions kept _ _
          (open_part (filled cells c.args.piece.now.offset c.args.piece.now.body.now)
          (length_after known c.args.piece.now.ends (red_stop (red_piece c.args.piece.now))))
          lacks.others c.in_ok-put-in-None.ensures (_, _, refl, stands) refl (rw lacks.is_open refl),
    )
