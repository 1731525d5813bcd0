use Rattle.std.proofs.Common.{rules, ◌≡◌, sym, true, false, None}
use Rattle.ltp_segment.specs.declared.session.TheConstants.{BLOCK_MAX}
use Rattle.receive_run.specs.Session.{is_out_of_bounds}
use Rattle.receive_run.specs.Views.{named_piece, red_piece}
use Rattle.receive_run.proofs.SessionsLemmas.{opens-out, opens-inside}
use Rattle.receive_run.proofs.sessions.opens.Goals as goal

pub returns-then-not-is_out_of_bounds : goal.returns-then-not-is_out_of_bounds
returns-then-not-is_out_of_bounds c =
    let inside : is_out_of_bounds BLOCK_MAX 0 None (red_piece c.args.piece.now) ≡ false = search rules in
    sym (opens-inside (named_piece c.args.piece.now) inside c.is_alone.result (sym c.is_alone.ensures))

pub returns-else-not-is_out_of_bounds : goal.returns-else-not-is_out_of_bounds
returns-else-not-is_out_of_bounds c =
    let out : is_out_of_bounds BLOCK_MAX 0 None (red_piece c.args.piece.now) ≡ true = search rules in
    let test : c.is_out_of_bounds.result ≡ true = search rules in
    rw test (sym (opens-out (named_piece c.args.piece.now) out))
