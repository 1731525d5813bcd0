use Rattle.std.proofs.Common.{◌≡◌, true, false, sym, ◌∙◌, subst}
use Rattle.gate_cases.specs.Sending.{has_sessions}
use Rattle.gate_cases.proofs.PieceLemmas.{fits-pieces}
use Rattle.gate_cases.proofs.SendLemmas.{few-sent, unfit-sent}
use Rattle.gate_cases.proofs.JudgeLemmas.{on-err}
use Rattle.gate_cases.proofs.sending.send_passed.Goals as goal

pub returns-then-not-fits-clause-exact : goal.returns-then-not-fits-clause-exact
returns-then-not-fits-clause-exact c =
    unfit-sent c.args.to c.args.passed c.args.size c.args.room c.stopped.result (sym c.if-not-fits.ensures) c.stopped.ensures

pub returns-else-has_sessions-clause-exact : goal.returns-else-has_sessions-clause-exact
returns-else-has_sessions-clause-exact c =
    few-sent c.args.to c.args.passed c.args.size c.args.room c.stopped-else-has_sessions.result (sym c.if-not-fits.ensures)
    (subst (λ n. has_sessions c.args.room n ≡ false) c.piece_count.ensures (sym c.if-has_sessions.ensures))
    c.stopped-else-has_sessions.ensures

pub returns-in_err-piece_records-clause-memory : goal.returns-in_err-piece_records-clause-memory
returns-in_err-piece_records-clause-memory c =
    on-err c.from_residual.result (record {
      fit = fits-pieces c.args.to c.args.passed c.args.size ∙ sym c.if-not-fits.ensures;
      sessions = subst (λ n. has_sessions c.args.room n ≡ true) c.piece_count.ensures (sym c.if-has_sessions.ensures);
    })

pub returns-in_ok-piece_records-clause-memory : goal.returns-in_ok-piece_records-clause-memory
returns-in_ok-piece_records-clause-memory c =
    on-err c.send_pieces.result (record {
      fit = fits-pieces c.args.to c.args.passed c.args.size ∙ sym c.if-not-fits.ensures;
      sessions = subst (λ n. has_sessions c.args.room n ≡ true) c.piece_count.ensures (sym c.if-has_sessions.ensures);
    })
