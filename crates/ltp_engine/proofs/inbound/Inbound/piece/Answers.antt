use Rattle.std.proofs.Common.{rules}
use Rattle.std.proofs.lemmas.Result.{IfOk-weaker}
use Rattle.ltp_segment.specs.PolicyViews.{policy_value}
use Rattle.ltp_segment.specs.Views.{piece_value}
use Rattle.ltp_segment.specs.declared.session.TheConstants.{BLOCK_MAX}
use Rattle.ltp_engine.proofs.InboundLemmas.{takes-first}
use Rattle.endpoint.proofs.PlacesLemmas.{on_err}
use Rattle.std.proofs.lemmas.Result.{on_err_weaker}
use Rattle.ltp_session.specs.Table.{find}
use Rattle.ltp_engine.specs.Inbound.{inbound_of, admission_in}
use Rattle.ltp_engine.proofs.WantLemmas.{refused-loud, next-loud, absent-loud}
use Rattle.ltp_engine.proofs.inbound.Inbound.piece.Goals as goal

pub returns-in-None-clause-takes : goal.returns-in-None-clause-takes
returns-in-None-clause-takes c = IfOk-weaker c.first_piece.result _ _ (λ told does. takes-first c.args.terms.originator (policy_value c.args.terms.policy) c.args.terms.sessions c.args.n (piece_value c.args.piece.now) c.args.now BLOCK_MAX c.args.terms.history c.args.self.now c.next_piece.new.self c.first_piece.new.self told (search rules) (search rules) (search rules) does) c.first_piece.ensures.takes

pub returns-in_err-refusing-clause-wanted : goal.returns-in_err-refusing-clause-wanted
returns-in_err-refusing-clause-wanted c = on_err _ (refused-loud (policy_value c.args.terms.policy) (admission_in (inbound_of c.args.self.now) BLOCK_MAX c.args.terms.history c.args.n)
    (find c.args.n (inbound_of c.args.self.now).receivers) (piece_value c.args.piece.now) c.args.now (search rules))

pub returns-in_err-step-clause-wanted : goal.returns-in_err-step-clause-wanted
returns-in_err-step-clause-wanted c = on_err _ (next-loud (policy_value c.args.terms.policy) (admission_in (inbound_of c.args.self.now) BLOCK_MAX c.args.terms.history c.args.n)
    (find c.args.n (inbound_of c.args.self.now).receivers) (piece_value c.args.piece.now) c.args.now (search rules) (search rules) c.in_err-step.ensures.wanted)

pub returns-in-None-clause-wanted : goal.returns-in-None-clause-wanted
returns-in-None-clause-wanted c = on_err_weaker c.first_piece.result
    (absent-loud c.args.terms.originator (policy_value c.args.terms.policy) c.args.n (piece_value c.args.piece.now) c.args.now BLOCK_MAX c.args.terms.history c.args.self.now c.next_piece.new.self (search rules) (search rules) (search rules))
    c.first_piece.ensures.wanted
