use Rattle.std.proofs.Common.{rules}
use Rattle.endpoint.proofs.PlacesLemmas.{on_err}
use Rattle.ltp_segment.specs.PolicyViews.{policy_value}
use Rattle.ltp_segment.specs.Views.{piece_value}
use Rattle.ltp_segment.specs.declared.session.TheConstants.{BLOCK_MAX}
use Rattle.ltp_engine.specs.Inbound.{inbound_of, admission_in}
use Rattle.ltp_engine.proofs.WantLemmas.{first-loud, green-loud}
use Rattle.ltp_engine.proofs.inbound.Inbound.first_piece.Goals as goal

pub returns-in_err-handing_up-clause-wanted : goal.returns-in_err-handing_up-clause-wanted
returns-in_err-handing_up-clause-wanted c = on_err _ (green-loud (policy_value c.args.terms.policy) (admission_in (inbound_of c.args.self.now) BLOCK_MAX c.args.terms.history c.args.n)
    (piece_value c.args.piece.now) c.args.now (search rules))

pub returns-clause-wanted : goal.returns-clause-wanted
returns-clause-wanted c = on_err c.begin.result (first-loud (policy_value c.args.terms.policy) (admission_in (inbound_of c.args.self.now) BLOCK_MAX c.args.terms.history c.args.n)
    (piece_value c.args.piece.now) c.args.now (search rules) (search rules) (search rules))
