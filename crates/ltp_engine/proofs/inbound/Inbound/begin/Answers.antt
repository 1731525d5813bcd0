use Rattle.std.proofs.Common.{rules}
use Rattle.ltp_segment.specs.PolicyViews.{policy_value}
use Rattle.ltp_segment.specs.Views.{piece_value}
use Rattle.ltp_engine.proofs.InboundLemmas.{begun-live}
use Rattle.endpoint.proofs.PlacesLemmas.{on_err}
use Rattle.ltp_engine.proofs.WantLemmas.{opens-loud}
use Rattle.ltp_engine.proofs.inbound.Inbound.begin.Goals as goal

pub returns-clause-takes : goal.returns-clause-takes
returns-clause-takes c = begun-live c.args.terms.sessions c.args.terms.originator (policy_value c.args.terms.policy) c.args.n (piece_value c.args.piece.now) c.args.now c.args.self.now c.make_room.new.self c.«open».new.self c.piece.new.self (c.in_ok-gone.gone, c.in_ok-step.step) c.requires.absent
    (search rules) (search rules) c.in_ok-gone.ensures.gone c.in_ok-gone.ensures.next c.in_ok-open.ensures.unique c.in_ok-open.ensures.receivers c.in_ok-open.ensures.closed

pub returns-in_err-step-clause-wanted : goal.returns-in_err-step-clause-wanted
returns-in_err-step-clause-wanted c = on_err _ (opens-loud c.args.n (policy_value c.args.terms.policy) (piece_value c.args.piece.now) c.args.now)

pub returns-in_err-gone-clause-wanted : goal.returns-in_err-gone-clause-wanted
returns-in_err-gone-clause-wanted c = on_err _ (opens-loud c.args.n (policy_value c.args.terms.policy) (piece_value c.args.piece.now) c.args.now)

pub returns-in_err-open-clause-wanted : goal.returns-in_err-open-clause-wanted
returns-in_err-open-clause-wanted c = on_err _ (opens-loud c.args.n (policy_value c.args.terms.policy) (piece_value c.args.piece.now) c.args.now)
