use Rattle.std.proofs.Common.{◌≡◌, ◌∙◌, ◌||◌, true, is_some, sym, refl, subst}
use Rattle.std.proofs.lemmas.Result.{on_err_weaker}
use Rattle.endpoint.proofs.PlacesLemmas.{on_err}
use Rattle.ltp_segment.specs.Kinds.{is_checkpoint}
use Rattle.ltp_session.specs.Receiver.{Receiving, red_part}
use Rattle.std.specs.Prelude.{Some}
use Rattle.ltp_segment.specs.PolicyViews.{policy_value}
use Rattle.ltp_segment.specs.Views.{piece_value}
use Rattle.ltp_receiver.specs.Kept.{receiving_of}
use Rattle.ltp_receiver.proofs.KeptLemmas.{piece-outside, piece-rejected, piece-green, did-as, all-did-as, did-red}
use Rattle.ltp_receiver.proofs.QuietLemmas.{rejected-loud, green-loud, filled-loud, red-loud}
use Rattle.ltp_receiver.proofs.kept.Kept.piece.Goals as goal

pub returns-then-is_outside-clause-did : goal.returns-then-is_outside-clause-did
returns-then-is_outside-clause-did c =
    did-as c.args.terms.name (receiving_of c.args.self) _ _ (Some c.args.self, c.noting.result)
    (piece-outside (policy_value c.args.terms.policy) (receiving_of c.args.self) (piece_value c.args.piece.now) c.args.now
    (sym c.is_outside.ensures ∙ c.if-is_outside.true))
    (record { kept = refl; answer = rw c.new.ensures at c.noting.ensures })

pub returns-then-is_miscoloured-clause-did : goal.returns-then-is_miscoloured-clause-did
returns-then-is_miscoloured-clause-did c =
    all-did-as c.args.terms.name (receiving_of c.args.self) _ _ c.reject.result
    (piece-rejected (policy_value c.args.terms.policy) (receiving_of c.args.self) (piece_value c.args.piece.now) c.args.now
    (sym c.is_outside.ensures ∙ c.if-is_outside.false) (sym c.is_miscoloured.ensures ∙ c.if-is_miscoloured.true))
    c.reject.ensures

pub returns-in_ok-with_red-clause-did : goal.returns-in_ok-with_red-clause-did
returns-in_ok-with_red-clause-did c =
    did-red c.args.terms.name (receiving_of c.args.self) _ (policy_value c.args.terms.policy) (piece_value c.args.piece.now) c.args.now c.take_red.result
    c.in_ok-with_red.ensures.red
    (sym c.is_outside.ensures ∙ c.if-is_outside.false) (sym c.is_miscoloured.ensures ∙ c.if-is_miscoloured.false) (sym c.is_red.ensures ∙ c.if-is_red.true)
    c.take_red.ensures.did

pub returns-else-is_red-clause-did : goal.returns-else-is_red-clause-did
returns-else-is_red-clause-did c =
    all-did-as c.args.terms.name (receiving_of c.args.self) _ _ c.take_green.result
    (piece-green (policy_value c.args.terms.policy) (receiving_of c.args.self) (piece_value c.args.piece.now) c.args.now
    (sym c.is_outside.ensures ∙ c.if-is_outside.false) (sym c.is_miscoloured.ensures ∙ c.if-is_miscoloured.false) (sym c.is_red.ensures ∙ c.if-is_red.false))
    c.take_green.ensures

pub returns-then-is_miscoloured-clause-wanted : goal.returns-then-is_miscoloured-clause-wanted
returns-then-is_miscoloured-clause-wanted c = on_err c.reject.result
    (rejected-loud (policy_value c.args.terms.policy) (receiving_of c.args.self) (piece_value c.args.piece.now) c.args.now
    (sym c.is_outside.ensures ∙ c.if-is_outside.false) (sym c.is_miscoloured.ensures ∙ c.if-is_miscoloured.true))

pub returns-in_err-with_red-clause-wanted : goal.returns-in_err-with_red-clause-wanted
returns-in_err-with_red-clause-wanted c = on_err _
    (filled-loud (policy_value c.args.terms.policy) (receiving_of c.args.self) (piece_value c.args.piece.now) c.args.now
    (sym c.is_outside.ensures ∙ c.if-is_outside.false) (sym c.is_miscoloured.ensures ∙ c.if-is_miscoloured.false) (sym c.is_red.ensures ∙ c.if-is_red.true)
    c.in_err-with_red.ensures.wanted)

pub returns-in_ok-with_red-clause-wanted : goal.returns-in_ok-with_red-clause-wanted
returns-in_ok-with_red-clause-wanted c = on_err_weaker c.take_red.result
    (λ answered. red-loud (policy_value c.args.terms.policy) (receiving_of c.args.self) (piece_value c.args.piece.now) c.args.now
    (sym c.is_outside.ensures ∙ c.if-is_outside.false) (sym c.is_miscoloured.ensures ∙ c.if-is_miscoloured.false) (sym c.is_red.ensures ∙ c.if-is_red.true)
    (subst (λ (r : Receiving). (is_checkpoint c.args.piece.now.kind || is_some (red_part r)) ≡ true) c.in_ok-with_red.ensures.red answered))
    c.take_red.ensures.wanted

pub returns-else-is_red-clause-wanted : goal.returns-else-is_red-clause-wanted
returns-else-is_red-clause-wanted c = on_err c.take_green.result
    (green-loud (policy_value c.args.terms.policy) (receiving_of c.args.self) (piece_value c.args.piece.now) c.args.now
    (sym c.is_outside.ensures ∙ c.if-is_outside.false) (sym c.is_miscoloured.ensures ∙ c.if-is_miscoloured.false) (sym c.is_red.ensures ∙ c.if-is_red.false))
