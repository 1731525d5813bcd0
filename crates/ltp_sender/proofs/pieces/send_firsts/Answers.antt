use Rattle.std.proofs.Common.{refl, ap, List, ◌∷◌, ◌++◌, [], ◌∙◌}
use Rattle.std.proofs.lemmas.List.{drop_all}
use Rattle.ltp_sender.specs.declared.segments.Segment.{Segment}
use Rattle.ltp_sender.specs.Segments.{plain_pieces}
use Rattle.ltp_sender.proofs.PieceLemmas.{plain_pieces-drop, AreSent-step, AreSent-last}
use Rattle.ltp_sender.proofs.pieces.send_firsts.Goals as goal

pub sending-init : goal.sending-init
sending-init c = record { all_are = refl }

pub sending-preserved : goal.sending-preserved
sending-preserved c =
    AreSent-step c.args.name _ _ _ _ _ _ (plain_pieces-drop c.args.part.now c.args.segments.now c.sending.segment-index (record { from = 0; to = 0 }) c.sending-test.true)
    (c.in_ok-push.ensures.ok ∙ ap (λ d. c.sending.out ++ d ∷ []) c.in_ok-write_plain.ensures)
    c.sending.invariant

pub returns : goal.returns
returns c =
    AreSent-last c.args.name _ _ _
    (ap (λ (xs : List Segment). plain_pieces c.args.part.now xs) (drop_all c.sending.segment-index c.args.segments.now c.sending-test.false))
    c.sending.invariant
