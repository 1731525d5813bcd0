use Rattle.std.proofs.Common.{refl, ap, ◌++◌, ◌∷◌, [], ◌∙◌}
use Rattle.ltp_segment.specs.Values.{a_piece}
use Rattle.ltp_segment.specs.Spelling.{segment_octets}
use Rattle.ltp_session.specs.Sender.{piece_at}
use Rattle.ltp_session.specs.Views.{headed}
use Rattle.ltp_sender.specs.Segments.{segment_in}
use Rattle.ltp_sender.proofs.SegmentLemmas.{rest_of-end}
use Rattle.ltp_sender.proofs.PieceLemmas.{green_pieces-step, green_pieces-nil, AreSent-step, AreSent-last}
use Rattle.ltp_sender.proofs.pieces.send_green.Goals as goal

pub cutting-init : goal.cutting-init
cutting-init c = record { all_are = refl }

pub cutting-preserved : goal.cutting-preserved
cutting-preserved c =
    AreSent-step c.args.name _ _ _ _ _ _
    (green_pieces-step c.args.size c.cutting.from c.args.block.now c.segment_at-segment.result c.requires.some c.cutting-test.true
    c.segment_at-segment.ensures.from c.segment_at-segment.ensures.to)
    (c.in_ok-push.ensures.ok ∙ ap (λ d. c.cutting.out ++ d ∷ [])
    (c.in_ok-write_plain.ensures
    ∙ ap (λ kind. segment_octets (headed c.args.name (a_piece (piece_at kind 0 0 (segment_in c.args.block.now c.segment_at-segment.result)))))
    c.green_kind-kind.ensures))
    c.cutting.invariant

pub returns-clause-out : goal.returns-clause-out
returns-clause-out c =
    AreSent-last c.args.name _ _ _ (green_pieces-nil _ (rest_of-end c.args.size c.cutting.from c.args.block.now c.cutting-test.false)) c.cutting.invariant
