use Rattle.std.proofs.Common.{◌+◌, List, length, map, Option, None, ◌++◌, ap, subst, ◌∙◌, refl}
use Rattle.std.proofs.lemmas.List.{length-take-le}
use Rattle.ltp_segment.specs.PolicyViews.{policy_value}
use Rattle.ltp_session.specs.Sender.{checkpoint_at, red_pieces}
use Rattle.ltp_session.specs.Views.{datagrams_of}
use Rattle.ltp_sender.specs.declared.segments.Segment.{Segment}
use Rattle.ltp_sender.specs.declared.segments.Checkpoint.{Checkpoint}
use Rattle.ltp_sender.specs.Kept.{sending_of}
use Rattle.ltp_sender.specs.Segments.{segment_in, IsLast}
use Rattle.ltp_sender.proofs.StepLemmas.{SentRound, next_round-ends, next_round-sends, last_segment-some, not_past}
use Rattle.ltp_sender.proofs.kept.Kept.next_round.Goals as goal

pub returns-in_default : goal.returns-in_default
returns-in_default c was earlier is =
    let s = sending_of c.args.self in
    let policy = policy_value c.args.terms.policy in
    let part = c.red_part-part.result.now in
    let segments = c.deref.result.now in
    let sent : SentRound c.args.terms.name policy s part (c.args.serial + 1) c.args.report segments c.args.before c.send_red.new.out = record {
      part_is = c.red_part-part.ensures;
      length_is = ap (λ xs. length xs) c.red_part-part.ensures ∙ length-take-le c.args.self.red c.args.self.block c.args.self.red_within;
      segments_are = ap (λ (xs : List Segment). map (segment_in part) xs) c.deref.ensures.value ∙ c.in_ok-segments.ensures.exact;
      out_is = c.in_ok-last.ensures.out ∙ ap (λ n. c.args.before ++ datagrams_of c.args.terms.name (red_pieces (checkpoint_at n (length part) (c.args.serial + 1) c.args.report) (map (segment_in part) segments))) c.len-size.ensures;
    } in
    let last : IsLast part segments (c.args.serial + 1) c.args.report None =
    subst (λ (o : Option Checkpoint). IsLast part segments (c.args.serial + 1) c.args.report o) c.in_default.is c.in_ok-last.ensures.checkpoint in
    next_round-ends c.args.terms.name policy was s part c.args.serial c.args.report c.args.now segments c.args.before c.send_red.new.out earlier
    c.args.self c.sending.result (not_past c.args.serial c.if-serial-eq-SERIALS.false) is sent last (last_segment-some part segments last) refl c.sending.ensures

pub returns : goal.returns
returns c was earlier is =
    let s = sending_of c.args.self in
    let policy = policy_value c.args.terms.policy in
    let part = c.red_part-part.result.now in
    let segments = c.deref.result.now in
    let sent : SentRound c.args.terms.name policy s part (c.args.serial + 1) c.args.report segments c.args.before c.send_red.new.out = record {
      part_is = c.red_part-part.ensures;
      length_is = ap (λ xs. length xs) c.red_part-part.ensures ∙ length-take-le c.args.self.red c.args.self.block c.args.self.red_within;
      segments_are = ap (λ (xs : List Segment). map (segment_in part) xs) c.deref.ensures.value ∙ c.in_ok-segments.ensures.exact;
      out_is = c.in_ok-last.ensures.out ∙ ap (λ n. c.args.before ++ datagrams_of c.args.terms.name (red_pieces (checkpoint_at n (length part) (c.args.serial + 1) c.args.report) (map (segment_in part) segments))) c.len-size.ensures;
    } in
    next_round-sends c.args.terms.name policy was s part c.args.serial c.args.report c.args.now segments c.args.before c.send_red.new.out earlier
    c.in-Some.checkpoint c.first-timer.result c.with_phase.result c.sending-2.result (not_past c.args.serial c.if-serial-eq-SERIALS.false) is sent
    (subst (λ (o : Option Checkpoint). IsLast part segments (c.args.serial + 1) c.args.report o) c.in-Some.is c.in_ok-last.ensures.checkpoint)
    c.with_phase.ensures c.first-timer.ensures c.sending-2.ensures
