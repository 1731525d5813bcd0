use Rattle.std.proofs.Common.{ℕ, Bool, false, List, ◌++◌, length, take, map, Option, refl, ap, subst, ◌∙◌, arith}
use Rattle.std.proofs.lemmas.List.{length-take-le}
use Rattle.ltp_segment.specs.PolicyViews.{policy_value}
use Rattle.ltp_session.specs.declared.name.SessionName.{SessionName}
use Rattle.ltp_session.specs.Sender.{Sending, segments_of, unclaimed, checkpoint_at, red_pieces}
use Rattle.ltp_session.specs.Views.{datagrams_of}
use Rattle.ltp_sender.specs.declared.segments.Segment.{Segment}
use Rattle.ltp_sender.specs.Segments.{segment_in, IsLast}
use Rattle.ltp_sender.specs.Kept.{opened_by}
use Rattle.ltp_sender.proofs.BeginLemmas.{SentFirst, begin-out, begin-kept}
use Rattle.ltp_sender.proofs.sender.Sender.begin.Goals as goal

pub returns-clause-out : goal.returns-clause-out
returns-clause-out c =
    let name : SessionName = record { originator = c.args.own; number = c.args.session } in
    let policy = policy_value c.args.policy.now in
    let block = c.args.block.now in
    let part = take c.args.red block in
    let segments = c.deref.result.now in
    let pieces : ℕ → List (List ℕ) = λ serial. datagrams_of name (red_pieces (checkpoint_at (length block) (length part) serial 0) (map (segment_in part) segments)) in
    let sent : SentFirst name policy c.args.session block part c.args.red segments c.send_red.new.out c.send_green.new.out = record {
      part_is = refl;
      length_is = length-take-le c.args.red block c.requires.red;
      segments_are = ap (λ (xs : List Segment). map (segment_in part) xs) c.deref.ensures.value ∙ c.in_ok-segments.ensures.exact
          ∙ ap (λ (claimed : List Bool). unclaimed claimed (segments_of policy.segment 0 part)) c.new-claimed.ensures.uncovered;
      red_is = c.in_ok-last.ensures.out ∙ ap (λ ds. ds ++ pieces c.first_serial-serial.result) c.new-out.ensures ∙ ap (λ serial. pieces serial) c.first_serial-serial.ensures;
      green_is = c.in_ok-send_green.ensures.out;
    } in
    begin-out name policy c.args.session block part c.args.red c.args.now segments c.send_red.new.out c.send_green.new.out (omega (arith, c.args.policy.now.segment_least)) sent

pub returns-clause-sender : goal.returns-clause-sender
returns-clause-sender c =
    let name : SessionName = record { originator = c.args.own; number = c.args.session } in
    let policy = policy_value c.args.policy.now in
    let block = c.args.block.now in
    let part = take c.args.red block in
    let segments = c.deref.result.now in
    let pieces : ℕ → List (List ℕ) = λ serial. datagrams_of name (red_pieces (checkpoint_at (length block) (length part) serial 0) (map (segment_in part) segments)) in
    let sent : SentFirst name policy c.args.session block part c.args.red segments c.send_red.new.out c.send_green.new.out = record {
      part_is = refl;
      length_is = length-take-le c.args.red block c.requires.red;
      segments_are = ap (λ (xs : List Segment). map (segment_in part) xs) c.deref.ensures.value ∙ c.in_ok-segments.ensures.exact
          ∙ ap (λ (claimed : List Bool). unclaimed claimed (segments_of policy.segment 0 part)) c.new-claimed.ensures.uncovered;
      red_is = c.in_ok-last.ensures.out ∙ ap (λ ds. ds ++ pieces c.first_serial-serial.result) c.new-out.ensures ∙ ap (λ serial. pieces serial) c.first_serial-serial.ensures;
      green_is = c.in_ok-send_green.ensures.out;
    } in
    let last = subst (λ (serial : ℕ). IsLast part segments serial 0 c.in_ok-last.last) c.first_serial-serial.ensures c.in_ok-last.ensures.checkpoint in
    ap (λ (k : Option Sending). record { spent = false; name = name; policy = policy; kept = k })
    (c.in_ok-kept.ensures.kept
    ∙ ap (λ (claimed : List Bool). opened_by block c.args.red claimed c.first-timer.result c.in_ok-last.last) c.new-claimed.ensures.uncovered
    ∙ begin-kept name policy c.args.session block part c.args.red c.args.now segments c.send_red.new.out c.send_green.new.out c.first-timer.result c.in_ok-last.last
    (omega (arith, c.args.policy.now.segment_least)) sent last c.first-timer.ensures)
