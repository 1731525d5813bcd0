use Rattle.std.proofs.Common.{List, length, ◌++◌, ◌∷◌, [], sym, ap, subst, ◌∙◌, map, refl}
use Rattle.std.proofs.lemmas.List.{append-nil}
use Rattle.std.specs.Prelude.{All}
use Rattle.ltp_session.specs.Sender.{checkpoint_at, last_segment}
use Rattle.ltp_session.specs.Views.{datagrams_of}
use Rattle.ltp_sender.specs.declared.segments.Segment.{Segment}
use Rattle.ltp_sender.specs.Segments.{segment_in, IsOn}
use Rattle.ltp_sender.proofs.PieceLemmas.{red_pieces-none, last_segment-none, datagrams_of-red, last_segment-last, All-firsts, All-last}
use Rattle.ltp_sender.proofs.pieces.send_red.Goals as goal

pub returns-in_default-clause-out : goal.returns-in_default-clause-out
returns-in_default-clause-out c =
    sym (append-nil c.args.out.now)
    ∙ ap (λ cs. c.args.out.now ++ datagrams_of c.args.name cs)
    (sym (red_pieces-none c.args.part.now (checkpoint_at c.args.size (length c.args.part.now) c.args.serial c.args.report) c.args.segments.now c.in_default.ensures.cases))

pub returns-in_default-clause-checkpoint : goal.returns-in_default-clause-checkpoint
returns-in_default-clause-checkpoint c = last_segment-none c.args.part.now c.args.segments.now c.in_default.ensures.cases

pub send_firsts-requires : goal.send_firsts-requires
send_firsts-requires c =
    All-firsts (IsOn (length c.args.part.now)) c.in-Some.firsts.now (c.in-Some.last.now ∷ [])
    (subst (λ (xs : List Segment). All (IsOn (length c.args.part.now)) xs) c.in-Some.ensures.cases.0 c.requires.on)

pub returns-clause-out : goal.returns-clause-out
returns-clause-out c =
    datagrams_of-red c.args.name c.args.part.now (checkpoint_at c.args.size (length c.args.part.now) c.args.serial c.args.report)
    c.args.segments.now c.in-Some.firsts.now c.in-Some.last.now _ _ _ c.in-Some.ensures.cases.0 c.in_ok-send_firsts.ensures
    (c.in_ok-push.ensures.ok ∙ ap (λ d. c.send_firsts.new.out ++ d ∷ []) c.in_ok-write_checkpoint.ensures)

pub returns-clause-checkpoint : goal.returns-clause-checkpoint
returns-clause-checkpoint c =
    let is = c.in-Some.ensures.cases.0 in (
      ap (λ (xs : List Segment). last_segment (map (segment_in c.args.part.now) xs)) is ∙ last_segment-last c.args.part.now c.in-Some.firsts.now c.in-Some.last.now,
      All-last (IsOn (length c.args.part.now)) c.in-Some.firsts.now c.in-Some.last.now
          (subst (λ (xs : List Segment). All (IsOn (length c.args.part.now)) xs) is c.requires.on),
      refl,
      refl,
    )
