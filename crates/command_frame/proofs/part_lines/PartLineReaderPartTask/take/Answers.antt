use Rattle.std.proofs.Common.{rules, Some, None, [], refl}
use Rattle.std.specs.String.{string_bytes}
use Rattle.command_frame.proofs.LinesLemmas.{in_line-quiet, FeedsOn-start, FeedsOn-more, FeedsOn-over, FeedsOn-last, FeedsOn-none}
use Rattle.command_frame.proofs.PartLinesLemmas.{part-all, part-ends, owes-now}
use Rattle.command_frame.proofs.LimitsLemmas.{in_limits-within, LimitsOn-start, LimitsOn-more, LimitsOn-stop, LimitsOn-last, LimitsOn-owes, LimitsOn-over, LimitsOn-none}
use Rattle.command_frame.proofs.part_lines.PartLineReaderPartTask.take.Goals as goal

pub lines-init : goal.lines-init
lines-init g c = record {
  none_due = c.requires;
  so_far = FeedsOn-start _ (string_bytes c.args.text.now) c.args.piece.now
      (λ settles stands. in_line-quiet g.L.PartLineStep.rules (g.L.PartLineStep.Shows c.args.self.now.step []) c.args.self.now.number c.args.self.now.rest.items settles stands);
  within = LimitsOn-start _ c.args.self.now.passed c.args.piece.now
      (λ limits awaits. in_limits-within g.L.PartLineStep.rules (g.L.PartLineStep.Shows c.args.self.now.step []) c.args.self.now.number c.args.self.now.rest.items c.args.self.now.passed limits awaits);
}

pub returns-in-Some-2-clause-fed : goal.returns-in-Some-2-clause-fed
returns-in-Some-2-clause-fed g c = λ settles stands.
    part-ends _ settles c.args.piece.now _ _ c.in-Some-2.status
    (FeedsOn-last _ _ _ _ (string_bytes c.lines.text) _ c.args.piece.now c.lines.left.now (Some c.in-Some-2.status) c.lines.invariant.so_far
    (λ later there. rw c.in-Some-2.is at (c.in_ok-status.ensures.fed later (string_bytes c.lines.text) there)) settles stands)

pub returns-in-None-clause-fed : goal.returns-in-None-clause-fed
returns-in-None-clause-fed g c = λ settles stands.
    part-all _ settles c.args.piece.now _ _
    (FeedsOn-last _ _ _ _ (string_bytes c.lines.text) _ c.args.piece.now c.lines.left.now None c.lines.invariant.so_far
    (λ later there. rw c.in-None.is at (c.in_ok-status.ensures.fed later (string_bytes c.lines.text) there)) settles stands)

pub lines-preserved : goal.lines-preserved
lines-preserved g c = record {
  none_due = rw c.in-Passes.is at c.in_ok-end_line.ensures.leaves;
  so_far = FeedsOn-more _ _ _ _ _ _ c.args.piece.now c.lines.left.now c.in-Some.last.now c.in-Some.later.now
      c.lines.invariant.so_far c.in-Some.ensures.some.0 (rw c.in-Passes.is at c.in_ok-end_line.ensures.fed);
  within = LimitsOn-more _ _ _ c.args.piece.now c.lines.left.now c.lines.invariant.within c.in-Some.last.now c.in-Some.later.now
      c.in-Some.ensures.some.0 _ _ (rw c.in-Passes.is at c.in_ok-end_line.ensures.within);
}

pub returns-in-Owes-clause-fed : goal.returns-in-Owes-clause-fed
returns-in-Owes-clause-fed g c = λ settles stands.
    owes-now _ _ _ _ _ _ c.args.piece.now c.lines.left.now c.in-Some.last.now c.in-Some.later.now _
    c.lines.invariant.so_far c.in-Some.ensures.some.0 refl (rw c.in-Owes.is at c.in_ok-end_line.ensures.fed) settles stands

pub returns-in-Ends-clause-fed : goal.returns-in-Ends-clause-fed
returns-in-Ends-clause-fed g c = λ settles stands.
    part-ends _ settles c.args.piece.now _ _ c.in-Ends.status
    (FeedsOn-over _ _ _ _ _ _ c.args.piece.now c.lines.left.now c.in-Some.last.now c.in-Some.later.now c.in-Ends.status
    c.lines.invariant.so_far c.in-Some.ensures.some.0 (rw c.in-Ends.is at c.in_ok-end_line.ensures.fed) settles stands)

pub returns-clause-fed : goal.returns-clause-fed
returns-clause-fed g c = λ settles stands.
    part-all _ settles c.args.piece.now _ _
    (FeedsOn-none _ _ _ _ c.args.piece.now c.lines.left.now (search rules) c.lines.invariant.so_far settles stands)

-- ---- the limits on lines

pub returns-in-Some-2-clause-within : goal.returns-in-Some-2-clause-within
returns-in-Some-2-clause-within g c = λ limits awaits.
    LimitsOn-stop _ _ _ c.args.piece.now c.lines.left.now c.lines.invariant.within _
    (λ later there. rw c.in-Some-2.is at (c.in_ok-status.ensures.within later there)) limits awaits

pub returns-in-None-clause-within : goal.returns-in-None-clause-within
returns-in-None-clause-within g c = λ limits awaits.
    LimitsOn-last _ _ _ c.args.piece.now c.lines.left.now c.lines.invariant.within _ _
    (λ later there. rw c.in-None.is at (c.in_ok-status.ensures.within later there)) limits awaits

pub returns-in-Owes-clause-within : goal.returns-in-Owes-clause-within
returns-in-Owes-clause-within g c = λ limits awaits.
    LimitsOn-owes _ _ _ c.args.piece.now c.lines.left.now c.lines.invariant.within c.in-Some.last.now c.in-Some.later.now
    c.in-Some.ensures.some.0 _ _ _ refl (rw c.in-Owes.is at c.in_ok-end_line.ensures.within) limits awaits

pub returns-in-Ends-clause-within : goal.returns-in-Ends-clause-within
returns-in-Ends-clause-within g c = λ limits awaits.
    LimitsOn-over _ _ _ c.args.piece.now c.lines.left.now c.lines.invariant.within c.in-Some.last.now c.in-Some.later.now
    c.in-Some.ensures.some.0 _ (rw c.in-Ends.is at c.in_ok-end_line.ensures.within) limits awaits

pub returns-clause-within : goal.returns-clause-within
returns-clause-within g c = λ limits awaits.
    LimitsOn-none _ _ _ c.args.piece.now c.lines.left.now c.lines.invariant.within (search rules) limits awaits
