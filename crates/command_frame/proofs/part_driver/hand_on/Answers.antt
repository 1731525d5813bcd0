use Rattle.std.proofs.Common.{rules, []}
use Rattle.std.proofs.lemmas.List.{take_rest}
use Rattle.command_frame.specs.Task.{Settling}
use Rattle.command_frame.proofs.HandingLemmas.{handing-start, handing-more, handed-write, handed-all, handed-ends, handed-told}
use Rattle.command_frame.proofs.LimitsRunLemmas.{within-start, within-due, within-all, within-stop, within-none, stopped-within, failed-within}
use Rattle.command_frame.proofs.part_driver.hand_on.Goals as goal

pub pieces-init : goal.pieces-init
pieces-init g c = record {
  none_due = c.requires;
  so_far = λ settles stands quiet. handing-start _ settles c.args.piece.now _ stands quiet;
  within = λ limits within. within-start _ _ limits c.args.piece.now within;
}

pub returns-in_default-write_all-clause-handed : goal.returns-in_default-write_all-clause-handed
returns-in_default-write_all-clause-handed g c = λ settles stands quiet.
    let so_far = c.pieces.invariant.so_far settles stands quiet in
    let fed = rw (c.clear.ensures.bytes, ← c.as_bytes.ensures.value) at (c.in-Ok.ensures.fed so_far.later so_far.stands) in
    handed-write _ _ settles c.args.piece.now c.pieces.left.now _ _ so_far c.as_bytes.result.now c.in-Ok.taken fed _
    (λ (s : Settling). Unit {0}) c.in_default-write_all.ensures.err c.in_default-write_all.ensures.calls

pub returns-in-All-clause-handed : goal.returns-in-All-clause-handed
returns-in-All-clause-handed g c = λ settles stands quiet.
    let so_far = c.pieces.invariant.so_far settles stands quiet in
    let fed = rw (c.clear.ensures.bytes, ← c.as_bytes.ensures.value) at (c.in-Ok.ensures.fed so_far.later so_far.stands) in
    handed-all _ _ settles c.args.piece.now c.pieces.left.now _ _ so_far c.as_bytes.result.now c.in-Ok.taken fed _
    c.in-Ok-write_all.ensures.ok c.in-Ok-write_all.ensures.calls c.in-All.is

pub returns-in-Ends-clause-handed : goal.returns-in-Ends-clause-handed
returns-in-Ends-clause-handed g c = λ settles stands quiet.
    let so_far = c.pieces.invariant.so_far settles stands quiet in
    let fed = rw (c.clear.ensures.bytes, ← c.as_bytes.ensures.value) at (c.in-Ok.ensures.fed so_far.later so_far.stands) in
    handed-ends _ _ settles c.args.piece.now c.pieces.left.now _ _ so_far c.as_bytes.result.now c.in-Ok.taken fed _
    c.in-Ok-write_all.ensures.ok c.in-Ok-write_all.ensures.calls c.in-Ends.status c.in-Ends.is

pub returns-in-Some-clause-handed : goal.returns-in-Some-clause-handed
returns-in-Some-clause-handed g c = λ settles stands quiet.
    let so_far = c.pieces.invariant.so_far settles stands quiet in
    let fed = rw (c.clear.ensures.bytes, ← c.as_bytes.ensures.value) at (c.in-Ok.ensures.fed so_far.later so_far.stands) in
    handed-told _ _ settles c.args.piece.now c.pieces.left.now _ _ so_far c.as_bytes.result.now c.in-Ok.taken fed _
    c.in-Ok-write_all.ensures.ok c.in-Ok-write_all.ensures.calls _ c.in-Due.used c.in-Due.is _ (λ (s : Settling). Unit {0}) c.tell_all.result c.in-Some.status c.tell_all.ensures.told c.in-Some.is

pub pieces-preserved : goal.pieces-preserved
pieces-preserved g c = record {
  none_due = c.tell_all.ensures.none_due c.in-None.is;
  so_far = λ settles stands quiet.
      let so_far = c.pieces.invariant.so_far settles stands quiet in
      let fed = rw (c.clear.ensures.bytes, ← c.as_bytes.ensures.value) at (c.in-Ok.ensures.fed so_far.later so_far.stands) in
      rw (take_rest c.pieces.left.now c.in-Due.used)
      (handing-more _ _ settles c.args.piece.now c.pieces.left.now _ _ so_far c.as_bytes.result.now c.in-Ok.taken fed _
      c.in-Ok-write_all.ensures.ok c.in-Ok-write_all.ensures.calls _ c.in-Due.used c.in-Due.is _ c.tell_all.result c.tell_all.ensures.told c.in-None.is);
  within = λ limits within.
      let so_far = c.pieces.invariant.within limits within in
      rw (take_rest c.pieces.left.now c.in-Due.used)
      (within-due _ _ limits c.args.piece.now c.pieces.left.now so_far (g.T.PartTask.Awaits c.take.new.self) (g.T.PartTask.passed c.take.new.self) c.in-Due.used
      (rw c.in-Due.is at (c.in-Ok.ensures.within so_far.leads.later so_far.leads.within.awaits)) _ _ c.tell_all.ensures.kept
      (λ due later awaits. c.tell_all.ensures.within due later awaits c.in-None.is));
}

-- ---- the limits on lines

pub returns-in-All-clause-within : goal.returns-in-All-clause-within
returns-in-All-clause-within g c = λ limits within.
    let so_far = c.pieces.invariant.within limits within in
    within-all _ _ limits c.args.piece.now c.pieces.left.now so_far (g.T.PartTask.Awaits c.take.new.self []) (g.T.PartTask.passed c.take.new.self)
    (rw c.in-All.is at (c.in-Ok.ensures.within so_far.leads.later so_far.leads.within.awaits))

pub returns-in-Ends-clause-within : goal.returns-in-Ends-clause-within
returns-in-Ends-clause-within g c = λ limits within.
    let so_far = c.pieces.invariant.within limits within in
    stopped-within (g.T.PartTask.Awaits c.take.new.self []) (g.T.PartTask.passed c.take.new.self) limits c.args.piece.now c.in-Ends.status
    (within-stop _ _ limits c.args.piece.now c.pieces.left.now so_far _
    (rw c.in-Ends.is at (c.in-Ok.ensures.within so_far.leads.later so_far.leads.within.awaits)))

pub returns-in-Some-clause-within : goal.returns-in-Some-clause-within
returns-in-Some-clause-within g c = λ limits within.
    failed-within (g.T.PartTask.Awaits c.tell_all.new.task []) (g.T.PartTask.passed c.tell_all.new.task) limits c.args.piece.now c.in-Some.status (rw c.in-Some.is at c.tell_all.ensures.fault)

pub returns-clause-within : goal.returns-clause-within
returns-clause-within g c = λ limits within.
    within-none _ _ limits c.args.piece.now c.pieces.left.now (c.pieces.invariant.within limits within) (search rules)
