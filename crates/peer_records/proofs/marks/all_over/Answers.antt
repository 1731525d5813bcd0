use Rattle.std.proofs.Common.{arith}
use Rattle.peer_records.specs.Happened.{marking}
use Rattle.peer_records.specs.Said.{happened_by}
use Rattle.journal_file.proofs.WantsLemmas.{on_err_of}
use Rattle.gate_records.proofs.OverLemmas.{over-step, over-end}
use Rattle.peer_records.proofs.WantedLemmas.{clear-wanted}
use Rattle.peer_records.proofs.marks.all_over.Goals as goal

pub marks-preserved : goal.marks-preserved
marks-preserved g c =
    over-step (marking (happened_by c.args.step.now (g.G.GateSessions.opened c.args.gate.now) (g.G.GateSessions.handed_up c.args.gate.now)))
    c.args.marks.now c.marks.over.items c.add_over.new.over.items c.marks.mark-index _ c.marks-test.true c.in_ok-add_over.ensures.over c.marks.invariant

pub returns-in_err-add_over-clause-wanted : goal.returns-in_err-add_over-clause-wanted
returns-in_err-add_over-clause-wanted g c =
    on_err_of _ _
    (clear-wanted (marking (happened_by c.args.step.now (g.G.GateSessions.opened c.args.gate.now) (g.G.GateSessions.handed_up c.args.gate.now)))
    c.args.marks.now c.marks.over.items c.marks.mark-index _ c.marks-test.true c.marks.invariant c.in_err-add_over.ensures.wanted)

pub returns-clause-over : goal.returns-clause-over
returns-clause-over g c =
    over-end (marking (happened_by c.args.step.now (g.G.GateSessions.opened c.args.gate.now) (g.G.GateSessions.handed_up c.args.gate.now)))
    c.args.marks.now c.marks.over.items c.marks.mark-index (omega (arith, c.marks-test.false)) c.marks.invariant
