use Rattle.std.proofs.Common.{arith}
use Rattle.journal_file.proofs.WantsLemmas.{on_err_of}
use Rattle.peer_records.proofs.EndingLemmas.{so-far-start, so-far-step, so-far-ended, so-far-left}
use Rattle.peer_records.proofs.WantedLemmas.{ends-wanted}
use Rattle.peer_records.proofs.ending.ends.Goals as goal

pub told-init : goal.told-init
told-init g c = so-far-start (g.G.GateSessions.opened c.args.gate.now) c.args.told.now _ c.args.held.now c.new-ended.ensures.items

pub told-preserved : goal.told-preserved
told-preserved g c =
    so-far-step (g.G.GateSessions.opened c.args.gate.now) c.args.told.now c.told.one-index c.one-item.result c.told.ended.items c.end_by.new.ended.items c.told.held c.end_by.new.held c.args.held.now
    c.told-test.true c.one-item.is c.in_ok-end_by.ensures.ended c.in_ok-end_by.ensures.left c.told.invariant

pub returns-in_err-end_by-clause-wanted : goal.returns-in_err-end_by-clause-wanted
returns-in_err-end_by-clause-wanted g c =
    on_err_of _ _
    (ends-wanted (g.G.GateSessions.opened c.args.gate.now) c.args.told.now c.told.one-index c.one-item.result c.told.ended.items c.told.held c.args.held.now
    c.told-test.true c.one-item.is c.told.invariant c.in_err-end_by.ensures.wanted)

pub returns-clause-ended : goal.returns-clause-ended
returns-clause-ended g c =
    so-far-ended (g.G.GateSessions.opened c.args.gate.now) c.args.told.now c.told.one-index c.told.ended.items c.told.held c.args.held.now (omega (arith, c.told-test.false)) c.told.invariant

pub returns-clause-left : goal.returns-clause-left
returns-clause-left g c =
    so-far-left (g.G.GateSessions.opened c.args.gate.now) c.args.told.now c.told.one-index c.told.ended.items c.told.held c.args.held.now (omega (arith, c.told-test.false)) c.told.invariant
