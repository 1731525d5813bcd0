use Rattle.std.proofs.Common.{sym, map}
use Rattle.gate_records.proofs.CancelLemmas.{cancelled-is}
use Rattle.peer_events.specs.Own.{own_seen}
use Rattle.peer_records.specs.Happened.{notes_in}
use Rattle.peer_records.proofs.step.StepDone.is_cancelled.Goals as goal

pub returns : goal.returns
returns g c =
    rw (c.is_cancelled_by.ensures, c.is_open-is_open.ensures, c.own_of-left.ensures, c.told.ensures)
    (sym (cancelled-is (g.G.GateSessions.opened c.args.gate.now) c.args.face c.args.session (map own_seen c.args.self.now.own.now) (notes_in c.args.self.now.answer.now.told)))
