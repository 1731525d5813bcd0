use Rattle.std.proofs.Common.{arith}
use Rattle.peer_records.specs.Records.{ids_of}
use Rattle.peer_records.specs.Ties.{named_all}
use Rattle.journal_file.proofs.WantsLemmas.{on_err_of}
use Rattle.peer_records.proofs.SessionLemmas.{ids-step, ids-end}
use Rattle.peer_records.proofs.WantedLemmas.{ids-wanted}
use Rattle.peer_records.proofs.sending.ids_of.Goals as goal

pub sessions-preserved : goal.sessions-preserved
sessions-preserved c =
    ids-step c.args.face c.args.session c.args.sessions.now c.sessions.one-index c.one-item.result c.sessions.ids.items c.add_if.new.ids.items
    (ids_of c.args.face c.args.session (named_all c.args.sessions.now)) c.sessions-test.true c.one-item.is c.in_ok-add_if.ensures.ids c.sessions.invariant

pub returns-in_err-add_if-clause-wanted : goal.returns-in_err-add_if-clause-wanted
returns-in_err-add_if-clause-wanted c =
    on_err_of _ _
    (ids-wanted c.args.face c.args.session c.args.sessions.now c.sessions.one-index c.one-item.result c.sessions.ids.items c.sessions-test.true c.one-item.is c.sessions.invariant
    c.in_err-add_if.ensures.wanted)

pub returns-clause-ids : goal.returns-clause-ids
returns-clause-ids c =
    ids-end c.args.face c.args.session c.args.sessions.now c.sessions.one-index c.sessions.ids.items
    (ids_of c.args.face c.args.session (named_all c.args.sessions.now)) (omega (arith, c.sessions-test.false)) c.sessions.invariant
