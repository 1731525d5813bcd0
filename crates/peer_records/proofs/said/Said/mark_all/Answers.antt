use Rattle.std.proofs.Common.{◌≡◌, [], map, arith}
use Rattle.journal_file.proofs.WantsLemmas.{on_err_of}
use Rattle.gate_records.specs.Records.{mark_records}
use Rattle.gate_records.proofs.FitLemmas.{small-step, small-all}
use Rattle.peer_gateway.specs.Answers.{routed_seen}
use Rattle.peer_records.specs.Happened.{marking}
use Rattle.peer_records.specs.Said.{happened_by}
use Rattle.peer_records.proofs.SaidLemmas.{reports, reports-step, reports-end, seen-at, seen-low, seen-high}
use Rattle.peer_records.proofs.WantedLemmas.{mark-none, mark-wanted}
use Rattle.peer_records.proofs.said.Said.mark_all.Goals as goal

pub out-preserved : goal.out-preserved
out-preserved g c =
    let h = marking (happened_by c.args.step.now (g.G.GateSessions.opened c.args.gate.now) (g.G.GateSessions.handed_up c.args.gate.now)) in
    let out = map routed_seen c.args.out.now in
    let routed = routed_seen c.outgoing-item.result in
    let low = seen-low c.args.out.now c.out.outgoing-index c.out-test.true in
    let at = seen-at c.args.out.now c.out.outgoing-index c.outgoing-item.result c.outgoing-item.is in (
      reports-step h out c.out.outgoing-index routed c.out.self c.mark.new.self (reports h out c.args.self.now) low at c.in_ok-mark.ensures.ok c.out.invariant.0,
      small-step out c.out.outgoing-index routed low at c.out.invariant.1 c.in_ok-mark.ensures.small,
      λ none. mark-none h out c.out.outgoing-index routed c.out.self c.mark.new.self low at c.in_ok-mark.ensures.ok (c.out.invariant.2 none),
    )

pub returns-in_err-mark-clause-wanted : goal.returns-in_err-mark-clause-wanted
returns-in_err-mark-clause-wanted g c =
    let h = marking (happened_by c.args.step.now (g.G.GateSessions.opened c.args.gate.now) (g.G.GateSessions.handed_up c.args.gate.now)) in
    let out = map routed_seen c.args.out.now in
    let marks = ((c.args.self.now).kept).marks in
    let no : mark_records h out marks ≡ [] → ⊥ = λ none.
    mark-wanted h out c.out.outgoing-index (routed_seen c.outgoing-item.result) ((c.out.self).kept).marks
    (seen-low c.args.out.now c.out.outgoing-index c.out-test.true)
    (seen-at c.args.out.now c.out.outgoing-index c.outgoing-item.result c.outgoing-item.is) c.in_err-mark.ensures.wanted (c.out.invariant.2 none) in
    on_err_of _ _ no

pub returns-clause-ok : goal.returns-clause-ok
returns-clause-ok g c =
    let h = marking (happened_by c.args.step.now (g.G.GateSessions.opened c.args.gate.now) (g.G.GateSessions.handed_up c.args.gate.now)) in
    let out = map routed_seen c.args.out.now in
    reports-end h out c.out.outgoing-index c.out.self (reports h out c.args.self.now)
    (seen-high c.args.out.now c.out.outgoing-index (omega (arith, c.out-test.false))) c.out.invariant.0

pub returns-clause-small : goal.returns-clause-small
returns-clause-small g c =
    small-all (map routed_seen c.args.out.now) c.out.outgoing-index
    (seen-high c.args.out.now c.out.outgoing-index (omega (arith, c.out-test.false))) c.out.invariant.1
