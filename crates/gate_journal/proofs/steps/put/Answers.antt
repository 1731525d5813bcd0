use Rattle.std.proofs.Common.{length}
use Rattle.gate_journal.specs.Steps.{TornOnly}
use Rattle.gate_journal.proofs.StepLemmas.{started, goes_on, torn-start}
use Rattle.gate_journal.proofs.steps.put.Goals as goal

pub returns-in_err-write_at-clause-any_moment : goal.returns-in_err-write_at-clause-any_moment
returns-in_err-write_at-clause-any_moment g c =
    let old = c.args.store.now in
    let P = TornOnly c.args.at (length c.args.octets.now) (g.S.Store.may_leave old) in
    let at_start = started g.S.Store.moment g.S.Store.left_since old P (λ f left. torn-start c.args.at (length c.args.octets.now) (g.S.Store.may_leave old) f (g.met.S.Store.only_now old f left)) in
    goes_on g.S.Store.moment g.S.Store.left_since old old c.write_at.new.self P _ at_start c.write_at.ensures.time (λ f now. c.write_at.ensures.crash f now)

pub returns-clause-any_moment : goal.returns-clause-any_moment
returns-clause-any_moment g c =
    let old = c.args.store.now in
    let P = TornOnly c.args.at (length c.args.octets.now) (g.S.Store.may_leave old) in
    let at_start = started g.S.Store.moment g.S.Store.left_since old P (λ f left. torn-start c.args.at (length c.args.octets.now) (g.S.Store.may_leave old) f (g.met.S.Store.only_now old f left)) in
    let behind = goes_on g.S.Store.moment g.S.Store.left_since old old c.write_at.new.self P _ at_start c.write_at.ensures.time (λ f now. c.write_at.ensures.crash f now) in
    goes_on g.S.Store.moment g.S.Store.left_since old c.write_at.new.self c.sync.new.self P _ behind c.sync.ensures.time (λ f now. c.write_at.ensures.crash f (c.sync.ensures.crash f now))
