use Rattle.std.proofs.lemmas.Result.{on_ok_weaker}
use Rattle.gate_journal.proofs.StepLemmas.{started}
use Rattle.gate_journal.proofs.NewLemmas.{same_on, draft-told}
use Rattle.gate_journal.proofs.steps.draft.Goals as goal

pub returns-in_err-start_new-clause-any_moment : goal.returns-in_err-start_new-clause-any_moment
returns-in_err-start_new-clause-any_moment g c =
    let old = c.args.store.now in
    let P = g.S.Store.may_leave old in
    let at_start = started g.S.Store.moment g.S.Store.left_since old P (λ f left. g.met.S.Store.only_now old f left) in
    same_on g.S.Store.moment g.S.Store.left_since old old c.start_new.new.self P P _ at_start (λ f p. p) c.start_new.ensures.crash c.start_new.ensures.time

pub returns-in_err-add-clause-any_moment : goal.returns-in_err-add-clause-any_moment
returns-in_err-add-clause-any_moment g c =
    let old = c.args.store.now in
    let P = g.S.Store.may_leave old in
    let at_start = started g.S.Store.moment g.S.Store.left_since old P (λ f left. g.met.S.Store.only_now old f left) in
    let begun = same_on g.S.Store.moment g.S.Store.left_since old old c.start_new.new.self P P _ at_start (λ f p. p) c.start_new.ensures.crash c.start_new.ensures.time in
    same_on g.S.Store.moment g.S.Store.left_since old c.start_new.new.self c.add.new.self P _ _ begun c.start_new.ensures.crash c.add.ensures.crash c.add.ensures.time

pub returns-clause-any_moment : goal.returns-clause-any_moment
returns-clause-any_moment g c =
    let old = c.args.store.now in
    let P = g.S.Store.may_leave old in
    let at_start = started g.S.Store.moment g.S.Store.left_since old P (λ f left. g.met.S.Store.only_now old f left) in
    let begun = same_on g.S.Store.moment g.S.Store.left_since old old c.start_new.new.self P P _ at_start (λ f p. p) c.start_new.ensures.crash c.start_new.ensures.time in
    let added = same_on g.S.Store.moment g.S.Store.left_since old c.start_new.new.self c.add.new.self P _ _ begun c.start_new.ensures.crash c.add.ensures.crash c.add.ensures.time in
    same_on g.S.Store.moment g.S.Store.left_since old c.add.new.self c.sync_new.new.self P _ _ added (λ f p. c.start_new.ensures.crash f (c.add.ensures.crash f p)) c.sync_new.ensures.crash c.sync_new.ensures.time

pub returns-clause-draft : goal.returns-clause-draft
returns-clause-draft g c =
    on_ok_weaker c.sync_new.result
    (λ only. draft-told (g.S.Store.seen c.args.store.now) (g.S.Store.seen c.start_new.new.self) (g.S.Store.seen c.add.new.self)
    (g.S.Store.draft c.start_new.new.self) (g.S.Store.draft c.add.new.self) (g.S.Store.draft c.sync_new.new.self) c.args.octets.now (g.S.Store.draft_may_leave c.sync_new.new.self)
    c.start_new.ensures.seen c.add.ensures.seen c.in_ok-start_new.ensures.draft c.in_ok-add.ensures.draft c.sync_new.ensures.draft only)
    c.sync_new.ensures.durable
