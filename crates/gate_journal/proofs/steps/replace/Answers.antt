use Rattle.std.proofs.Common.{◌≡◌, ◌⊎◌, inl}
use Rattle.std.proofs.lemmas.Result.{on_ok_weaker}
use Rattle.gate_journal.proofs.StepLemmas.{weaker}
use Rattle.gate_journal.proofs.NewLemmas.{placed, placed-on, if_some_of, on_ok_of, seen-new, durable-new}
use Rattle.gate_journal.proofs.steps.replace.Goals as goal

pub returns-in_err-draft-clause-any_moment : goal.returns-in_err-draft-clause-any_moment
returns-in_err-draft-clause-any_moment g c =
    let old = c.args.store.now in
    if_some_of (g.S.Store.seen old) _
    (weaker g.S.Store.moment g.S.Store.left_since old c.draft.new.store (g.S.Store.may_leave old) (λ f. g.S.Store.may_leave old f ⊎ (f ≡ c.args.octets.now)) (λ f was. inl was) c.draft.ensures.any_moment)

pub returns-in_err-install-clause-any_moment : goal.returns-in_err-install-clause-any_moment
returns-in_err-install-clause-any_moment g c =
    let old = c.args.store.now in
    placed g.S.Store.moment g.S.Store.left_since (g.S.Store.seen old) old c.draft.new.store c.install.new.self
    (g.S.Store.may_leave old) (g.S.Store.may_leave c.draft.new.store) (g.S.Store.draft_may_leave c.draft.new.store) (g.S.Store.may_leave c.install.new.self)
    (g.S.Store.draft c.draft.new.store) c.args.octets.now c.draft.ensures.any_moment c.draft.ensures.crash c.in_ok-draft.ensures.draft c.install.ensures.crash c.install.ensures.time

pub returns-clause-any_moment : goal.returns-clause-any_moment
returns-clause-any_moment g c =
    let old = c.args.store.now in
    placed-on g.S.Store.moment g.S.Store.left_since (g.S.Store.seen old) old c.draft.new.store c.install.new.self c.sync.new.self
    (g.S.Store.may_leave old) (g.S.Store.may_leave c.draft.new.store) (g.S.Store.draft_may_leave c.draft.new.store) (g.S.Store.may_leave c.install.new.self) (g.S.Store.may_leave c.sync.new.self)
    (g.S.Store.draft c.draft.new.store) c.args.octets.now c.draft.ensures.any_moment c.draft.ensures.crash c.in_ok-draft.ensures.draft c.install.ensures.crash c.install.ensures.time
    c.sync.ensures.crash c.sync.ensures.time

pub returns-clause-seen : goal.returns-clause-seen
returns-clause-seen g c =
    on_ok_of c.sync.result _
    (seen-new (g.S.Store.seen c.args.store.now) (g.S.Store.seen c.draft.new.store) (g.S.Store.seen c.install.new.self) (g.S.Store.seen c.sync.new.self)
    (g.S.Store.draft c.draft.new.store) c.args.octets.now (g.S.Store.draft_may_leave c.draft.new.store) c.draft.ensures.seen c.in_ok-draft.ensures.draft c.in_ok-install.ensures.seen c.sync.ensures.seen)

pub returns-clause-durable : goal.returns-clause-durable
returns-clause-durable g c =
    on_ok_weaker c.sync.result
    (λ only. durable-new (g.S.Store.seen c.args.store.now) (g.S.Store.seen c.draft.new.store) (g.S.Store.seen c.install.new.self)
    (g.S.Store.draft c.draft.new.store) c.args.octets.now (g.S.Store.draft_may_leave c.draft.new.store) (g.S.Store.may_leave c.sync.new.self)
    c.draft.ensures.seen c.in_ok-draft.ensures.draft c.in_ok-install.ensures.seen only)
    c.sync.ensures.durable
