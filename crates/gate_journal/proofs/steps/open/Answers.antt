use Rattle.gate_journal.proofs.OpenLemmas.{first-part, both-parts}
use Rattle.gate_journal.proofs.steps.open.Goals as goal

pub returns-in_err-put-clause-any_moment : goal.returns-in_err-put-clause-any_moment
returns-in_err-put-clause-any_moment g c =
    first-part c.args.gate c.args.octets.now g.S.Store.moment g.S.Store.left_since c.args.store.now c.put.new.store c.put.new.store
    (g.S.Store.may_leave c.args.store.now) (g.S.Store.may_leave c.put.new.store) (g.S.Store.seen c.args.store.now) c.put.ensures.any_moment

pub returns-clause-any_moment : goal.returns-clause-any_moment
returns-clause-any_moment g c =
    both-parts c.args.gate c.args.octets.now g.S.Store.moment g.S.Store.left_since c.args.store.now c.put.new.store c.put-2.new.store
    (g.S.Store.may_leave c.args.store.now) (g.S.Store.may_leave c.put.new.store) (g.S.Store.seen c.args.store.now) (g.S.Store.seen c.put.new.store)
    c.in_ok-put.ensures.seen c.in_ok-put.ensures.durable c.put.ensures.any_moment c.put-2.ensures.any_moment
