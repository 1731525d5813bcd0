-- What the journal says after a commit, and at any moment of it.
use Rattle.std.proofs.Common.{map}
use Rattle.journal_file.specs.Ties.{record_of}
use Rattle.gate_journaled.proofs.SaysLemmas.{says-committed, moments-committed}
use Rattle.gate_journaled.proofs.keeping.commit.Goals as goal

pub returns-in_err-length-clause-any_moment : goal.returns-in_err-length-clause-any_moment
returns-in_err-length-clause-any_moment g c = λ tells says.
    let old = c.args.journal.now in
    moments-committed g.S.Store.moment g.S.Store.left_since old.store c.commit.new.self.store (g.S.Store.may_leave old.store) old.gate (map record_of c.args.records.now)
    (g.O.Outside.made c.args.outside.now) (g.S.Store.seen old.store) (tells old.store) says c.commit.ensures.any_moment

pub returns-in_err-commit-clause-any_moment : goal.returns-in_err-commit-clause-any_moment
returns-in_err-commit-clause-any_moment g c = λ tells says.
    let old = c.args.journal.now in
    moments-committed g.S.Store.moment g.S.Store.left_since old.store c.commit.new.self.store (g.S.Store.may_leave old.store) old.gate (map record_of c.args.records.now)
    (g.O.Outside.made c.args.outside.now) (g.S.Store.seen old.store) (tells old.store) says c.commit.ensures.any_moment

pub returns-clause-any_moment : goal.returns-clause-any_moment
returns-clause-any_moment g c = λ tells says.
    let old = c.args.journal.now in
    moments-committed g.S.Store.moment g.S.Store.left_since old.store c.commit.new.self.store (g.S.Store.may_leave old.store) old.gate (map record_of c.args.records.now)
    (g.O.Outside.made c.args.outside.now) (g.S.Store.seen old.store) (tells old.store) says c.commit.ensures.any_moment

pub returns-clause-says : goal.returns-clause-says
returns-clause-says g c = λ tells says.
    let old = c.args.journal.now in
    let new = c.commit.new.self in
    says-committed (g.S.Store.seen old.store) (g.S.Store.seen new.store) (g.S.Store.may_leave old.store) (g.S.Store.may_leave new.store) old.gate new.gate
    (map record_of c.args.records.now) c.in_ok-length.ensures.done (g.O.Outside.made c.args.outside.now) (g.O.Outside.made c.commit-2.new.self) (tells old.store)
    c.in_ok-commit.ensures.made says
