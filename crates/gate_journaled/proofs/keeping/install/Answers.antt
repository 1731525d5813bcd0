-- What the journal says after an install, and at any moment of it.
use Rattle.std.proofs.Common.{[]}
use Rattle.journal_file.specs.Ties.{kept_of}
use Rattle.gate_journaled.proofs.SaysLemmas.{says-installed, moments-installed}
use Rattle.gate_journaled.proofs.keeping.install.Goals as goal

pub returns-in_err-gate-clause-any_moment : goal.returns-in_err-gate-clause-any_moment
returns-in_err-gate-clause-any_moment g c = λ tells says.
    let old = c.args.journal.now in
    moments-installed g.S.Store.moment g.S.Store.left_since old.store c.install.new.self.store (g.S.Store.may_leave old.store) old.gate [] (kept_of c.args.kept.now)
    (g.O.Outside.made c.args.outside.now) (g.S.Store.seen old.store) (tells old.store) says c.install.ensures.any_moment

pub returns-in_err-install-clause-any_moment : goal.returns-in_err-install-clause-any_moment
returns-in_err-install-clause-any_moment g c = λ tells says.
    let old = c.args.journal.now in
    moments-installed g.S.Store.moment g.S.Store.left_since old.store c.install.new.self.store (g.S.Store.may_leave old.store) old.gate [] (kept_of c.args.kept.now)
    (g.O.Outside.made c.args.outside.now) (g.S.Store.seen old.store) (tells old.store) says c.install.ensures.any_moment

pub returns-clause-any_moment : goal.returns-clause-any_moment
returns-clause-any_moment g c = λ tells says.
    let old = c.args.journal.now in
    moments-installed g.S.Store.moment g.S.Store.left_since old.store c.install.new.self.store (g.S.Store.may_leave old.store) old.gate [] (kept_of c.args.kept.now)
    (g.O.Outside.made c.args.outside.now) (g.S.Store.seen old.store) (tells old.store) says c.install.ensures.any_moment

pub returns-clause-says : goal.returns-clause-says
returns-clause-says g c = λ tells.
    let old = c.args.journal.now in
    let new = c.install.new.self in
    says-installed (g.S.Store.seen old.store) (g.S.Store.seen new.store) (g.S.Store.may_leave new.store) new.gate (kept_of c.args.kept.now)
    c.in_ok-gate.ensures.rests (g.O.Outside.made c.args.outside.now) (g.O.Outside.made c.install-2.new.self) (tells old.store) c.in_ok-install.ensures.made
