use Rattle.std.proofs.Common.{refl}
use Rattle.peer_records.proofs.TiedLemmas.{next-none, next-found, next-missed}
use Rattle.peer_records.proofs.keeping.Keeping.next_kept.Goals as goal

pub returns-in_err-id-clause-none : goal.returns-in_err-id-clause-none
returns-in_err-id-clause-none c =
    next-none c.self.inside.said c.self.inside.held c.self.inside.to_add c.args.self.now c.args.face c.from_residual.result c.self.invariant c.self.view_is c.in_err-id.ensures.none

pub returns-clause-found : goal.returns-clause-found
returns-clause-found c =
    next-found c.self.inside.said c.self.inside.held c.self.inside.to_add c.args.self.now c.args.face c.in_ok-id.id ((c.self.inside.said).kept).pending c.find.result
    c.self.invariant c.self.view_is c.in_ok-id.ensures.found refl c.find.ensures.found c.find.ensures.id

pub returns-clause-none : goal.returns-clause-none
returns-clause-none c =
    next-missed c.self.inside.said c.self.inside.held c.self.inside.to_add c.args.self.now c.args.face c.in_ok-id.id ((c.self.inside.said).kept).pending c.find.result
    c.self.invariant c.self.view_is c.in_ok-id.ensures.found refl c.find.ensures.none
