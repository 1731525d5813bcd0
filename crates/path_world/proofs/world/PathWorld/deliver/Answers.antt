use Rattle.std.proofs.Common.{◌≤◌, length, arith, ap}
use Rattle.path_laws.specs.Path.{delivers}
use Rattle.path_world.specs.Values.{PathValue}
use Rattle.path_world.proofs.RunLemmas.{no-datagram, sent-once}
use Rattle.path_world.proofs.WorldLemmas.{did-happens}
use Rattle.path_world.proofs.world.PathWorld.deliver.Goals as goal

pub returns-then-k-len-clause-does : goal.returns-then-k-len-clause-does
returns-then-k-len-clause-does c =
    let same = ap (λ (v : PathValue). length v.sent) c.self.view_is in
    let past : length c.args.self.now.sent ≤ c.args.k = omega (arith, same, c.len.ensures, c.if-k-len.true) in
    (past, no-datagram c.args.self.now c.args.k c.requires.whole past)

pub returns-clause-as_sent : goal.returns-clause-as_sent
returns-clause-as_sent c =
    sent-once c.received_as_sent.ensures c.args.self.now _ (delivers c.args.k) c.in_ok-effects.effects
    (did-happens c.self.inside.spent c.self.inside.parts c.deliver.new.self c.args.self.now (delivers c.args.k) c.in_ok-effects.effects c.self.view_is c.requires.whole c.in_ok-effects.ensures)
