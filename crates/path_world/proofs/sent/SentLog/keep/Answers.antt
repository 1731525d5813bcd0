use Rattle.std.proofs.Common.{rules}
use Rattle.path_world.proofs.SentLemmas.{octets-pushed}
use Rattle.path_world.proofs.sent.SentLog.keep.Goals as goal

pub invariant_of-self-2 : goal.invariant_of-self-2
invariant_of-self-2 c =
    octets-pushed c.self.inside.items.items c.push.new.self.items _ c.self.inside.octets c.in_ok-octets.octets c.self.invariant (search rules) c.in_ok-push.ensures.items
