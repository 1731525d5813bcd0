use Rattle.std.proofs.Common.{ap, sym}
use Rattle.path_world.specs.Values.{octets_in}
use Rattle.path_world.proofs.sent.SentLog.new.Goals as goal

pub invariant_of-result : goal.invariant_of-result
unfolding octets_in
invariant_of-result c = sym (ap octets_in c.new.ensures.items)
