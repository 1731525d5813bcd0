use Rattle.std.proofs.Common.{◌≡◌, ◌≤◌, ◌-◌, length, drop}
use Rattle.ltp_world.specs.Marks.{next_place}
use Rattle.ltp_world.proofs.world.LinkWorld.next_new.Given as goal

abbrev pub invariant-seeking : goal.invariant-seeking
invariant-seeking l = record {
  low : l.fn.from ≤ l.k;
  within : l.k ≤ length l.self.sent;
  found : next_place l.end l.k (drop l.k l.self.sent) ≡ next_place l.end l.fn.from (drop l.fn.from l.self.sent);
}

abbrev pub decreases-seeking : goal.decreases-seeking
decreases-seeking l = length l.self.sent - l.k
