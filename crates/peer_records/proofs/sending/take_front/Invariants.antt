use Rattle.std.proofs.Common.{◌≡◌, ◌++◌, take, drop}
use Rattle.peer_records.specs.Keeping.{ids_in}
use Rattle.peer_records.proofs.sending.take_front.Given as goal

abbrev pub invariant-taking : goal.invariant-taking
invariant-taking l = record {
  taken : l.ids.items ≡ l.initial.ids.items ++ ids_in (take l.counter l.initial.waiting.items);
  left : l.waiting.items ≡ drop l.counter l.initial.waiting.items;
}
