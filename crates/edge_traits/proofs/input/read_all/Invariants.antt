use Rattle.std.proofs.Common.{◌+◌, ◌-◌, ◌≤◌, vec_len}
use Rattle.std.specs.Io.KnownBytes.{Consumes}
use Rattle.edge_traits.specs.Faults.{NoneFailed, calls_of}
use Rattle.edge_traits.proofs.input.read_all.Given as goal

abbrev pub invariant-reading : goal.invariant-reading
invariant-reading g l = record {
  read : Consumes (g.S.Source.left l.initial.source) (g.S.Source.left l.source) l.input.items;
  calls : NoneFailed (calls_of g.S.Source.faults g.S.Source.failing l.initial.source) (calls_of g.S.Source.faults g.S.Source.failing l.source);
  within : vec_len l.input ≤ l.most + 1;
}

abbrev pub decreases-reading : goal.decreases-reading
decreases-reading g l = l.most + 1 - vec_len l.input
