use Rattle.std.proofs.Common.{◌≡◌, length, ◌-◌, ◌+◌, ◌*◌, ◌≤◌, drop}
use Rattle.std.specs.String.{string_bytes, string_len, string_capacity}
use Rattle.serve_run.proofs.ActLemmas.{Sending}
use Rattle.serve_run.proofs.sending.send_all.Given as goal

abbrev pub invariant-sending : goal.invariant-sending
invariant-sending g l = record {
  sending : Sending l.out (drop l.at l.out) (string_bytes l.initial.notes) (string_bytes l.notes)
      (g.E.Edges.outside l.initial.edges) (g.E.Edges.outside l.edges);
  sink : g.E.Edges.sink l.edges ≡ g.E.Edges.sink l.initial.edges;
  lent : g.E.Edges.lent l.edges ≡ g.E.Edges.lent l.initial.edges;
  inside : l.at ≤ length l.out;
  long : string_len l.notes ≤ string_len l.initial.notes + 14 * l.at;
  capacity : string_capacity l.initial.notes ≤ string_capacity l.notes;
}

abbrev pub decreases-sending : goal.decreases-sending
decreases-sending g l = length l.out - l.at
