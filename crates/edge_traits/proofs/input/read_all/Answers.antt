use Rattle.std.proofs.Common.{arith, rules, ◌∙◌, ap, ℕ, List, ◌++◌}
use Rattle.std.proofs.lemmas.List.{take-append-le}
use Rattle.edge_traits.proofs.FaultsLemmas.{NoneFailed-same, NoneFailed-more, LastFailed-after}
use Rattle.edge_traits.proofs.ContentLemmas.{Consumes-none, Consumes-more, Consumes-took}
use Rattle.edge_traits.proofs.input.read_all.Goals as goal

pub reading-init : goal.reading-init
reading-init g c = record {
  read = rw c.new-input.ensures.items (Consumes-none _);
  calls = NoneFailed-same _;
  within = omega (arith, c.new-input.ensures.len);
}

pub returns-in-Ok-eq0-clause-calls : goal.returns-in-Ok-eq0-clause-calls
returns-in-Ok-eq0-clause-calls g c = NoneFailed-more _ _ _ c.reading.invariant.calls c.in-Ok-eq0.ensures.calls

pub returns-in-Err-clause-calls : goal.returns-in-Err-clause-calls
returns-in-Err-clause-calls g c = LastFailed-after _ _ _ c.reading.invariant.calls c.in-Err.ensures.calls

pub reading-preserved : goal.reading-preserved
reading-preserved g c = record {
  read = Consumes-took _ _ _ _ _ _ c.reading.invariant.read c.in-Ok.ensures.took
      (c.in-Ok-extend_from_slice.ensures.items ∙ ap (λ (v : List ℕ). c.reading.input.items ++ v) (take-append-le _ _ _ c.in-Ok.ensures.bound.0));
  calls = NoneFailed-more _ _ _ c.reading.invariant.calls c.in-Ok.ensures.calls;
  within = search rules;
}

pub returns-in-Err-extend_from_slice-clause-came : goal.returns-in-Err-extend_from_slice-clause-came
returns-in-Err-extend_from_slice-clause-came g c =
    (_, Consumes-more _ _ _ _ _ c.reading.invariant.read c.in-Ok.ensures.took.read)

pub returns-in-Err-extend_from_slice-clause-calls : goal.returns-in-Err-extend_from_slice-clause-calls
returns-in-Err-extend_from_slice-clause-calls g c = NoneFailed-more _ _ _ c.reading.invariant.calls c.in-Ok.ensures.calls
