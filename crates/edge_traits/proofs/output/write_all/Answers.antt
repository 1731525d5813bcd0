-- one write more
use Rattle.std.proofs.Common.{subst, sym, ℕ, List, Ok, Err}
use Rattle.std.proofs.lemmas.List.{take_rest}
use Rattle.edge_traits.proofs.ContentLemmas.{Written, Written-more, Written-start}
use Rattle.edge_traits.proofs.FaultsLemmas.{NoneFailed-same, NoneFailed-more, LastFailed-after, went}
use Rattle.edge_traits.proofs.output.write_all.Goals as goal

pub writing-init : goal.writing-init
writing-init g c = record { wrote = Written-start _ _; calls = NoneFailed-same _ }

pub writing-preserved : goal.writing-preserved
writing-preserved g c = record {
  wrote = subst (λ (v : List ℕ). Written (g.K.Sink.held c.args.sink.now) (g.K.Sink.held c.write.new.self) v c.args.text.now)
      (sym (take_rest c.writing.rest.now c.in-Ok.n))
      (Written-more _ _ _ _ _ c.in-Ok.n c.writing.invariant.wrote c.in-Ok.ensures.octets);
  calls = NoneFailed-more _ _ _ c.writing.invariant.calls (went (Ok c.in-Ok.n) _ _ c.in-Ok.ensures.count c.in-Ok.ensures.told);
}

pub returns-in-Err-clause-calls : goal.returns-in-Err-clause-calls
returns-in-Err-clause-calls g c =
    LastFailed-after _ _ _ c.writing.invariant.calls (went (Err c.in-Err.failed) _ _ c.in-Err.ensures.count c.in-Err.ensures.told)
