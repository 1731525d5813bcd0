use Rattle.std.proofs.Common.{List, sym, subst}
use Rattle.spans.specs.declared.range.Run.{Run}
use Rattle.spans.specs.Chunks.{before, from_there}
use Rattle.spans.specs.Runs.{AreApart, HasAll}
use Rattle.spans.proofs.Covering.{HasAll-first, FirstHasAll-all}
use Rattle.spans.proofs.Joined.{joined-place}
use Rattle.spans.proofs.reading.covers.Goals as goal

pub returns : goal.returns
returns c =
    let chunks = c.args.chunks.now in
    let p = c.reaching.result in
    let place = joined-place chunks p.chunk p.at in
    let front = before chunks p.chunk p.at in
    let back = from_there chunks p.chunk p.at in
    let apart = subst (λ (xs : List Run). AreApart 0 xs) place c.requires.apart in (
      λ h. subst (λ (xs : List Run). HasAll c.args.from c.args.to xs) (sym place) (HasAll-first c.args.from c.args.to front back (c.has_all.ensures.0 h)),
      λ h. c.has_all.ensures.1 (FirstHasAll-all c.args.from c.args.to front back c.requires.some apart c.reaching.ensures.before c.reaching.ensures.reached
          (subst (λ (xs : List Run). HasAll c.args.from c.args.to xs) place h)),
    )
