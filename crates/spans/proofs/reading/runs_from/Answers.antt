use Rattle.std.proofs.Common.{leb, filter, List, sym, ap, subst, ◌∙◌}
use Rattle.spans.specs.declared.range.Run.{Run}
use Rattle.spans.specs.Chunks.{before, from_there}
use Rattle.spans.specs.Runs.{AreApart}
use Rattle.spans.proofs.Apart.{AreApart-right}
use Rattle.spans.proofs.Joined.{joined-place}
use Rattle.spans.proofs.Reaching.{reaching-before, reaching-first}
use Rattle.spans.proofs.reading.runs_from.Goals as goal

pub returns : goal.returns
returns c =
    let chunks = c.args.chunks.now in
    let p = c.reaching.result in
    let front = before chunks p.chunk p.at in
    let back = from_there chunks p.chunk p.at in
    let place = joined-place chunks p.chunk p.at in
    let apart = AreApart-right 0 front back (subst (λ (xs : List Run). AreApart 0 xs) place c.requires.apart) in
    c.from_place.ensures
    ∙ sym (ap (λ (xs : List Run). filter (λ r. leb c.args.place r.to) xs) place
    ∙ (reaching-before c.args.place front back c.reaching.ensures.before
    ∙ reaching-first c.args.place 0 back apart c.reaching.ensures.reached))
