use Rattle.std.proofs.Common.{List, sym, subst, ap, ◌∙◌}
use Rattle.spans.specs.declared.range.Run.{Run}
use Rattle.spans.specs.Runs.{AreApart, has_place}
use Rattle.ltp_sender.specs.Ranges.{first_has}
use Rattle.ltp_sender.proofs.RangeLemmas.{reaching-forgets, has-reaching}
use Rattle.ltp_sender.proofs.ranges.Ranges.have.Goals as goal

pub returns-clause-rest : goal.returns-clause-rest
returns-clause-rest c k low =
    ap (λ (runs : List Run). has_place runs k) c.reach.ensures ∙ reaching-forgets c.args.from c.args.self.now k low

pub returns-clause-has : goal.returns-clause-has
returns-clause-has c =
    let apart = subst (λ (runs : List Run). AreApart 0 runs) c.reach.ensures c.first_has.ensures.apart in
    let both = has-reaching c.args.from c.args.to c.args.self.now c.requires apart in
    let is = c.first_has.ensures.has ∙ ap (λ (runs : List Run). first_has c.args.from c.args.to runs) c.reach.ensures in
    (λ yes. both.0 (sym is ∙ yes), λ all. is ∙ both.1 all)
