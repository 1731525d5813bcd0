-- The blocks so far, and one more.
use Rattle.std.proofs.Common.{◌+◌, Ok, sym, ap, ◌∙◌, arith, drop}
use Rattle.std.proofs.lemmas.List.{length-drop, take_rest}
use Rattle.bundle_judges.specs.declared.stand7.Stand.{Stand}
use Rattle.bundle_judges.specs.Here7.{HasBlock}
use Rattle.bundle_judges.proofs.StandLemmas7.{with_seen}
use Rattle.bundle_judges.proofs.StepLemmas7.{steps-same}
use Rattle.bundle_judges.proofs.StraightLemmas7.{reaches-last, reaches-more, block-some}
use Rattle.bundle_judges.proofs.stand7.Stand.blocks_here.Goals as goal

pub returns-then-is_last : goal.returns-then-is_last
returns-then-is_last c = λ text reaches.
    let now = c.following.invariant.so_far text reaches in
    let block : HasBlock c.following.self.part c.following.self.seen (drop c.following.to c.args.rest.now) c.in-Some.lead c.in-Some.more =
    rw (take_rest c.args.rest.now c.following.to) at c.in-Some.ensures in
    let last = reaches-last text c.args.rest.now c.following.self c.following.to c.in-Some.lead c.in-Some.more now block
    (rw c.count.ensures at (sym c.is_last.ensures ∙ c.if-is_last.true)) in
    let same = c.following.invariant.same in
    steps-same text c.args.self.now c.following.self (Ok c.end_here.result) c.end_here.new.self (ap (λ (s : Stand). s.came) same)
    (ap (λ (s : Stand). s.before) same) (ap (λ (s : Stand). s.stage) same)
    (c.end_here.ensures text c.args.rest.now last (take_rest c.args.rest.now (c.following.to + c.in-Some.more)))

pub following-smaller : goal.following-smaller
following-smaller c =
    let block : HasBlock c.following.self.part c.following.self.seen (drop c.following.to c.args.rest.now) c.in-Some.lead c.in-Some.more =
    rw (take_rest c.args.rest.now c.following.to) at c.in-Some.ensures in
    let some = block-some c.following.invariant.there.0 c.args.rest.now c.following.self c.following.to c.in-Some.lead c.in-Some.more c.following.invariant.there.1 block in
    omega (arith, some, block.within, length-drop c.following.to c.args.rest.now, c.following.invariant.within)

pub following-preserved : goal.following-preserved
following-preserved c =
    let block : HasBlock c.following.self.part c.following.self.seen (drop c.following.to c.args.rest.now) c.in-Some.lead c.in-Some.more =
    rw (take_rest c.args.rest.now c.following.to) at c.in-Some.ensures in
    let other = rw c.count.ensures at (sym c.is_last.ensures ∙ c.if-is_last.false) in
    record {
      same = ap (λ (s : Stand). with_seen s c.push.new.self) c.following.invariant.same;
      within = omega (arith, block.within, length-drop c.following.to c.args.rest.now, c.following.invariant.within);
      there = (
        c.following.invariant.there.0,
        reaches-more c.following.invariant.there.0 c.args.rest.now c.following.self c.following.to c.in-Some.lead c.in-Some.more
            c.following.invariant.there.1 block c.push.new.self other c.push.ensures,
      );
      so_far = λ text reaches.
          reaches-more text c.args.rest.now c.following.self c.following.to c.in-Some.lead c.in-Some.more
          (c.following.invariant.so_far text reaches) block c.push.new.self other c.push.ensures;
    }
