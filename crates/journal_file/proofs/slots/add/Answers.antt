use Rattle.std.proofs.Common.{◌+◌, ◌∙◌, ap, arith}
use Rattle.journal_file.specs.Rising.{held}
use Rattle.journal_file.proofs.SlotLemmas.{below-weaker, held-append, push-below, push-rising}
use Rattle.journal_file.proofs.slots.add.Goals as goal

pub returns-clause-ok : goal.returns-clause-ok
returns-clause-ok c = ap held c.in_ok-push.ensures.items ∙ held-append c.args.slots.now.items _

pub returns-clause-rising : goal.returns-clause-rising
returns-clause-rising c =
    rw c.in_ok-push.ensures.items
    (push-rising c.args.slots.now.items _ (below-weaker (c.args.greatest + 1) c.args.slot.id c.args.slots.now.items (omega (arith, c.requires.above)) c.requires.bound) c.requires.rising)

pub returns-clause-bound : goal.returns-clause-bound
returns-clause-bound c =
    rw c.in_ok-push.ensures.items
    (push-below (c.args.slot.id + 1) c.args.slots.now.items _ (omega arith) (below-weaker (c.args.greatest + 1) (c.args.slot.id + 1) c.args.slots.now.items (omega (arith, c.requires.above)) c.requires.bound))
