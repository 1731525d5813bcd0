use Rattle.store_traits.proofs.TornLemmas.{done-start, left-start}
use Rattle.store_traits.proofs.torn.TornStore.new.Goals as goal

pub invariant_of-result : goal.invariant_of-result
invariant_of-result c = record {
  done = done-start c.in_ok-octets.octets.items c.in_ok-first.first.items c.args.octets.now c.new.result.items c.new.ensures.items c.in_ok-octets.ensures.items c.in_ok-first.ensures.items;
}

pub returns-clause-left : goal.returns-clause-left
returns-clause-left c = left-start c.in_ok-first.first.items c.args.octets.now c.new.result.items c.new.ensures.items c.in_ok-first.ensures.items
