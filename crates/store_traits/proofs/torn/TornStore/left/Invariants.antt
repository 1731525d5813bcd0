-- What is left by the changes to come is what is left by all of them.
use Rattle.std.proofs.Common.{◌≡◌, map, take, drop}
use Rattle.store_traits.specs.Torn.{tear_of, left_by_all}
use Rattle.store_traits.proofs.torn.TornStore.left.Given as goal

abbrev pub invariant-changes : goal.invariant-changes
invariant-changes l =
    left_by_all (map tear_of (drop l.at l.tears)) (drop l.at (take l.moment l.self.log.items)) l.file.items
    ≡ left_by_all (map tear_of l.tears) (take l.moment l.self.log.items) l.self.first.items
