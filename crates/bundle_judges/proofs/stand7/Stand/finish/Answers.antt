-- The octets end inside a bundle.
use Rattle.std.proofs.Common.{arith}
use Rattle.bundle_judges.proofs.FeedLemmas7.{place-inside}
use Rattle.bundle_judges.proofs.stand7.Stand.finish.Goals as goal

pub overflow_add-result : goal.overflow_add-result
overflow_add-result c =
    let took = c.requires.came.1 in
    omega (
      arith,
      place-inside c.requires.came.0.kept _ took.come.stands.octets (c.cut.ensures c.requires.came.0.kept took.come),
      took.come.all,
      c.requires.counted,
    )
