use Rattle.std.proofs.Common.{◌≡◌, rules}
use Rattle.store_traits.proofs.torn.write.Goals as goal

pub returns-clause-log : goal.returns-clause-log
returns-clause-log c =
    let same : c.in_ok-kept.kept.items ≡ c.args.octets.now = search rules in
    (c.in_ok-kept.kept, same, c.in_ok-push.ensures.items)
