use Rattle.std.proofs.Common.{◌≡◌, take}
use Rattle.std.specs.List.{filter}
use Rattle.fragments.specs.Cutting.{is_replicated}
use Rattle.fragments.proofs.kept.replicated.Given as goal

abbrev pub invariant-keeping : goal.invariant-keeping
invariant-keeping l = l.kept ≡ filter is_replicated (take l.ext-index l.exts)
