use Rattle.std.proofs.Common.{◌≡◌, ◌++◌, take}
use Rattle.std.specs.List.{flat_map}
use Rattle.bundle_meaning.specs.Body.{name_octets}
use Rattle.bundle_meaning.proofs.wrap_new.write_names.Given as goal

abbrev pub invariant-writing : goal.invariant-writing
invariant-writing l = l.out.items ≡ l.initial.out.items ++ flat_map name_octets (take l.at l.refs)
