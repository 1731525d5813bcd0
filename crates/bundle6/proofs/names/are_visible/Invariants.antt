use Rattle.std.proofs.Common.{◌≡◌, take}
use Rattle.std.specs.List.{list_all}
use Rattle.endpoint.specs.Endpoints.{is_visible}
use Rattle.bundle6.proofs.names.are_visible.Given as goal

abbrev pub invariant-looking : goal.invariant-looking
invariant-looking l = l.all ≡ list_all is_visible (take l.octet-index l.octets)
