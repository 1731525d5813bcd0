use Rattle.std.proofs.Common.{◌≡◌, true, take}
use Rattle.std.specs.List.{list_all}
use Rattle.gate_cases.specs.Faces.{fits_at}
use Rattle.gate_cases.proofs.sending.all_fit.Given as goal

abbrev pub invariant-fitting : goal.invariant-fitting
invariant-fitting l = list_all (fits_at l.to) (take l.full-index l.records) ≡ true
