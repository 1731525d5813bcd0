use Rattle.std.proofs.Common.{◌≡◌, true, take, map}
use Rattle.std.specs.List.{list_all}
use Rattle.gate_cases.specs.Faces.{octets_at, fits_at}
use Rattle.gate_cases.proofs.sending.all_spelled.Given as goal

abbrev pub invariant-spelling : goal.invariant-spelling
invariant-spelling l = record {
  all : list_all (fits_at l.to) (take l.full-index l.records) ≡ true;
  pieces : l.pieces ≡ map (octets_at l.to) (take l.full-index l.records);
}
