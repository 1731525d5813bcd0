-- What is left to read gives what all of it gives.
use Rattle.wire_fields.specs.Gives.{IsOn}
use Rattle.bundle_meaning.proofs.NamesLemmas.{SoFar}
use Rattle.bundle_meaning.proofs.wrap_new.names_at.Given as goal

abbrev pub invariant-passing : goal.invariant-passing
invariant-passing l = record {
  place : IsOn l.at l.text l.behind;
  so_far : SoFar l.count l.counter l.text l.behind l.at;
}
