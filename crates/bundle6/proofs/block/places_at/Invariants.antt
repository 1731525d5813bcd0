-- What is left to read gives what all of it gives.
use Rattle.std.proofs.Common.{◌≡◌, ◌-◌}
use Rattle.endpoint.specs.Places.{endpoints_at}
use Rattle.wire_fields.specs.Reading.{read}
use Rattle.wire_fields.specs.Words.{repeated, one_more, listed}
use Rattle.wire_fields.specs.Gives.{IsOn}
use Rattle.bundle6.specs.Table.{name}
use Rattle.bundle6.proofs.block.places_at.Given as goal

abbrev pub invariant-references : goal.invariant-references
invariant-references l = record {
  place : IsOn l.at l.text l.after;
  rest : read (repeated (l.count - l.counter) (one_more (λ earlier. name l.dictionary)) (endpoints_at l.dictionary l.places)) l.text l.after
      ≡ read (listed l.count (λ earlier. name l.dictionary)) l.text l.at;
}
