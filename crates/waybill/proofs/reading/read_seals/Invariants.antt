-- What is left to read gives what all of it gives, and of the earlier seals the last is kept.
use Rattle.std.proofs.Common.{◌≡◌, ◌-◌}
use Rattle.wire_fields.specs.Reading.{read}
use Rattle.wire_fields.specs.Words.{repeated, one_more}
use Rattle.wire_fields.specs.Gives.{IsOn}
use Rattle.waybill.specs.Table.{seal, last_of, seals_listed}
use Rattle.waybill.proofs.reading.read_seals.Given as goal

abbrev pub invariant-seals : goal.invariant-seals
invariant-seals l = record {
  place : IsOn l.at l.text l.after;
  least : last_of 0 l.seals.items ≡ l.least;
  rest : read (repeated (l.count - l.counter) (one_more seal) l.seals.items) l.text l.after ≡ read (seals_listed l.count) l.text l.at;
}
