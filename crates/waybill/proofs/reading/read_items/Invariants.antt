-- What is left to read gives what all of it gives.
use Rattle.std.proofs.Common.{◌≡◌, ◌-◌}
use Rattle.wire_fields.specs.Reading.{read}
use Rattle.wire_fields.specs.Words.{until, one_more_until}
use Rattle.wire_fields.specs.Gives.{IsOn}
use Rattle.waybill.specs.Table.{item, is_last, items_listed}
use Rattle.waybill.proofs.reading.read_items.Given as goal

abbrev pub invariant-items : goal.invariant-items
invariant-items l = record {
  place : IsOn l.at l.text l.after;
  rest : read (until (l.most - l.i) (one_more_until item is_last) l.items.items) l.text l.after ≡ read (items_listed l.most) l.text l.at;
}
