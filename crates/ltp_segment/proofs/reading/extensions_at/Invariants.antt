use Rattle.std.proofs.Common.{◌≡◌, ◌-◌, ◌≤◌, length}
use Rattle.wire_fields.specs.Reading.{read}
use Rattle.wire_fields.specs.Words.{repeated}
use Rattle.ltp_segment.specs.Table.{extension, extensions}
use Rattle.ltp_segment.proofs.reading.extensions_at.Given as goal

abbrev pub invariant-passing : goal.invariant-passing
invariant-passing l = record {
  after : l.at ≤ l.after;
  place : l.after ≤ length l.text;
  left : read (repeated (l.count - l.counter) (λ _. extension) tt) l.text l.after ≡ read (extensions l.count) l.text l.at;
}
