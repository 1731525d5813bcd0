-- What is left to read gives what all of it gives, and what was read is seen.
use Rattle.std.proofs.Common.{◌≡◌, ◌-◌, [], length}
use Rattle.wire_fields.specs.Reading.{read}
use Rattle.wire_fields.specs.Gives.{IsOn}
use Rattle.bundle7.specs.Table.{seen_of, blocks}
use Rattle.bundle7.proofs.reading.blocks_at.Given as goal

abbrev pub invariant-extensions : goal.invariant-extensions
invariant-extensions l = record {
  place : IsOn l.at l.text l.next;
  shows : l.seen ≡ seen_of l.exts.items;
  count : length l.exts.items ≡ l.i;
  rest : read (blocks l.fragment (l.most - l.i) l.exts.items) l.text l.next ≡ read (blocks l.fragment l.most []) l.text l.at;
}
