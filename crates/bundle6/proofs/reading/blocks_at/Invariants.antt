-- What is left to read gives what all of it gives, and what was seen is told by the blocks.
use Rattle.std.proofs.Common.{◌≡◌, ◌≤◌, ◌+◌, ◌-◌, [], length}
use Rattle.wire_fields.specs.Reading.{read}
use Rattle.wire_fields.specs.Words.{until}
use Rattle.wire_fields.specs.Gives.{IsOn}
use Rattle.bundle6.specs.Table.{next_block, has_payload, others}
use Rattle.bundle6.specs.Seen.{how_many}
use Rattle.bundle6.proofs.reading.blocks_at.Given as goal

abbrev pub invariant-reading : goal.invariant-reading
invariant-reading l = record {
  place : IsOn l.at l.text l.after;
  paid : l.seen.paid ≡ has_payload l.found;
  others : l.seen.others ≡ others l.found;
  few : l.seen.others ≤ l.most;
  count : length l.found ≡ how_many l.seen;
  rest : read (until (l.most + 1 - length l.found) (next_block l.most l.part l.dictionary) l.found) l.text l.after
      ≡ read (until (l.most + 1) (next_block l.most l.part l.dictionary) []) l.text l.at;
}

abbrev pub decreases-reading : goal.decreases-reading
decreases-reading l = l.most + 1 - length l.found
