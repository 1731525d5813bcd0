-- What is left to read gives what all of it gives, and what was read are records.
use Rattle.std.proofs.Common.{◌-◌, length}
use Rattle.wire_fields.specs.Reading.{read}
use Rattle.wire_fields.specs.Gives.{IsOn}
use Rattle.journal_file.specs.Values.{nothing_kept}
use Rattle.journal_file.specs.Table.{records}
use Rattle.journal_file.proofs.RecordLemmas.{SoFar}
use Rattle.journal_file.proofs.WantsLemmas.{Passed}
use Rattle.journal_file.proofs.reading.read_records.Given as goal

abbrev pub decreases-records : goal.decreases-records
decreases-records l = length l.text - l.after

abbrev pub invariant-records : goal.invariant-records
invariant-records l = record {
  place : IsOn l.at l.text l.after;
  so_far : SoFar l.text l.after l.book (read (records (length l.text) nothing_kept) l.text l.at);
  passed : Passed l.text l.after l.book;
}
