-- The names of the causes.
use Rattle.std.specs.Prelude.{ℕ, List, codes}
use Rattle.journal_file.specs.declared.fault.JournalCause.{JournalCause}
use Rattle.journal_file.specs.declared.fault.JournalCause.TheVariants as causes

abbrev pub word_of : JournalCause → List ℕ
word_of causes.Start = codes "Start"
word_of causes.Kind = codes "Kind"
word_of causes.Number = codes "Number"
word_of causes.Id = codes "Id"
word_of causes.Face = codes "Face"
word_of causes.How = codes "How"
word_of causes.Crc = codes "Crc"
word_of causes.Truncated = codes "Truncated"
