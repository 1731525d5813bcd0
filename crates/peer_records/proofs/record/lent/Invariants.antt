use Rattle.std.proofs.Common.{◌≡◌, take, map}
use Rattle.journal_file.specs.Ties.{record_of}
use Rattle.peer_records.specs.Said.{said_by}
use Rattle.peer_records.proofs.record.lent.Given as goal

abbrev pub invariant-lending : goal.invariant-lending
invariant-lending l = map record_of l.lent.items ≡ map said_by (take l.said-index l.records)
