-- What a gateway keeps over a stop, and the records of its journal, as values.
use Rattle.std.specs.Prelude.{ℕ, List, []}
use Rattle.gate_cases.specs.declared.face.Face.{Face}
use Rattle.journal_file.specs.declared.record.How.{How}
use Rattle.journal_file.specs.declared.kept.Pending.{Pending}
use Rattle.journal_file.specs.declared.kept.Mark.{Mark}

pub record KeptValue : Type 0 where
  -- the blocks that were begun and haven't ended, in the order of their ids
  pub pending : List Pending
  -- the peers' sessions about which a report went out before they were handed up
  pub marks : List Mark
  -- for each face a number below which no session is begun any more
  pub old_reserved : ℕ
  pub new_reserved : ℕ
  -- the greatest id that was given
  pub greatest : ℕ

pub data RecordValue : Type 0 where
  -- a block is begun at a face, under an id; where it has the moment at which its octets came, with that
  a_begun : Pending → RecordValue
  -- the session of an id ended
  a_done : ℕ → How → RecordValue
  -- a report goes out about a session of the peer
  a_mark : Mark → RecordValue
  -- that session was handed up, or its sender cancelled it
  a_clear : Face → ℕ → RecordValue
  -- the numbers below this one may have been used
  a_reserved : Face → ℕ → RecordValue

abbrev pub nothing_kept : KeptValue
nothing_kept = record {
  pending = [];
  marks = [];
  old_reserved = 0;
  new_reserved = 0;
  greatest = 0;
}
