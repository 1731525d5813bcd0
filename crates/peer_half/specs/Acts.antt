-- What a run makes, in the order made.

use Rattle.std.specs.Prelude.{ℕ, List, [], ◌++◌}
use Rattle.gate_cases.specs.declared.face.Face.{Face}
use Rattle.journal_file.specs.Values.{KeptValue, RecordValue}
use Rattle.peer_half.specs.Standing.{Standing}

-- a datagram was sent at a face, or lost: its send failed; a line was written; the metrics were put
-- in place; records were committed to the journal; its file was made anew of what is kept
pub data Act : Type 0 where
  sent : Face → List ℕ → Act
  lost : Face → List ℕ → Act
  said : List ℕ → Act
  shown : List ℕ → Act
  committed : List RecordValue → Act
  installed : KeptValue → Act

-- how a run stands after a part of a half, and what that made
pub record Acted : Type 0 where
  pub standing : Standing
  pub acts : List Act

-- nothing is made
abbrev pub stands : Standing → Acted
stands s = record { standing = s; acts = [] }

-- acts, and a part after them
abbrev pub after_acts : List Act → Acted → Acted
after_acts acts more = record { standing = more.standing; acts = acts ++ more.acts }

-- one part, and then another
abbrev pub and_then : Acted → (Standing → Acted) → Acted
and_then first next = after_acts first.acts (next first.standing)
