-- What a gateway knows of its journal while it runs.

use Rattle.std.specs.Prelude.{ℕ, ◌+◌, ◌^◌, min, Bool, not, nat_le, List, [], ◌∷◌, length}
use Rattle.std.specs.List.{filter}
use Rattle.journal_file.specs.declared.kept.Pending.{Pending}
use Rattle.journal_file.specs.declared.kept.Mark.{Mark}
use Rattle.journal_file.specs.Values.{KeptValue}
use Rattle.journal_file.specs.Keeping.{greater}
use Rattle.gate_records.specs.declared.named.Named.{Named}

pub record KeepingValue : Type 0 where
  -- what the journal says, once the records so far are in it
  pub kept : KeptValue
  -- the own sessions whose block is pending, each with the id of that
  pub named : List Named

-- how many octets the pending blocks have
unfoldable pub octets_of : List Pending → ℕ
octets_of [] = 0
octets_of (p ∷ pending) = length p.block + octets_of pending

-- ---- numbers that are reserved

-- how many session numbers are reserved ahead, up to the last one
abbrev pub AHEAD : ℕ
AHEAD = 4096

abbrev pub NUMBERS : ℕ
NUMBERS = 2 ^ 32

abbrev pub reserve_to : ℕ → ℕ
reserve_to next = min (next + AHEAD) NUMBERS

-- ---- at a start

-- marks go after 30 days
abbrev pub MARK_DAYS : ℕ
MARK_DAYS = 2592000000

abbrev pub is_young : ℕ → Mark → Bool
is_young wall mark = not (nat_le (mark.when + MARK_DAYS) wall)

-- the first session of a face: the number that is set, or else the first that isn't reserved
abbrev pub first_of : ℕ → ℕ → ℕ
first_of set reserved = greater set reserved

-- what is kept from an earlier run, at the first reading of the wall clock, where the faces' first
-- sessions are set to these numbers
abbrev pub recovered : ℕ → ℕ → ℕ → KeptValue → KeptValue
recovered wall old_first new_first kept = record {
  pending = kept.pending;
  marks = filter (is_young wall) kept.marks;
  old_reserved = reserve_to (first_of old_first kept.old_reserved);
  new_reserved = reserve_to (first_of new_first kept.new_reserved);
  greatest = kept.greatest;
}

-- no session of this run has a pending block yet
abbrev pub starts_keeping : KeptValue → KeepingValue
starts_keeping kept = record { kept = kept; named = [] }
